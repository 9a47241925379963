-- The errors in words.
use Rattle.std.specs.Prelude.{ℕ, List, codes}
use Rattle.lazy_dfa.specs.Words as condition
use Rattle.icu_list.specs.declared.error.DataError.{DataError}
use Rattle.icu_list.specs.declared.error.DataError.TheVariants.{InvalidPattern, CannotStore}
use Rattle.icu_list.specs.declared.error.DataError.TheVariants.{Condition, MissingLocale}
use Rattle.icu_list.specs.declared.error.DataError.TheVariants.{NotJsonForm, NoMemory}

-- what `DataError::text` says
abbrev pub words_of : DataError → List ℕ
words_of InvalidPattern = codes "Invalid list pattern"
words_of CannotStore = codes "Found valid pattern that cannot be stored in ListFormatterPatterns"
words_of (Condition error) = condition.words_of error
words_of MissingLocale = codes "no such row"
words_of NotJsonForm = codes "not of the JSON form"
words_of NoMemory = codes "out of memory"
