-- The errors in words.
use Rattle.std.specs.Prelude.{ℕ, List, codes}
use Rattle.icu_locale_core.specs.declared.error.LocaleError.{LocaleError}
use Rattle.icu_locale_core.specs.declared.error.LocaleError.TheVariants.{Malformed}

-- what `LocaleError::text` says
abbrev pub words_of : LocaleError → List ℕ
words_of Malformed = codes "malformed"
