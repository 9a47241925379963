-- The errors in words.
use Rattle.std.specs.Prelude.{ℕ, List, codes}
use Rattle.icu_locale_fallback.specs.declared.rows.TableError.{TableError}
use Rattle.icu_locale_fallback.specs.declared.rows.TableError.TheVariants.{DuplicateKey, BadKey}
use Rattle.icu_locale_fallback.specs.declared.rows.TableError.TheVariants.{BadValue, NoMemory}

-- what `TableError::text` says
abbrev pub words_of : TableError → List ℕ
words_of (DuplicateKey table row) = codes "duplicate key"
words_of (BadKey table row) = codes "bad key"
words_of (BadValue table row) = codes "bad value"
words_of NoMemory = codes "out of memory"
