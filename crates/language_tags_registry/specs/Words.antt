-- The errors in words.
use Rattle.std.specs.Prelude.{ℕ, List, codes}
use Rattle.language_tags_registry.specs.declared.error.RegistryError.{RegistryError}
use Rattle.language_tags_registry.specs.declared.error.RegistryError.TheVariants as rows
use Rattle.language_tags_registry.specs.declared.error.SubtagError.{SubtagError}
use Rattle.language_tags_registry.specs.declared.error.SubtagError.TheVariants.{Malformed}

-- what `RegistryError::text` says
abbrev pub words_of : RegistryError → List ℕ
words_of (rows.DuplicateKey table row) = codes "duplicate key"
words_of (rows.BadKey table row) = codes "bad key"
words_of (rows.BadValue table row) = codes "bad value"
words_of rows.NoMemory = codes "out of memory"

-- what `SubtagError::text` says
abbrev pub words_of_subtag : SubtagError → List ℕ
words_of_subtag Malformed = codes "the text hasn't the form of the subtag"
