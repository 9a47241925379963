-- The errors in words.
use Rattle.std.specs.Prelude.{ℕ, List, codes}
use Rattle.localise_document.specs.declared.error.DocumentError.{DocumentError}
use Rattle.localise_document.specs.declared.error.DocumentError.TheVariants.{NotJson, Shape}
use Rattle.localise_document.specs.declared.error.DocumentError.TheVariants.{NoMemory}

-- what `DocumentError::text` says
abbrev pub words_of : DocumentError → List ℕ
words_of NotJson = codes "not JSON"
words_of (Shape place) = codes "wrong shape"
words_of NoMemory = codes "out of memory"
