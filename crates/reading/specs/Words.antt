-- The errors in words.
use Rattle.std.specs.Prelude.{ℕ, List, codes}
use Rattle.reading.specs.declared.error.ReadError.{ReadError}
use Rattle.reading.specs.declared.error.ReadError.TheVariants.{Fault, TooLong, NoMemory}

-- what `ReadError::text` says
abbrev pub words_of : ReadError → List ℕ
words_of Fault = codes "the source failed"
words_of TooLong = codes "the source has too many bytes"
words_of NoMemory = codes "out of memory"
