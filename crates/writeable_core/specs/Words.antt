-- The errors in words.
use Rattle.std.specs.Prelude.{ℕ, List, codes}
use Rattle.writeable_core.specs.declared.sink.SinkError.{SinkError}
use Rattle.writeable_core.specs.declared.sink.SinkError.TheVariants.{Fault, NoMemory}

-- what `SinkError::text` says
abbrev pub words_of : SinkError → List ℕ
words_of Fault = codes "write fault"
words_of NoMemory = codes "no memory"

-- what `SourceFault::text` says
abbrev pub words_of_source : List ℕ
words_of_source = codes "read fault"
