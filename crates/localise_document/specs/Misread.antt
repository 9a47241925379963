-- Readers that may want memory.
use Rattle.std.specs.Prelude.{◌≡◌, Result, Err}
use Rattle.localise_document.specs.declared.error.Misread.{Misread}
use Rattle.localise_document.specs.declared.error.Misread.TheVariants.{Shape, NoMemory}

-- why a reader gave nothing: what it reads is misshapen there, or it found no memory
abbrev pub IsFaultOf : {A F : Type 0} → Result A F → Misread F → Type 0
IsFaultOf read (Shape fault) = read ≡ Err fault
IsFaultOf read NoMemory = Unit {0}
