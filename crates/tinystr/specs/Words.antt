-- The errors in words.
use Rattle.std.specs.Prelude.{ℕ, List, codes}
use Rattle.tinystr.specs.declared.error.TinyError.{TinyError}
use Rattle.tinystr.specs.declared.error.TinyError.TheVariants.{TooLarge, NonAscii, ContainsNull}

-- what `TinyError::text` says
abbrev pub words_of : TinyError → List ℕ
words_of TooLarge = codes "more bytes than fit"
words_of NonAscii = codes "a byte that is not ASCII"
words_of ContainsNull = codes "a NUL byte"
