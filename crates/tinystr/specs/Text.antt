-- The texts that a `TinyStr` stands for, and how its bytes hold them.
use Rattle.std.specs.Prelude.{◌≡◌, ℕ, List, [], ◌∷◌, ◌++◌, ◌-◌, ◌<◌, ◌≤◌, ◌==◌, length, map}
use Rattle.std.specs.Prelude.{replicate}
use Rattle.std.specs.Char.{to_ascii_lowercase, to_ascii_uppercase}
use Rattle.std.specs.List.{All, before_first}
use Rattle.std.specs.Str.{IsAscii}

-- the code of an ASCII character other than NUL
abbrev pub IsTextByte : ℕ → Type 0
IsTextByte byte = (0 < byte) × (byte < 128)

-- an ASCII text without NUL of at most `limit` bytes; its bytes are its characters
pub record IsTinyText (limit : ℕ) (text : List ℕ) : Type 0 where
  pub fits : length text ≤ limit
  pub bytes : All IsTextByte text

-- the first character in upper case, the others in lower case
abbrev pub titlecase : List ℕ → List ℕ
titlecase [] = []
titlecase (first ∷ rest) = to_ascii_uppercase first ∷ map to_ascii_lowercase rest

-- the text, filled up with NUL to `size` bytes
abbrev pub padded : ℕ → List ℕ → List ℕ
padded size text = text ++ replicate (size - length text) 0

-- the text that is filled up: what stands before the first NUL
abbrev pub unpadded : List ℕ → List ℕ
unpadded bytes = before_first (λ byte. byte == 0) bytes

-- these bytes are a text that is filled up to `size` bytes
pub record HoldsText (size : ℕ) (bytes : List ℕ) : Type 0 where
  pub filled : bytes ≡ padded size (unpadded bytes)
  pub ascii : IsAscii bytes
