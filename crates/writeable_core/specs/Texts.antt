-- Texts as lists of characters, or of bytes.
use Rattle.std.specs.Prelude.{ℕ, Bool, List, nat_eq}
use Rattle.std.specs.Cmp.Lexicographic.{pointwise}

-- whether two texts are one
abbrev pub same_text : List ℕ → List ℕ → Bool
same_text = pointwise nat_eq
