-- List patterns (UTS 35, List Patterns).
use Rattle.std.specs.Prelude.{ℕ, ◌-◌, List, ◌++◌, take, drop, encode_utf8_all}
use Rattle.std.specs.Str.{chars, IsCharBoundary}

-- what stands before the first of two items, between the two, and behind the second
pub record Pattern : Type 0 where
  pub prefix : List ℕ
  pub between : List ℕ
  pub suffix : List ℕ

-- the pattern of three texts
abbrev pub pattern : List ℕ → List ℕ → List ℕ → Pattern
pattern p b s = record { prefix = p; between = b; suffix = s }

-- the texts of a pattern, one behind the other
abbrev pub texts : Pattern → List ℕ
texts p = p.prefix ++ (p.between ++ p.suffix)

-- the text may be cut behind so many bytes
abbrev pub IsPlace : List ℕ → ℕ → Type 0
IsPlace text n = IsCharBoundary (encode_utf8_all text) n

-- the pattern of a text that the items stand in at two places, which are in bytes
abbrev pub pattern_at : List ℕ → ℕ → ℕ → Pattern
pattern_at text i j =
    let bytes = encode_utf8_all text in
    pattern (chars (take i bytes)) (chars (take (j - i) (drop i bytes))) (chars (drop j bytes))
