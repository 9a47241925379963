-- What stands at the front of a text whose subtags are divided by `-`.
use Rattle.std.specs.Prelude.{ℕ, Bool, if◌then◌else◌, ◌==◌, List, [], ◌∷◌, Option, Some, None, drop}
use Rattle.std.specs.List.{before_first, position_or_len}
use Rattle.std.specs.Str.{byte}

-- the character between subtags
abbrev pub is_dash : ℕ → Bool
is_dash c = c == byte "-"

-- the text up to the first `-`
abbrev pub before_dash : List ℕ → List ℕ
before_dash text = before_first is_dash text

-- the text from the first `-` on
abbrev pub from_dash : List ℕ → List ℕ
from_dash text = drop (position_or_len is_dash text) text

-- the subtag behind the `-` that the text begins with, or nothing
abbrev pub leading : List ℕ → List ℕ
leading [] = []
leading (c ∷ text) = if is_dash c then before_dash text else []

-- what follows that subtag, or the text where there is none
abbrev pub behind : List ℕ → List ℕ
behind [] = []
behind (c ∷ text) = if is_dash c then from_dash text else (c ∷ text)

-- that subtag, if it has the shape
abbrev pub taken : (List ℕ → Bool) → List ℕ → Option (List ℕ)
taken is text = if is (leading text) then Some (leading text) else None

-- what is left when it is taken
abbrev pub left : (List ℕ → Bool) → List ℕ → List ℕ
left is text = if is (leading text) then behind text else text
