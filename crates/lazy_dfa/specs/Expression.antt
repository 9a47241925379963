-- Conditions as trees, and the sets of characters that their atoms read.
use Rattle.std.specs.Prelude.{ℕ, ◌+◌, Bool, false, true, not, ◌&&◌, nat_le, List, [], ◌∷◌}
use Rattle.std.specs.List.{list_any}

-- the characters of some ranges with both ends in them, or where it is negated all others
pub record CharacterSet : Type 0 where
  pub negated : Bool
  pub ranges : List (ℕ × ℕ)

-- whether a range reads a character
abbrev pub in_range : ℕ → ℕ × ℕ → Bool
in_range c range = nat_le range.0 c && nat_le c range.1

-- the other answer, where it is negated
abbrev pub negated_if : Bool → Bool → Bool
negated_if true inside = not inside
negated_if false inside = inside

-- whether a set has a character
abbrev pub contains : CharacterSet → ℕ → Bool
contains set c = negated_if set.negated (list_any (in_range c) set.ranges)

-- a literal
abbrev pub only : ℕ → CharacterSet
only c = record { negated = false; ranges = (c, c) ∷ [] }

-- `\d`: 0 to 9
abbrev pub digit : CharacterSet
digit = record { negated = false; ranges = (48, 57) ∷ [] }

-- `.`: any character but a line feed
abbrev pub any : CharacterSet
any = record { negated = true; ranges = (10, 10) ∷ [] }

-- a condition behind its `^`
pub data Expression : Type 0 where
  Nothing : Expression
  OneOf : CharacterSet → Expression
  End : Expression
  Sequence : Expression → Expression → Expression
  Choice : Expression → Expression → Expression
  Star : Expression → Expression
  Plus : Expression → Expression
  Optional : Expression → Expression

-- how many atoms it has, groups left out
abbrev pub size : Expression → ℕ
size Nothing = 0
size (OneOf set) = 1
size End = 0
size (Sequence a b) = size a + size b
size (Choice a b) = size a + size b
size (Star a) = size a
size (Plus a) = size a
size (Optional a) = size a

-- a class, by its items
abbrev pub set_of : Bool → List (ℕ × ℕ) → CharacterSet
set_of negated ranges = record { negated = negated; ranges = ranges }
