-- What a condition reads of a text. A text is a list of characters, and the characters i to j of it
-- are those from the place i on, up to the place j.
use Rattle.std.specs.Prelude.{◌≡◌, ℕ, ◌+◌, true, List, [], length, slice_get, Option, Some, None}
use Rattle.std.specs.Prelude.{◌⊎◌}
use Rattle.lazy_dfa.specs.Expression.{CharacterSet, contains, Expression, Nothing, OneOf, End}
use Rattle.lazy_dfa.specs.Expression.{Sequence, Choice, Star, Plus, Optional, size}

-- any number of steps, one behind the other
pub data Chain (R : ℕ → ℕ → Type 0) : ℕ → ℕ → Type 0 where
  done : {i : ℕ} → Chain R i i
  step : {i k j : ℕ} → R i k → Chain R k j → Chain R i j

-- the character at a place of the text is in the set
pub record ReadsAt (s : List ℕ) (set : CharacterSet) (i : ℕ) : Type 0 where
  pub character : ℕ
  pub there : slice_get s i ≡ Some character
  pub inside : contains set character ≡ true

-- An expression reads the characters i to j of a text, where a `$` reads none, and only at the
-- place `end`.
abbrev pub Reading : List ℕ → Option ℕ → Expression → ℕ → ℕ → Type 0
Reading s end Nothing i j = i ≡ j
Reading s end (OneOf set) i j = (j ≡ i + 1) × ReadsAt s set i
Reading s end End i j = (i ≡ j) × (end ≡ Some i)
Reading s end (Sequence a b) i j = (k : ℕ) × Reading s end a i k × Reading s end b k j
Reading s end (Choice a b) i j = Reading s end a i j ⊎ Reading s end b i j
Reading s end (Star a) i j = Chain (Reading s end a) i j
Reading s end (Plus a) i j = (k : ℕ) × Reading s end a i k × Chain (Reading s end a) k j
Reading s end (Optional a) i j = (i ≡ j) ⊎ Reading s end a i j

-- a `$` reads at the text's end
abbrev pub match : Expression → List ℕ → ℕ → ℕ → Type 0
match e s i j = Reading s (Some (length s)) e i j

-- a condition holds where some prefix of the text matches
abbrev pub holds : Expression → List ℕ → Type 0
holds c s = (j : ℕ) × match c s 0 j

-- a prefix matches, and no `$` was passed: whatever follows, the condition holds
abbrev pub early : Expression → List ℕ → Type 0
early c u = (j : ℕ) × Reading u None c 0 j

-- The expression is begun at the place i of a text and passes no `$`, and its atom at the place p
-- reads the character before the place j. The places of its atoms are n, n + 1 and so on, from left
-- to right.
abbrev pub Reaches : List ℕ → Expression → ℕ → ℕ → ℕ → ℕ → Type 0
Reaches s Nothing n i j p = ⊥
Reaches s (OneOf set) n i j p = (p ≡ n) × (j ≡ i + 1) × ReadsAt s set i
Reaches s End n i j p = ⊥
Reaches s (Sequence a b) n i j p =
    Reaches s a n i j p ⊎ ((k : ℕ) × Reading s None a i k × Reaches s b (n + size a) k j p)
Reaches s (Choice a b) n i j p = Reaches s a n i j p ⊎ Reaches s b (n + size a) i j p
Reaches s (Star a) n i j p = (k : ℕ) × Chain (Reading s None a) i k × Reaches s a n k j p
Reaches s (Plus a) n i j p = (k : ℕ) × Chain (Reading s None a) i k × Reaches s a n k j p
Reaches s (Optional a) n i j p = Reaches s a n i j p

-- The places of the atoms that can read the last character of the text, where it is read from the
-- condition's start, perhaps ending inside it, and no `$` is passed.
abbrev pub after : Expression → List ℕ → ℕ → Type 0
after c u p = Reaches u c 0 0 (length u) p

-- the text may be the front of one on which the condition holds past it
abbrev pub front : Expression → List ℕ → Type 0
front c u = (u ≡ []) ⊎ ((p : ℕ) × after c u p)
