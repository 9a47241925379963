-- Which patterns are conditions, and why another is refused.
use Rattle.std.specs.Prelude.{◌≡◌, ◌↔◌, ℕ, ◌≤◌, ◌<◌, List, ◌∷◌, length}
use Rattle.std.specs.Char.{IsScalar}
use Rattle.std.specs.List.{All}
use Rattle.lazy_dfa.specs.declared.error.ConditionError.{ConditionError}
use Rattle.lazy_dfa.specs.declared.error.ConditionError.TheVariants.{NotAnchored, TooLong, Syntax}
use Rattle.lazy_dfa.specs.declared.error.ConditionError.TheVariants.{NoMemory}
use Rattle.lazy_dfa.specs.Expression.{Expression}
use Rattle.lazy_dfa.specs.Meaning.{after}
use Rattle.lazy_dfa.specs.Syntax.{alt, IsNoAlt, LongestAlt}

-- the most characters behind `^`
abbrev pub most_characters : ℕ
most_characters = 64

-- the pattern is `^`, and then this text
abbrev pub Anchored : List ℕ → List ℕ → Type 0
Anchored pattern text = pattern ≡ 94 ∷ text

-- the pattern is a condition, with its expression
pub record condition (pattern : List ℕ) (e : Expression) : Type 0 where
  pub text : List ℕ
  pub anchored : Anchored pattern text
  pub short : length text ≤ most_characters
  pub syntax : alt text e

-- the first cause for which the pattern is no condition
abbrev pub IsRefused : List ℕ → ConditionError → Type 0
IsRefused pattern NotAnchored = (text : List ℕ) → Anchored pattern text → ⊥
IsRefused pattern TooLong = (text : List ℕ) × Anchored pattern text
    × (most_characters < length text)
IsRefused pattern (Syntax place) = (text : List ℕ) × Anchored pattern text
    × (length text ≤ most_characters) × IsNoAlt text × LongestAlt text place
IsRefused pattern NoMemory = Unit {0}

-- the most states of a table, the one before the first character among them
abbrev pub most_states : ℕ
most_states = 256

-- As many texts that aren't empty have pairwise different `after`: with the state before the first
-- character, there are more states than a table has.
pub record HasManyStates (c : Expression) : Type 0 where
  pub text : ℕ → List ℕ
  pub characters : (i : ℕ) → i < most_states → All IsScalar (text i)
  pub filled : (i : ℕ) → i < most_states → 0 < length (text i)
  pub differ : (i j : ℕ) → i < j → j < most_states
      → ((p : ℕ) → after c (text i) p ↔ after c (text j) p) → ⊥

-- the text behind `^` is no condition, or memory ran out
abbrev pub IsUnread : List ℕ → ConditionError → Type 0
IsUnread text (Syntax place) = IsNoAlt text × LongestAlt text place
IsUnread text NoMemory = Unit {0}
IsUnread text NotAnchored = ⊥
IsUnread text TooLong = ⊥
