-- How the crate works: when an automaton is that of an expression.
use Rattle.std.specs.Prelude.{◌≡◌, ℕ, ◌+◌, ◌≤◌, ◌<◌, Bool, true, false, ◌&&◌, ◌||◌, List, ◌++◌, map}
use Rattle.std.specs.Prelude.{slice_index}
use Rattle.std.specs.List.{list_any}
use Rattle.lazy_dfa.specs.declared.automaton.Automaton.{Automaton}
use Rattle.lazy_dfa.specs.declared.automaton.Range.{Range}
use Rattle.lazy_dfa.specs.declared.part.Part.{Part}
use Rattle.lazy_dfa.specs.Expression.{in_range, negated_if, Expression, size}
use Rattle.lazy_dfa.specs.Positions.{empty, first, last, follow, reads}
use Rattle.lazy_dfa.specs.Sets.{has}

-- whether the range is of the atom at the place p, and reads the character
abbrev pub range_reads : ℕ → ℕ → Range → Bool
range_reads p c r = has r.atom p && in_range c (r.first, r.last)

-- whether the atom at the place p reads the character, by the ranges of all atoms and the places of
-- the negated ones
abbrev pub atom_reads : List Range → ℕ → ℕ → ℕ → Bool
atom_reads ranges negated p c = negated_if (has negated p) (list_any (range_reads p c) ranges)

-- the part begins and ends as the expression does, whose atoms have the places n, n + 1 and so on
pub record Sums (part : Part) (e : Expression) (n : ℕ) : Type 0 where
  pub empties : part.empty ≡ empty false e
  pub empties_at_end : part.empty_at_end ≡ empty true e
  pub firsts : (p : ℕ) → has part.first p ≡ first e n p
  pub lasts : (p : ℕ) → has part.last p ≡ last false e n p
  pub lasts_at_end : (p : ℕ) → has part.last_at_end p ≡ last true e n p

-- nothing is known of the places from `size` on
pub record IsFresh (automaton : Automaton) : Type 0 where
  pub follows : (p q : ℕ) → automaton.size ≤ p → has (slice_index automaton.follow p) q ≡ false
  pub negations : (p : ℕ) → automaton.size ≤ p → has automaton.negated p ≡ false
  pub ranges : (p c : ℕ) → automaton.size ≤ p
      → list_any (range_reads p c) automaton.ranges.items ≡ false

-- the atoms of an expression were added, and what was there stays
pub record Adds (old : Automaton) (e : Expression) (new : Automaton) : Type 0 where
  pub sized : new.size ≡ old.size + size e
  pub kept_follows : (p q : ℕ) → p < old.size
      → has (slice_index new.follow p) q ≡ has (slice_index old.follow p) q
  pub kept_reads : (p c : ℕ) → p < old.size
      → atom_reads new.ranges.items new.negated p c ≡ atom_reads old.ranges.items old.negated p c
  pub follows : (p q : ℕ) → old.size ≤ p → has (slice_index new.follow p) q ≡ follow e old.size p q
  pub atoms : (p c : ℕ) → old.size ≤ p
      → atom_reads new.ranges.items new.negated p c ≡ reads e old.size p c
  pub fresh : IsFresh new

-- each atom of `first` can read behind each of `last`; all else stays
pub record Linked (old : Automaton) (last first : ℕ) (new : Automaton) : Type 0 where
  pub ranges : new.ranges.items ≡ old.ranges.items
  pub negated : new.negated ≡ old.negated
  pub sized : new.size ≡ old.size
  pub joined : (p q : ℕ) → p < old.size
      → has (slice_index new.follow p) q ≡
      (has (slice_index old.follow p) q || (has last p && has first q))
  pub others : (p : ℕ) → old.size ≤ p → slice_index new.follow p ≡ slice_index old.follow p

-- the ranges of one atom
abbrev pub ranges_of : ℕ → List (ℕ × ℕ) → List Range
ranges_of atom rs = map (λ r. record { first = r.0; last = r.1; atom = atom }) rs

-- the ranges were added, and all else stays
pub record AddsRanges (old : Automaton) (atom : ℕ) (rs : List (ℕ × ℕ)) (new : Automaton) : Type
    0 where
  pub ranges : new.ranges.items ≡ old.ranges.items ++ ranges_of atom rs
  pub negated : new.negated ≡ old.negated
  pub sized : new.size ≡ old.size
  pub follow : new.follow ≡ old.follow
