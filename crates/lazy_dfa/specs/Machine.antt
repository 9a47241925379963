-- How the crate works: what a contract sees of a condition, and which expressions it is for. It is
-- the position automaton, without the state table beside it.
use Rattle.std.specs.Prelude.{◌≡◌, ℕ, List, slice_index}
use Rattle.lazy_dfa.specs.declared.automaton.Automaton.{Automaton}
use Rattle.lazy_dfa.specs.declared.automaton.Range.{Range}
use Rattle.lazy_dfa.specs.declared.part.Part.{Part}
use Rattle.lazy_dfa.specs.Compiled.{atom_reads, Sums}
use Rattle.lazy_dfa.specs.Expression.{Expression, size}
use Rattle.lazy_dfa.specs.Positions.{follow, reads}
use Rattle.lazy_dfa.specs.Sets.{has}

-- the ranges of all atoms, the negated atoms, by atom those that can read the next character, how
-- many atoms there are, and how the whole begins and ends
pub record Machine : Type 0 where
  pub ranges : List Range
  pub negated : ℕ
  pub follow : List ℕ
  pub size : ℕ
  pub whole : Part

-- what a contract sees of an automaton and its whole part
abbrev pub machine_of : Automaton → Part → Machine
machine_of a part =
    record {
      ranges = a.ranges.items;
      negated = a.negated;
      follow = a.follow;
      size = a.size;
      whole = part;
    }

-- the automaton is that of the expression
pub record IsFor (machine : Machine) (e : Expression) : Type 0 where
  pub sums : Sums machine.whole e 0
  pub sized : machine.size ≡ size e
  pub follows : (p q : ℕ) → has (slice_index machine.follow p) q ≡ follow e 0 p q
  pub atoms : (p c : ℕ) → atom_reads machine.ranges machine.negated p c ≡ reads e 0 p c
