use Rattle.std.proofs.Common.{◌≡◌, ℕ, take}
use Rattle.std.specs.List.{list_any}
use Rattle.lazy_dfa.specs.Sets.{has}
use Rattle.lazy_dfa.specs.Compiled.{range_reads}
use Rattle.lazy_dfa.proofs.automaton.Automaton.inside.Given as goal

abbrev pub invariant-loop-range : goal.invariant-loop-range
invariant-loop-range l =
    (p : ℕ) → has l.inside p ≡ list_any (range_reads p l.c) (take l.range-index l.range-items)
