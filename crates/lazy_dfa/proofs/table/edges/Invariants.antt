use Rattle.std.proofs.Common.{◌<◌, ℕ, get_or}
use Rattle.std.specs.List.{Contains}
use Rattle.lazy_dfa.specs.declared.automaton.Range.{Range}
use Rattle.lazy_dfa.specs.States.{IsEdged}
use Rattle.lazy_dfa.proofs.table.edges.Given as goal

abbrev pub invariant-loop-range : goal.invariant-loop-range
invariant-loop-range l =
    Contains l.edges.items 0
    × ((k : ℕ) (d : Range) → k < l.range-index → IsEdged l.edges.items (get_or l.ranges k d))
