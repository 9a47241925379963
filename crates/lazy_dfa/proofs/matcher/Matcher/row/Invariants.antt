use Rattle.std.proofs.Common.{◌≤◌, length}
use Rattle.lazy_dfa.specs.States.{AreFound, IsLonger, IsRow, machine}
use Rattle.lazy_dfa.proofs.matcher.Matcher.row.Given as goal

abbrev pub invariant-loop-first : goal.invariant-loop-first
invariant-loop-first l =
    AreFound (machine l.self) l.sets.items × (length l.sets.items ≤ 255)
    × IsLonger l.initial.sets.items l.sets.items
    × IsRow (machine l.self) l.firsts l.sets.items l.reached l.first-index l.row.items
