use Rattle.std.proofs.Common.{◌≤◌, ◌+◌, ◌-◌, length}
use Rattle.lazy_dfa.specs.States.{AreFound, AreRows, machine}
use Rattle.lazy_dfa.proofs.matcher.Matcher.tabled.Given as goal

abbrev pub invariant-loop-alloc : goal.invariant-loop-alloc
invariant-loop-alloc l =
    AreFound (machine l.self) l.sets.items × (length l.sets.items ≤ 255)
    × (length l.rows.items ≤ length l.sets.items + 1)
    × AreRows (machine l.self) l.firsts.items l.sets.items l.rows.items

abbrev pub decreases-loop-alloc : goal.decreases-loop-alloc
decreases-loop-alloc l = 256 - length l.rows.items
