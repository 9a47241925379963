use Rattle.std.proofs.Common.{◌≡◌, ◌≤◌, length, take}
use Rattle.lazy_dfa.proofs.condition.copied.Given as goal

abbrev pub invariant-loop-c : goal.invariant-loop-c
invariant-loop-c l = (l.count ≡ length l.yielded) × (l.count ≤ 66) × (length l.characters ≡ 66)
    × (take l.count l.characters ≡ l.yielded)
