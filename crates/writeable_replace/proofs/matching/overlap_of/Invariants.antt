-- No earlier place is one from which the bytes are a front.
use Rattle.std.specs.Prelude.{nat_eq}
use Rattle.std.specs.List.{starts_with}
use Rattle.std.proofs.Common.{◌≡◌, ℕ, ◌≤◌, ◌<◌, true, drop}
use Rattle.writeable_replace.proofs.matching.overlap_of.Given as goal

abbrev pub invariant-loop-shift : goal.invariant-loop-shift
invariant-loop-shift l = (s : ℕ) → 1 ≤ s → s < l.shift
    → starts_with nat_eq l.bytes (drop s l.bytes) ≡ true → ⊥
