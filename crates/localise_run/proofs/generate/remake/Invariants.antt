-- So many items so far.
use Rattle.std.proofs.Common.{◌≡◌, codes}
use Rattle.std.specs.Prelude.{replicate}
use Rattle.localise_run.proofs.generate.remake.Given as goal

abbrev pub invariant-loop-item : goal.invariant-loop-item
invariant-loop-item l = l.items ≡ replicate l._item (codes "x")
