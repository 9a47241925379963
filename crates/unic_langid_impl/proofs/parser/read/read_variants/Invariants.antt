use Rattle.std.proofs.Common.{length}
use Rattle.unic_langid_impl.specs.Taking.{TakesVariants}
use Rattle.unic_langid_impl.proofs.parser.read.read_variants.Given as goal

abbrev pub invariant-loop-piece : goal.invariant-loop-piece
invariant-loop-piece l = TakesVariants l.fn.iter l.variants.items l.iter

abbrev pub decreases-loop-piece : goal.decreases-loop-piece
decreases-loop-piece l = length l.iter
