use Rattle.unic_langid_impl.proofs.ReadingLemmas.{takes_more}
use Rattle.unic_langid_impl.proofs.parser.read.read_variants.Goals as goal

pub loop-piece-preserved : goal.loop-piece-preserved
loop-piece-preserved c =
    rw c.in_ok-push.ensures.items
    (takes_more c.args.iter.now c.loop-piece.variants.items c.loop-piece.iter c.next.new.self
    c.in-Some.piece.now c.in-Ok.variant
    c.loop-piece.invariant c.in-Some.ensures c.in-Ok.ensures.value.0 c.in-Ok.ensures.value.1
    c.next.ensures.left)
