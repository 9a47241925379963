use Rattle.unic_langid_impl.proofs.VariantLemmas.{ascend-adjacent, ascend-not}
use Rattle.unic_langid_impl.proofs.identifier.ascend.Goals as goal

pub returns-in_default : goal.returns-in_default
returns-in_default c =
    ascend-not c.args.variants.now c.loop-next.next c.index-variants-next.result
    c.index-variants-next-in-loop-next.result
    c.cmp.result c.loop-next.auto.next c.loop-next-test.true c.index-variants-next.is
    c.index-variants-next-in-loop-next.is
    c.cmp.ensures c.in_default.not-Less

pub returns : goal.returns
returns c =
    ascend-adjacent c.args.variants.now c.loop-next.next c.loop-next-test.false
    c.loop-next.invariant
