use Rattle.localise.proofs.Orders.{then_five}
use Rattle.localise.proofs.key.KeyPartialOrd.partial_cmp.Goals as goal

pub returns : goal.returns
returns c =
    rw (← c.t1-1.view_is, ← c.t2-1.view_is)
    (then_five _ _ _ _ _ _ _ _ _ _ c.partial_cmp.ensures c.or_partial_cmp.ensures
    c.or_partial_cmp-2.ensures c.or_partial_cmp-3.ensures c.or_partial_cmp-4.ensures)
