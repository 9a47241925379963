use Rattle.std.proofs.lemmas.Result.{IfOk-weaker}
use Rattle.gettext.proofs.Collecting.{sorts}
use Rattle.gettext.proofs.parser.sorting.sorted.Goals as goal

pub returns : goal.returns
returns c = IfOk-weaker c.in_key_order.result
    _ _ (λ v e.
    rw e (sorts c.args.buffer.now c.args.rows.now c.in_ok-rows.rows c.in_ok-rows.ensures))
    c.in_key_order.ensures
