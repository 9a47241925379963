use Rattle.std.proofs.Common.{arith, inr}
use Rattle.std.proofs.lemmas.Result.{err_from_is_err_and}
use Rattle.gettext.proofs.PushedRows.{none_pushed, fails_at, pushes_row, all_pushed}
use Rattle.gettext.proofs.parser.rows.push_rows.Goals as goal

pub loop-index-init : goal.loop-index-init
loop-index-init c = none_pushed _ _ _ _ _ c.requires.first

pub returns-in_err-row_at : goal.returns-in_err-row_at
returns-in_err-row_at c =
    let p = err_from_is_err_and c.from_residual.result c.from_residual.ensures.1 in
    rw (p.1, p.2)
    (inr (fails_at c.args.rows.now.items c.loop-index.rows.items c.args.bytes.now c.args.encoding
    c.args.first c.args.header.count c.loop-index.index c.loop-index.invariant
    (omega (arith, c.loop-index-test.true)) _ c.in_err-row_at.ensures))

pub loop-index-preserved : goal.loop-index-preserved
loop-index-preserved c =
    rw c.in_ok-push.ensures.items
    (pushes_row _ _ _ _ _ _ _ c.loop-index.invariant (omega (arith, c.loop-index-test.true))
    _ c.in_ok-row_at.ensures.0 c.in_ok-row_at.ensures.1)

pub returns : goal.returns
returns c =
    all_pushed _ _ _ _ _ _ _ c.loop-index.invariant
    (λ lt. omega (arith, lt, c.loop-index-test.false))
