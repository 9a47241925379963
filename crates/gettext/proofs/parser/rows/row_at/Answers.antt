use Rattle.std.proofs.lemmas.Result.{err_from_is_err_and}
use Rattle.writeable_core.specs.FirstFailureLaws.{failed_first}
use Rattle.gettext.specs.Faults.{original_conditions, translation_conditions, row_conditions}
use Rattle.gettext.proofs.Rows.{row_read}
use Rattle.gettext.proofs.parser.rows.row_at.Goals as goal

pub returns-in_err-key : goal.returns-in_err-key
unfolding row_conditions
returns-in_err-key c =
    let p = err_from_is_err_and c.from_residual.result c.from_residual.ensures.1 in
    rw (p.1, p.2)
    (failed_first (original_conditions c.args.bytes.now c.args.encoding c.args.index)
    (translation_conditions c.args.bytes.now c.args.encoding c.args.index) _ c.in_err-key.ensures)

pub returns : goal.returns
returns c =
    row_read _ _ _ _ _ c.in_ok-key.ensures.0 c.in_ok-key.ensures.1 c.in_ok-forms.ensures.0
    c.in_ok-forms.ensures.1
