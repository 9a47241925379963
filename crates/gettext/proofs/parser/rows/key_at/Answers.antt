use Rattle.std.proofs.lemmas.Result.{err_from_is_err_and}
use Rattle.writeable_core.specs.FirstFailureLaws.{failed_first}
use Rattle.gettext.specs.Layout.{closed_text_of}
use Rattle.gettext.specs.Faults.{text_conditions, head_conditions, original_conditions}
use Rattle.gettext.proofs.Rows.{key_read}
use Rattle.gettext.proofs.parser.rows.key_at.Goals as goal

pub returns-in_err-text : goal.returns-in_err-text
unfolding original_conditions
returns-in_err-text c =
    let p = err_from_is_err_and c.from_residual.result c.from_residual.ensures.1 in
    rw (p.1, p.2)
    (rw (← c.requires.originals)
    (failed_first (text_conditions c.args.bytes.now c.args.header.originals c.args.index)
    (head_conditions c.args.encoding c.args.index
    (closed_text_of c.args.bytes.now c.args.header.originals c.args.index))
    _ c.in_err-text.ensures))

pub returns : goal.returns
returns c =
    key_read _ _ _ _ _ _ c.requires.originals c.in_ok-text.ensures.0 c.in_ok-text.ensures.1
    c.in_ok-len.ensures.fault.0 c.in_ok-len.ensures.fault.1
