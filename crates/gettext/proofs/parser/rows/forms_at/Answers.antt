use Rattle.std.proofs.lemmas.Result.{err_from_is_err_and}
use Rattle.writeable_core.specs.FirstFailureLaws.{failed_first}
use Rattle.gettext.specs.Layout.{text_of}
use Rattle.gettext.specs.Faults.{text_conditions, forms_conditions, translation_conditions}
use Rattle.gettext.proofs.parser.rows.forms_at.Goals as goal

pub returns-in_err-text : goal.returns-in_err-text
unfolding translation_conditions
returns-in_err-text c =
    let p = err_from_is_err_and c.from_residual.result c.from_residual.ensures.1 in
    rw (p.1, p.2)
    (rw (← c.requires.translations)
    (failed_first (text_conditions c.args.bytes.now c.args.header.translations c.args.index)
    (forms_conditions c.args.encoding
    (text_of c.args.bytes.now c.args.header.translations c.args.index)) _ c.in_err-text.ensures))
