use Rattle.std.proofs.Common.{refl, inl}
use Rattle.std.proofs.lemmas.Result.{err_from_is_err_and}
use Rattle.gettext.specs.Table.{held}
use Rattle.gettext.proofs.Parsed.{bytes_read, bytes_refused}
use Rattle.gettext.proofs.parser.reader.table_of_bytes.Goals as goal

pub returns-in_err-texts : goal.returns-in_err-texts
returns-in_err-texts c =
    let p = err_from_is_err_and c.from_residual.result c.from_residual.ensures.1 in
    rw (p.1, p.2) (bytes_refused c.args.bytes.now c.args.options _ c.in_err-texts.ensures)

pub returns : goal.returns
unfolding held
returns c =
    rw (c.new.ensures, c.in_ok-buffer.ensures)
    (bytes_read _ _ _ c.in_ok-texts.ensures.1 c.in_ok-texts.ensures.0.stands
    (λ u. rw (c.in_ok-texts.ensures.0.plain u) refl))
