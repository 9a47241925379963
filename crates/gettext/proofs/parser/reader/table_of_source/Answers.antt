use Rattle.std.proofs.Common.{ap, refl}
use Rattle.std.proofs.lemmas.Result.{err_from_is_err_and}
use Rattle.gettext.specs.Files.{buffer_of}
use Rattle.gettext.specs.Table.{held}
use Rattle.gettext.proofs.Parsed.{source_unread, source_refused, source_read}
use Rattle.gettext.proofs.parser.reader.table_of_source.Goals as goal

pub returns-in-Err : goal.returns-in-Err
returns-in-Err g c =
    rw c.read_error.ensures
    (source_unread _ _ _ _ _ _ _ c.in-Err.ensures.err (λ is. c.in-Err.ensures.no_fault (rw is refl))
    c.in-Err.ensures.later)

pub returns-in_err-texts : goal.returns-in_err-texts
returns-in_err-texts g c =
    let p = err_from_is_err_and c.from_residual.result c.from_residual.ensures.1 in
    let e = rw c.deref.ensures.value at c.in_err-texts.ensures in
    let r = c.in-Ok.ensures in
    rw (p.1, p.2)
    (source_refused _ _ _ _ _ c.args.options c.in-Ok.bytes.items r.within r.all r.read_to_end _ e)

pub returns : goal.returns
unfolding held
returns g c =
    let file = rw c.deref.ensures.value at c.in_ok-texts.ensures in
    let r = c.in-Ok.ensures in
    rw (c.new.ensures, c.texts_or-buffer.ensures)
    (source_read _ _ _ _ _ _ _ r.within r.all r.read_to_end _ file.1 file.0.stands
    (λ u. ap (buffer_of _) (file.0.plain u)))
