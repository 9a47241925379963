use Rattle.std.proofs.Common.{sym}
use Rattle.std.proofs.lemmas.Str.{IsUtf8-from_is_utf8}
use Rattle.std.specs.Str.{is_utf8}
use Rattle.gettext.specs.Table.{form_bytes}
use Rattle.gettext.proofs.Lookups.{list_all-slice_get}
use Rattle.gettext.proofs.catalog.table.nth_form.Goals as goal

pub returns-in_err-form : goal.returns-in_err-form
unfolding form_bytes
returns-in_err-form c = rw c.from_residual.ensures (rw (← c.bytes_of.ensures) c.in_err-form.ensures)

pub from_utf8_unchecked-requires : goal.from_utf8_unchecked-requires
unfolding form_bytes
from_utf8_unchecked-requires c =
    IsUtf8-from_is_utf8 c.in_ok-form.form.now
    (list_all-slice_get is_utf8 (form_bytes c.args.buffer.now c.args.row) c.args.number
    c.in_ok-form.form.now c.requires.forms (rw (← c.bytes_of.ensures) (sym c.in_ok-form.ensures)))

pub returns : goal.returns
unfolding form_bytes
returns c = rw (← c.bytes_of.ensures, c.from_utf8_unchecked.ensures) c.in_ok-form.ensures
