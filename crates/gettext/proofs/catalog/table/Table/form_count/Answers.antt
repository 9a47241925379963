use Rattle.gettext.specs.Table.{form_bytes}
use Rattle.gettext.proofs.Lookups.{no_count, counted}
use Rattle.gettext.proofs.catalog.table.Table.form_count.Goals as goal

pub returns-in_err-row : goal.returns-in_err-row
returns-in_err-row c =
    let none = rw (c.deref.ensures.value, c.deref-2.ensures.value) at c.in_err-row.ensures.found in
    rw (c.from_residual.ensures, ← c.self.view_is)
    (no_count _ _ _ _ c.self.invariant.table.rows_fit none)

pub returns : goal.returns
unfolding form_bytes
returns c =
    let found = rw (c.deref.ensures.value, c.deref-2.ensures.value) at c.in_ok-row.ensures.found in
    rw (c.piece_count.ensures, c.bytes_of.ensures, c.deref-3.ensures.value, ← c.self.view_is)
    (counted _ _ _ _ c.self.invariant.table.rows_fit _ found)
