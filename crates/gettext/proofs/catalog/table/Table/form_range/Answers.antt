use Rattle.gettext.specs.Table.{held, form_bytes}
use Rattle.gettext.proofs.Lookups.{no_range, no_piece, ranged}
use Rattle.gettext.proofs.catalog.table.Table.form_range.Goals as goal

pub returns-in_err-row : goal.returns-in_err-row
unfolding held
returns-in_err-row c =
    let none = rw (c.deref.ensures.value, c.deref-2.ensures.value) at c.in_err-row.ensures.found in
    rw (c.from_residual.ensures, ← c.self.view_is)
    (no_range _ _ _ _ c.self.invariant.table.rows_fit _ none)

pub returns-in_err-start : goal.returns-in_err-start
unfolding held form_bytes
returns-in_err-start c =
    let found = rw (c.deref.ensures.value, c.deref-2.ensures.value) at c.in_ok-row.ensures.found in
    let none = rw (c.bytes_of.ensures, c.deref-3.ensures.value) at c.in_err-start.ensures in
    rw (c.from_residual-in_err-start.ensures, ← c.self.view_is)
    (no_piece _ _ _ _ c.self.invariant.table.rows_fit _ _ found none)

pub returns : goal.returns
unfolding held form_bytes
returns c =
    let found = rw (c.deref.ensures.value, c.deref-2.ensures.value) at c.in_ok-row.ensures.found in
    let fits = rw c.deref.ensures.value at c.in_ok-row.ensures.fits in
    let piece = rw (c.bytes_of.ensures, c.deref-3.ensures.value) at c.in_ok-start.ensures in
    rw (← c.self.view_is) (ranged _ _ _ _ c.self.invariant.table.rows_fit _ _ _ _ found fits piece)
