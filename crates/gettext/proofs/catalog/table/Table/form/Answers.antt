use Rattle.std.proofs.Common.{◌∙◌, sym, ap}
use Rattle.std.specs.Option.{option_map}
use Rattle.std.specs.Str.{chars}
use Rattle.gettext.specs.Messages.{key_of}
use Rattle.gettext.proofs.Lookups.{shown_text, numbered_text, numbered-absent, numbered-found}
use Rattle.gettext.proofs.catalog.table.Table.form.Goals as goal

pub returns-in_err-row : goal.returns-in_err-row
returns-in_err-row c =
    let key = key_of (option_map (λ s. chars s.now) _) (chars _) in
    let none = rw (c.deref.ensures.value, c.deref-2.ensures.value) at c.in_err-row.ensures.found in
    rw (c.from_residual.ensures, ← c.self.view_is)
    (sym (numbered-absent _ _ _ key _ c.self.invariant.table.rows_fit (sym none)))

pub returns : goal.returns
returns c =
    let key = key_of (option_map (λ s. chars s.now) _) (chars _) in
    let found = rw (c.deref.ensures.value, c.deref-2.ensures.value) at c.in_ok-row.ensures.found in
    let at = numbered-found _ _ _ key _ c.self.invariant.table.rows_fit _ (sym found) in
    let form = rw c.deref-3.ensures.value at c.nth_form.ensures in
    shown_text _ c.nth_form.result
    ∙ rw (← c.self.view_is) (ap (option_map (numbered_text _)) form ∙ sym at)
