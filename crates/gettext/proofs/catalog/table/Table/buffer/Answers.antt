use Rattle.std.proofs.Common.{◌∙◌, ap}
use Rattle.gettext.specs.Table.{held, Held}
use Rattle.gettext.proofs.catalog.table.Table.buffer.Goals as goal

pub returns : goal.returns
unfolding held
returns c = c.deref.ensures.value ∙ ap (λ (h : Held). h.buffer) c.self.view_is
