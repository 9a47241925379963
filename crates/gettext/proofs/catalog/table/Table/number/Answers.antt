use Rattle.gettext.specs.Table.{held}
use Rattle.gettext.proofs.catalog.table.Table.number.Goals as goal

pub returns : goal.returns
unfolding held
returns c = rw (← c.self.view_is) c.number.ensures
