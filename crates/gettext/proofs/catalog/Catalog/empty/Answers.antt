use Rattle.std.proofs.Common.{refl}
use Rattle.gettext.specs.Table.{held}
use Rattle.gettext.proofs.catalog.Catalog.empty.Goals as goal

pub returns-clause-messages : goal.returns-clause-messages
unfolding held
returns-clause-messages c = rw c.empty.ensures refl

pub returns-clause-buffer : goal.returns-clause-buffer
unfolding held
returns-clause-buffer c = rw c.empty.ensures refl
