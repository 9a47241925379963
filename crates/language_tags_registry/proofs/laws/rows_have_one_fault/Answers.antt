use Rattle.language_tags_registry.proofs.OneFault.{one_first_fault}
use Rattle.language_tags_registry.proofs.RowLaws.{no_first_fault}
use Rattle.language_tags_registry.proofs.laws.rows_have_one_fault.Goals as goal

pub returns-clause-one : goal.returns-clause-one
returns-clause-one c = one_first_fault

pub returns-clause-none : goal.returns-clause-none
returns-clause-none c = no_first_fault
