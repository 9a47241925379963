use Rattle.icu_list.proofs.ExactHints.{joined_exact}
use Rattle.icu_list.proofs.laws.hints_are_exact.Goals as goal

pub returns : goal.returns
returns c = joined_exact
