use Rattle.unic_langid_impl.proofs.Least.{minimal-least}
use Rattle.unic_langid_impl.proofs.laws.minimal_is_least.Goals as goal

pub returns : goal.returns
returns c = λ F t least e. minimal-least F t least e
