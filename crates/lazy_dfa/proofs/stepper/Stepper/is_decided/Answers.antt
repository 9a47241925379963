use Rattle.lazy_dfa.proofs.Pushing.{decided_test}
use Rattle.lazy_dfa.proofs.stepper.Stepper.is_decided.Goals as goal

pub returns : goal.returns
returns c = rw (← c.self.view_is) (decided_test _ c.is_decided.result c.is_decided.ensures)
