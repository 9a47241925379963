use Rattle.lazy_dfa.proofs.Pushing.{holds_test, decided_answer}
use Rattle.lazy_dfa.proofs.stepper.Stepper.answer.Goals as goal

pub returns-clause-holds : goal.returns-clause-holds
returns-clause-holds c = rw (← c.self.view_is) (holds_test _ c.holds_at.result c.holds_at.ensures)

pub returns-clause-decided : goal.returns-clause-decided
returns-clause-decided c =
    rw (← c.self.view_is) (decided_answer _ c.holds_at.result c.holds_at.ensures)
