use Rattle.lazy_dfa.proofs.Matching.{matches_from}
use Rattle.lazy_dfa.proofs.condition.Condition.matches.Goals as goal

pub returns : goal.returns
returns g c = λ e f.
    matches_from e c.args.self.now f (g.W.Writeable.text c.args.text.now) c.write_to.new.sink
    c.answer.result c.answer.ensures.holds c.answer.ensures.decided
    c.stepper-stepper.result c.stepper-stepper.ensures c.write_to.result c.write_to.ensures.ok
    c.write_to.ensures.err c.write_to.ensures.cause
