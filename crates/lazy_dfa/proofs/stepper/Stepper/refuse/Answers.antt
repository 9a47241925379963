use Rattle.std.proofs.Common.{arith}
use Rattle.lazy_dfa.specs.States.{machine}
use Rattle.lazy_dfa.proofs.Pushing.{refused_of}
use Rattle.lazy_dfa.proofs.stepper.Stepper.refuse.Goals as goal

pub returns-clause-took : goal.returns-clause-took
returns-clause-took c =
    refused_of c.args.self.now (machine c.self.inside.matcher.now) c.self.inside.place.reached
    c.self.inside.refusals c.saturating_add-self-inside.result c.self.view_is
    (omega (arith, c.saturating_add-self-inside.ensures)) c.requires
