use Rattle.localise.proofs.OneOutcome.{outcome_one, round_none}
use Rattle.localise.proofs.laws.walk_has_one_outcome.Goals as goal

pub returns-clause-one : goal.returns-clause-one
returns-clause-one c =
    λ F bundles l q. outcome_one F bundles l q (c.walk_that_ends_never_repeats.ensures.never F l)

pub returns-clause-round : goal.returns-clause-round
returns-clause-round c = λ F bundles root l q a answers round.
    round_none F bundles l q (c.walk_that_ends_never_repeats.ensures.never F l) root a answers round
