-- Where a walk ends it is at the unknown locale.
use Rattle.fallback_chain.proofs.laws.walk_has_one_end.Goals as goal

pub returns-clause-never : goal.returns-clause-never
returns-clause-never c =
    λ F l k n ends. c.walk_that_ends_never_repeats.ensures.never F l k n ends.ended
