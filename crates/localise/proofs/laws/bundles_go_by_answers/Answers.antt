use Rattle.localise.proofs.AlongTables.{accepted_along, refusal_along}
use Rattle.localise.proofs.laws.bundles_go_by_answers.Goals as goal

pub returns-clause-accepted : goal.returns-clause-accepted
returns-clause-accepted c T U texts root bs p alike =
    accepted_along T U alike.fallbacker
    (λ text l. c.wanted_goes_by_answers.ensures.locale T.registry U.registry text l alike.registry)
    (λ text cause.
    c.wanted_goes_by_answers.ensures.cause T.registry U.registry text cause alike.registry)
    texts root bs p

pub returns-clause-refused : goal.returns-clause-refused
returns-clause-refused c T U texts root e alike =
    refusal_along T U alike.fallbacker
    (λ text l. c.wanted_goes_by_answers.ensures.locale T.registry U.registry text l alike.registry)
    (λ text cause.
    c.wanted_goes_by_answers.ensures.cause T.registry U.registry text cause alike.registry)
    texts root e
