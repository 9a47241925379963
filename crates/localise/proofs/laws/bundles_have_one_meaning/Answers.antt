use Rattle.gettext.specs.Options.{plain_options}
use Rattle.localise.proofs.OneMeaning.{accepted_not_refused, accepted_one, refusal_one}
use Rattle.localise.proofs.laws.bundles_have_one_meaning.Goals as goal

pub returns-clause-one : goal.returns-clause-one
returns-clause-one c T =
    let w = c.texts_and_locales.ensures in
    accepted_one w.one w.one_cause w.never_both
    (λ b. c.one_meaning.ensures.unique b plain_options)
    (λ b. c.one_meaning.ensures.faultless b plain_options)
    (λ b. c.one_meaning.ensures.one_fault b plain_options) T

pub returns-clause-one_refusal : goal.returns-clause-one_refusal
returns-clause-one_refusal c T =
    let w = c.texts_and_locales.ensures in
    refusal_one w.one w.one_cause w.never_both
    (λ b. c.one_meaning.ensures.unique b plain_options)
    (λ b. c.one_meaning.ensures.faultless b plain_options)
    (λ b. c.one_meaning.ensures.one_fault b plain_options) T

pub returns-clause-never_both : goal.returns-clause-never_both
returns-clause-never_both c T =
    let w = c.texts_and_locales.ensures in
    accepted_not_refused w.one w.one_cause w.never_both
    (λ b. c.one_meaning.ensures.unique b plain_options)
    (λ b. c.one_meaning.ensures.faultless b plain_options)
    (λ b. c.one_meaning.ensures.one_fault b plain_options) T
