use Rattle.wanted_locale.proofs.Answering.{cause_along, wanted_along}
use Rattle.wanted_locale.proofs.laws.wanted_goes_by_answers.Goals as goal

pub returns-clause-locale : goal.returns-clause-locale
returns-clause-locale c R S text l alike =
    wanted_along c.canonical_form_goes_by_answers.ensures R S text alike l

pub returns-clause-cause : goal.returns-clause-cause
returns-clause-cause c R S text cause alike =
    cause_along c.canonical_form_goes_by_answers.ensures R S text alike cause
