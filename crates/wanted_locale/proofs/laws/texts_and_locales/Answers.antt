use Rattle.wanted_locale.proofs.OneAnswer.{NeverBoth-holds, OneCause-holds, OneWanted-holds}
use Rattle.wanted_locale.proofs.laws.texts_and_locales.Goals as goal

pub returns-clause-one : goal.returns-clause-one
returns-clause-one c =
    OneWanted-holds c.texts_and_tags.ensures.one c.texts_and_tags.ensures.one_fault
    c.texts_and_tags.ensures.never_both c.id_determines.ensures.one

pub returns-clause-one_cause : goal.returns-clause-one_cause
returns-clause-one_cause c =
    OneCause-holds c.texts_and_tags.ensures.one c.texts_and_tags.ensures.one_fault
    c.texts_and_tags.ensures.never_both c.id_determines.ensures.one

pub returns-clause-never_both : goal.returns-clause-never_both
returns-clause-never_both c =
    NeverBoth-holds c.texts_and_tags.ensures.one c.texts_and_tags.ensures.one_fault
    c.texts_and_tags.ensures.never_both c.id_determines.ensures.one
