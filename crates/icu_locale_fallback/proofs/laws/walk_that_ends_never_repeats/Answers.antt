use Rattle.icu_locale_fallback.proofs.WalkLaws.{StaysAtUnknown-holds, StaysUnknown-holds}
use Rattle.icu_locale_fallback.proofs.WalkLaws.{NeverRepeats-holds}
use Rattle.icu_locale_fallback.proofs.laws.walk_that_ends_never_repeats.Goals as goal

pub returns-clause-rests : goal.returns-clause-rests
returns-clause-rests c = StaysAtUnknown-holds

pub returns-clause-stays : goal.returns-clause-stays
returns-clause-stays c = StaysUnknown-holds

pub returns-clause-never : goal.returns-clause-never
returns-clause-never c = NeverRepeats-holds
