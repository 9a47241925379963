use Rattle.icu_locale_fallback.proofs.WalkLaws.{EndsOrRepeats-holds, RevisitsOnly-holds}
use Rattle.icu_locale_fallback.proofs.laws.walk_ends_or_repeats.Goals as goal

pub returns-clause-ends : goal.returns-clause-ends
returns-clause-ends c = EndsOrRepeats-holds

pub returns-clause-revisits : goal.returns-clause-revisits
returns-clause-revisits c = RevisitsOnly-holds
