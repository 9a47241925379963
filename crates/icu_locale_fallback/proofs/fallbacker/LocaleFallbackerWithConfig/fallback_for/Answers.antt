use Rattle.icu_locale_fallback.proofs.WalkLaws.{EndsOrRepeats-holds, RevisitsOnly-holds}
use Rattle.icu_locale_fallback.proofs.RegionEnds.{region_ends}
use Rattle.icu_locale_fallback.proofs.fallbacker.LocaleFallbackerWithConfig.fallback_for.Goals as goal

pub returns-clause-ends : goal.returns-clause-ends
returns-clause-ends c = EndsOrRepeats-holds _ _

pub returns-clause-revisits : goal.returns-clause-revisits
returns-clause-revisits c = RevisitsOnly-holds _ _

pub returns-clause-region_ends : goal.returns-clause-region_ends
returns-clause-region_ends c = region_ends _ _
