use Rattle.icu_locale_fallback.proofs.RegionEnds.{region_ends}
use Rattle.icu_locale_fallback.proofs.laws.region_walk_ends.Goals as goal

pub returns : goal.returns
returns c = region_ends
