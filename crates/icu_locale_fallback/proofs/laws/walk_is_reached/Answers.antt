use Rattle.icu_locale_fallback.proofs.WalkLaws.{reached-suc, reached-zero}
use Rattle.icu_locale_fallback.proofs.laws.walk_is_reached.Goals as goal

pub returns-clause-at_start : goal.returns-clause-at_start
returns-clause-at_start c = reached-zero

pub returns-clause-behind : goal.returns-clause-behind
returns-clause-behind c = reached-suc
