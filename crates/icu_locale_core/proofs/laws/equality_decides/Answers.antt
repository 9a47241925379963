use Rattle.icu_locale_core.specs.EqualityLaws.{same_locale-Decides}
use Rattle.icu_locale_core.proofs.laws.equality_decides.Goals as goal

pub returns : goal.returns
returns c = λ one other. same_locale-Decides one other
