use Rattle.icu_locale_core.specs.ReadingLaws.{print-determines}
use Rattle.icu_locale_core.proofs.laws.print_determines.Goals as goal

pub returns : goal.returns
returns c = print-determines
