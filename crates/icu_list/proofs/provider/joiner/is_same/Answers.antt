use Rattle.std.proofs.Common.{◌∙◌}
use Rattle.writeable_core.specs.TextLaws.{bytes_eq-chars}
use Rattle.icu_list.proofs.provider.joiner.is_same.Goals as goal

pub returns : goal.returns
returns c = c.eq.ensures ∙ bytes_eq-chars c.args.one.now c.args.other.now c.utf8.one c.utf8.other
