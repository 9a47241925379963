use Rattle.std.proofs.Common.{◌∙◌}
use Rattle.gettext.proofs.MetadataNumbers.{number_parsed}
use Rattle.gettext.proofs.metadata.number_of.Goals as goal

pub returns : goal.returns
returns c = c.ok.ensures.value ∙ number_parsed _ _ c.parse.ensures.value.0
