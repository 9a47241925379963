use Rattle.std.proofs.Common.{ap, ◌∙◌}
use Rattle.std.specs.Option.{option_map}
use Rattle.gettext.proofs.MetadataFields.{gives-field_map}
use Rattle.gettext.proofs.metadata.MetadataMap.get.Goals as goal

pub returns : goal.returns
returns c = rw (← c.self.view_is, gives-field_map)
    (ap (option_map (λ s. s.now)) (c.copied.ensures ∙ c.get.ensures.value))
