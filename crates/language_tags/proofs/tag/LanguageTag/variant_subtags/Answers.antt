use Rattle.std.proofs.Common.{string_bytes, ap, ◌∙◌}
use Rattle.language_tags_grammar.specs.Pieces.{pieces_of}
use Rattle.language_tags_grammar.specs.Tag.{variants_of}
use Rattle.language_tags.proofs.KeptUse.{variants-clean}
use Rattle.language_tags_grammar.specs.Lemmas.ScannedText.{pieces-part_text}
use Rattle.language_tags.proofs.tag.LanguageTag.variant_subtags.Goals as goal

pub returns : goal.returns
returns c =
    c.new.ensures ∙ ap pieces_of c.variant.ensures.value
    ∙ pieces-part_text (variants_of c.args.self.now)
    (variants-clean c.self.inside.ends
    (string_bytes c.self.inside.text) c.args.self.now c.self.invariant c.self.view_is)
