use Rattle.std.proofs.Common.{string_bytes, ap, ◌∙◌}
use Rattle.std.specs.Str.{bytes_eq}
use Rattle.language_tags_grammar.specs.Pieces.{pieces_of}
use Rattle.language_tags_grammar.specs.Tag.{variants_of}
use Rattle.language_tags_grammar.specs.Lemmas.ScannedText.{pieces-part_text}
use Rattle.language_tags.specs.Valid.{are_different}
use Rattle.language_tags.proofs.KeptUse.{variants-clean}
use Rattle.language_tags.proofs.tag.LanguageTag.has_different_variants.Goals as goal

pub returns-in-Some : goal.returns-in-Some
returns-in-Some c =
    c.has_different_pieces.ensures
    ∙ ap (are_different bytes_eq)
    (ap pieces_of c.in-Some.ensures.value
    ∙ pieces-part_text (variants_of c.args.self.now)
    (variants-clean c.self.inside.ends
    (string_bytes c.self.inside.text) c.args.self.now c.self.invariant c.self.view_is))
