use Rattle.std.proofs.Common.{ap, sym}
use Rattle.std.specs.List.{flat_map}
use Rattle.language_tags_grammar.specs.Tag.{extension_pieces, extensions_of, private_of}
use Rattle.language_tags_grammar.specs.Tag.{private_pieces}
use Rattle.language_tags.proofs.KeptUse.{no_pieces, no_text, range_is}
use Rattle.language_tags.proofs.tag.LanguageTag.is_language_range.Goals as goal

pub returns-then-is_none : goal.returns-then-is_none
returns-then-is_none c =
    let g = c.args.self.now in (
      λ both. range_is g
          (no_pieces c.extension.result c.is_none.result
          (flat_map extension_pieces (extensions_of g)) c.extension.ensures.value
          (sym c.is_none.ensures) c.if-is_none.true)
          (no_pieces c.private_use.result c.is_none-then-is_none.result
          (private_pieces (private_of g)) c.private_use.ensures.value
          (sym c.is_none-then-is_none.ensures) both),
      λ range. no_text c.private_use.result c.is_none-then-is_none.result
          (private_pieces (private_of g)) c.private_use.ensures.value
          (sym c.is_none-then-is_none.ensures) (ap private_pieces range.private),
    )
