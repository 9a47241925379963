use Rattle.std.proofs.Common.{◌≡◌, ◌++◌, true, map, string_bytes}
use Rattle.std.specs.List.{list_all}
use Rattle.language_tags_grammar.specs.Pieces.{dashed, pieces}
use Rattle.language_tags_grammar.specs.Shapes.{is_variant}
use Rattle.language_tags_grammar.specs.Tag.{variants_of}
use Rattle.language_tags.specs.Canon.{not_written, replaced}
use Rattle.language_tags.proofs.tag.LanguageTag.push_variants.Given as goal

-- what is there and what is left to append give the whole
abbrev pub invariant-loop-subtag : goal.invariant-loop-subtag
invariant-loop-subtag l = record {
  text : string_bytes l.text
      ++ dashed
      (not_written (pieces (string_bytes l.text))
      (map (replaced l.registry.variants_preferred) l.subtag-iterator))
      ≡ string_bytes l.fn.text
      ++ dashed
      (not_written (pieces (string_bytes l.fn.text))
      (map (replaced l.registry.variants_preferred) (variants_of l.self)));
  shape : list_all is_variant
      (not_written (pieces (string_bytes l.text))
      (map (replaced l.registry.variants_preferred) l.subtag-iterator)) ≡ true
      → list_all is_variant
      (not_written (pieces (string_bytes l.fn.text))
      (map (replaced l.registry.variants_preferred) (variants_of l.self))) ≡ true;
  left : list_all is_variant l.subtag-iterator ≡ true;
}
