-- Tags that are equal print the same text.
use Rattle.std.proofs.Common.{◌≡◌, drop, refl, sym, ap, ◌∙◌}
use Rattle.std.specs.Prelude.{IsTrue}
use Rattle.std.specs.Str.{bytes_eq}
use Rattle.std.proofs.lemmas.Slice.Eq.{bytes_eq-Decides}
use Rattle.language_tags.specs.Equality.{key}
use Rattle.language_tags_grammar.specs.Tag.{Tag, Whole, Plain, print}

print-key : (g : Tag) → drop 1 (key g) ≡ print g
print-key (Whole text) = refl
print-key (Plain p) = refl

pub same_print : (g h : Tag) → IsTrue (bytes_eq (key g) (key h)) → print g ≡ print h
same_print g h e = sym (print-key g)
    ∙ ap (drop 1) ((bytes_eq-Decides (key g) (key h)).0 e) ∙ print-key h
