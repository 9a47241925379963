-- How a tag is kept: its text, and for a langtag where each part ends.
use Rattle.std.specs.Prelude.{◌≡◌, ℕ, ◌+◌, ◌-◌, List, [], ◌∷◌, Option, Some, None, length, take}
use Rattle.std.specs.Prelude.{drop}
use Rattle.std.specs.List.{flat_map}
use Rattle.std.specs.Str.{IsAscii}
use Rattle.language_tags_grammar.specs.Pieces.{dashed, joined, pieces}
use Rattle.language_tags_grammar.specs.Shapes.{AreParts}
use Rattle.language_tags_grammar.specs.Tag.{Extension, Parts, Tag, Whole, Plain, at_most_one}
use Rattle.language_tags_grammar.specs.Tag.{extension_pieces, written}
use Rattle.language_tags_grammar.specs.declared.ends.Ends.{Ends}

-- a text from one place to another
abbrev pub between : ℕ → ℕ → List ℕ → List ℕ
between from to text = take (to - from) (drop from text)

-- the pieces of a part with a dash before each
abbrev pub part_pieces : List ℕ → List (List ℕ)
part_pieces [] = []
part_pieces (c ∷ text) = pieces text

abbrev pub first_piece : List (List ℕ) → Option (List ℕ)
first_piece [] = None
first_piece (p ∷ ps) = Some p

-- pieces up to the first singleton, and from there on the extensions
pub record Grouped : Type 0 where
  pub front : List (List ℕ)
  pub extensions : List Extension

abbrev pub put : List ℕ → Grouped → Grouped
put [] g = record { front = [] ∷ g.front; extensions = g.extensions }
put (c ∷ []) g =
    record { front = []; extensions = record { singleton = c; content = g.front } ∷ g.extensions }
put (c ∷ d ∷ p) g = record { front = (c ∷ d ∷ p) ∷ g.front; extensions = g.extensions }

abbrev pub grouped : List (List ℕ) → Grouped
grouped [] = record { front = []; extensions = [] }
grouped (p ∷ ps) = put p (grouped ps)

abbrev pub parts_at : Ends → List ℕ → Parts
parts_at ends text = record {
  language = take ends.language text;
  extlangs = part_pieces (between ends.language ends.extlang text);
  script = first_piece (part_pieces (between ends.extlang ends.script text));
  region = first_piece (part_pieces (between ends.script ends.region text));
  variants = part_pieces (between ends.region ends.variant text);
  extensions = (grouped (part_pieces (between ends.variant ends.extension text))).extensions;
  private = drop 1 (part_pieces (drop ends.extension text));
}

abbrev pub tag_at : Option Ends → List ℕ → Tag
tag_at None text = Whole text
tag_at (Some ends) text = Plain (parts_at ends text)

-- each part ends as many bytes behind the part before it as its pieces have, with a dash before
-- each
pub record EndAt (p : Parts) (ends : Ends) : Type 0 where
  pub language : ends.language ≡ length p.language
  pub extlang : ends.extlang ≡ ends.language + length (dashed p.extlangs)
  pub script : ends.script ≡ ends.extlang + length (dashed (at_most_one p.script))
  pub region : ends.region ≡ ends.script + length (dashed (at_most_one p.region))
  pub variant : ends.variant ≡ ends.region + length (dashed p.variants)
  pub extension : ends.extension ≡ ends.variant
      + length (dashed (flat_map extension_pieces p.extensions))

-- the text is that of the parts
pub record KeepsParts (text : List ℕ) (ends : Ends) (p : Parts) : Type 0 where
  pub shapes : AreParts p
  pub text_is : text ≡ joined (written p)
  pub ends_are : EndAt p ends

abbrev pub IsKept : Option Ends → List ℕ → Type 0
IsKept None text = IsAscii text
IsKept (Some ends) text = KeepsParts text ends (parts_at ends text)
