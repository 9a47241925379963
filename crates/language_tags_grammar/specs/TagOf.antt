-- Of which text a tag is: RFC 5646, section 2.1.
use Rattle.std.specs.Prelude.{◌≡◌, ◌≢◌, ℕ, List, ◌++◌, map, Some, None, IsTrue, codes}
use Rattle.std.specs.List.{list_all}
use Rattle.language_tags_grammar.specs.Grandfathered.{grandfathered}
use Rattle.language_tags_grammar.specs.Pieces.{lowercase, pieces}
use Rattle.language_tags_grammar.specs.Shapes.{AreParts, is_private}
use Rattle.language_tags_grammar.specs.Tag.{Parts, Tag, Whole, Plain, written}

-- langtag: the pieces of the text are, without their case, those of the parts in order
pub record IsLangtag (text : List ℕ) (p : Parts) : Type 0 where
  pub shapes : AreParts p
  pub in_order : pieces (lowercase text) ≡ map lowercase (written p)

-- what stands behind the `x-` that a text begins with
abbrev pub StandsBehindX : List ℕ → List ℕ → Type 0
StandsBehindX rest text = lowercase text ≡ codes "x-" ++ rest

-- the text doesn't begin with `x-`
abbrev pub BeginsOtherwise : List ℕ → Type 0
BeginsOtherwise text = (rest : List ℕ) → lowercase text ≢ codes "x-" ++ rest

-- the tag of a text: a grandfathered one in its own spelling, a private use one in lower case, or
-- the parts of a langtag
pub data IsTagOf (text : List ℕ) (tag : Tag) : Type 0 where
  whole : (g : List ℕ) → grandfathered text ≡ Some g → tag ≡ Whole g → IsTagOf text tag
  private_use : grandfathered text ≡ None → (rest : List ℕ) → StandsBehindX rest text
      → IsTrue (list_all is_private (pieces rest)) → tag ≡ Whole (lowercase text) → IsTagOf text tag
  langtag : grandfathered text ≡ None → BeginsOtherwise text
      → (p : Parts) → IsLangtag text p → tag ≡ Plain p → IsTagOf text tag
