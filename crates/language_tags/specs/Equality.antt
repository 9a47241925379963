-- When tags are equal, and what they match.
use Rattle.std.specs.Prelude.{◌≡◌, ℕ, List, [], ◌∷◌, IfSome, Some}
use Rattle.language_tags_grammar.specs.Pieces.{joined}
use Rattle.language_tags_grammar.specs.Tag.{Tag, Whole, Plain, extensions_of, full_language_of}
use Rattle.language_tags_grammar.specs.Tag.{private_of, region_of, script_of, variants_of, written}

-- a whole tag isn't equal to one with parts, whatever it prints
abbrev pub key : Tag → List ℕ
key (Whole text) = 0 ∷ text
key (Plain p) = 1 ∷ joined (written p)

-- a range has neither extensions nor private use
pub record IsRange (tag : Tag) : Type 0 where
  pub extensions : extensions_of tag ≡ []
  pub private : private_of tag ≡ []

-- lists that agree in the places that both have
abbrev pub Agree : List (List ℕ) → List (List ℕ) → Type 0
Agree [] ys = Unit {0}
Agree (x ∷ xs) [] = Unit {0}
Agree (x ∷ xs) (y ∷ ys) = (x ≡ y) × Agree xs ys

-- the tag has the range's full language, its script and region where it has them, and its variants
pub record Matches (range tag : Tag) : Type 0 where
  pub full_language : full_language_of range ≡ full_language_of tag
  pub script : IfSome (script_of range) (λ s. script_of tag ≡ Some s)
  pub region : IfSome (region_of range) (λ r. region_of tag ≡ Some r)
  pub variants : Agree (variants_of range) (variants_of tag)
