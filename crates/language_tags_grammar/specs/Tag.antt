-- What a tag is (RFC 5646, section 2.1), and its text.
use Rattle.std.specs.Prelude.{ℕ, List, [], ◌∷◌, ◌++◌, Option, Some, None, codes, drop, nat_eq}
use Rattle.std.specs.Prelude.{if◌then◌else◌}
use Rattle.std.specs.List.{flat_map, starts_with}
use Rattle.std.specs.Str.{byte}
use Rattle.language_tags_grammar.specs.Pieces.{joined, pieces}

-- an extension: its singleton, and the pieces behind it
pub record Extension : Type 0 where
  pub singleton : ℕ
  pub content : List (List ℕ)

-- the parts of a langtag; `private` are the pieces behind the `x` of private use
pub record Parts : Type 0 where
  pub language : List ℕ
  pub extlangs : List (List ℕ)
  pub script : Option (List ℕ)
  pub region : Option (List ℕ)
  pub variants : List (List ℕ)
  pub extensions : List Extension
  pub private : List (List ℕ)

-- a grandfathered or private use tag is a whole text
pub data Tag : Type 0 where
  Whole : List ℕ → Tag
  Plain : Parts → Tag

-- the pieces of a part that may be missing
abbrev pub at_most_one : Option (List ℕ) → List (List ℕ)
at_most_one None = []
at_most_one (Some p) = p ∷ []

abbrev pub extension_pieces : Extension → List (List ℕ)
extension_pieces e = (e.singleton ∷ []) ∷ e.content

abbrev pub private_pieces : List (List ℕ) → List (List ℕ)
private_pieces [] = []
private_pieces (p ∷ ps) = (byte "x" ∷ []) ∷ p ∷ ps

-- the pieces behind the language, in their order
abbrev pub behind_language : Parts → List (List ℕ)
behind_language p =
    p.extlangs ++ (at_most_one p.script ++ (at_most_one p.region ++ (p.variants
    ++ (flat_map extension_pieces p.extensions ++ private_pieces p.private))))

abbrev pub written : Parts → List (List ℕ)
written p = p.language ∷ behind_language p

-- a tag's text
abbrev pub print : Tag → List ℕ
print (Whole text) = text
print (Plain p) = joined (written p)

-- what a tag has of each part; a whole text is its own language
abbrev pub language_of : Tag → List ℕ
language_of (Whole text) = text
language_of (Plain p) = p.language

abbrev pub full_language_of : Tag → List ℕ
full_language_of (Whole text) = text
full_language_of (Plain p) = joined (p.language ∷ p.extlangs)

abbrev pub extlangs_of : Tag → List (List ℕ)
extlangs_of (Whole text) = []
extlangs_of (Plain p) = p.extlangs

abbrev pub script_of : Tag → Option (List ℕ)
script_of (Whole text) = None
script_of (Plain p) = p.script

abbrev pub region_of : Tag → Option (List ℕ)
region_of (Whole text) = None
region_of (Plain p) = p.region

abbrev pub variants_of : Tag → List (List ℕ)
variants_of (Whole text) = []
variants_of (Plain p) = p.variants

abbrev pub extensions_of : Tag → List Extension
extensions_of (Whole text) = []
extensions_of (Plain p) = p.extensions

-- the pieces behind the x; a whole text has some where it begins with `x-`
abbrev pub private_of : Tag → List (List ℕ)
private_of (Whole text) = if starts_with nat_eq text (codes "x-") then pieces (drop 2 text) else []
private_of (Plain p) = p.private

-- the tag up to its variants
abbrev pub front_of : Tag → List ℕ
front_of (Whole text) = text
front_of (Plain p) =
    joined
    (p.language ∷ (p.extlangs ++ (at_most_one p.script ++ (at_most_one p.region ++ p.variants))))
