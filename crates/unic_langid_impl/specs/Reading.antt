-- Which identifier a text is (UTS 35, Unicode locale identifiers, with `und` as the language that
-- is missing), what a reader takes of pieces, and why it refuses them.
use Rattle.std.specs.Prelude.{◌≡◌, ◌≢◌, ◌↔◌, ℕ, Bool, false, List, [], ◌∷◌, ◌++◌, map, drop, Option}
use Rattle.std.specs.Prelude.{IfSome, IsSomeAnd}
use Rattle.std.specs.List.{All, Contains}
use Rattle.std.specs.Option.{option_map}
use Rattle.tinystr.specs.Shapes.{IsScript, IsRegion, IsVariant}
use Rattle.tinystr.specs.Text.{titlecase}
use Rattle.unic_langid_impl.specs.Identifier.{Ascend, Identifier, nothing, part}
use Rattle.unic_langid_impl.specs.Pieces.{first_piece, pieces_of}
use Rattle.unic_langid_impl.specs.Subtags.{IsLanguage, language_of, lowercase, uppercase}
use Rattle.unic_langid_impl.specs.declared.parser.error.ParserError.{ParserError}
use Rattle.unic_langid_impl.specs.declared.parser.error.ParserError.TheVariants.{InvalidLanguage}
use Rattle.unic_langid_impl.specs.declared.parser.error.ParserError.TheVariants.{InvalidSubtag}
use Rattle.unic_langid_impl.specs.declared.parser.error.ParserError.TheVariants.{NoMemory}

-- the ascending list of the distinct texts of a list
pub record IsAscendingOf (texts ascending : List (List ℕ)) : Type 0 where
  pub ascend : Ascend ascending
  pub same : (text : List ℕ) → (Contains ascending text ↔ Contains texts text)

-- The pieces are the identifier: a language, then at most one script, at most one region, and
-- variants, in this order, each in any case. The identifier has them in canonical case, and the
-- variants as an ascending list without repetition.
pub record AreIdentifier (pieces : List (List ℕ)) (i : Identifier) : Type 0 where
  pub language : List ℕ
  pub script : Option (List ℕ)
  pub region : Option (List ℕ)
  pub variants : List (List ℕ)
  pub pieces_are : pieces ≡ language ∷ (part script ++ (part region ++ variants))
  pub is_language : IsLanguage (lowercase language)
  pub is_script : IfSome i.script IsScript
  pub is_region : IfSome i.region IsRegion
  pub are_variants : All IsVariant (map lowercase variants)
  pub language_is : i.language ≡ language_of (lowercase language)
  pub script_is : i.script ≡ option_map titlecase script
  pub region_is : i.region ≡ option_map uppercase region
  pub variants_are : IsAscendingOf (map lowercase variants) i.variants

-- the bytes are the identifier
abbrev pub id_of : List ℕ → Identifier → Type 0
id_of bytes i = AreIdentifier (pieces_of bytes) i

-- no identifier has these pieces
abbrev pub AreNoIdentifier : List (List ℕ) → Type 0
AreNoIdentifier pieces = (i : Identifier) → ¬ (AreIdentifier pieces i)

-- nothing is left, or the first piece that is left fits no place behind those before it
abbrev pub Stops : List (List ℕ) → List (List ℕ) → Type 0
Stops before [] = Unit {0}
Stops before (piece ∷ left) = AreNoIdentifier (before ++ piece ∷ [])

-- As many of the pieces as can be are the identifier, and the others are left.
pub record IsReadUpTo (pieces left : List (List ℕ)) (i : Identifier) : Type 0 where
  pub before : List (List ℕ)
  pub parts : before ++ left ≡ pieces
  pub are : AreIdentifier before i
  pub stops : Stops before left

-- what a reader takes: as much as it can; with no piece, no subtag
abbrev pub Reads : List (List ℕ) → List (List ℕ) → Identifier → Type 0
Reads [] left i = (left ≡ []) × (i ≡ nothing)
Reads (piece ∷ pieces) left i = IsReadUpTo (piece ∷ pieces) left i

-- whether the first piece is a language
abbrev pub BeginsWithLanguage : List (List ℕ) → Type 0
BeginsWithLanguage pieces = IsSomeAnd (first_piece pieces) (λ first. IsLanguage (lowercase first))

abbrev pub BeginsWithNoLanguage : List (List ℕ) → Type 0
BeginsWithNoLanguage pieces =
    IsSomeAnd (first_piece pieces) (λ first. ¬ (IsLanguage (lowercase first)))

-- Why a reader refuses pieces, and which it leaves, those behind the pieces that it took: the first
-- piece is no language; or a later one fits no place that is left, and it stands first among those
-- left; or memory ran out.
abbrev pub Refuses : Bool → List (List ℕ) → List (List ℕ) → ParserError → Type 0
Refuses extension pieces left InvalidLanguage = BeginsWithNoLanguage pieces × (left ≡ drop 1 pieces)
Refuses extension pieces left InvalidSubtag =
    (extension ≡ false) × BeginsWithLanguage pieces × AreNoIdentifier pieces × (left ≢ [])
    × ((i : Identifier) × IsReadUpTo pieces left i)
Refuses extension pieces left NoMemory = (taken : List (List ℕ)) × (taken ++ left ≡ pieces)

-- why bytes are no identifier: the first piece is no language; or it is one, and a later piece fits
-- no place that is left
abbrev pub IsParserFault : List ℕ → ParserError → Type 0
IsParserFault bytes InvalidLanguage = BeginsWithNoLanguage (pieces_of bytes)
IsParserFault bytes InvalidSubtag =
    BeginsWithLanguage (pieces_of bytes) × AreNoIdentifier (pieces_of bytes)
IsParserFault bytes NoMemory = Unit {0}
