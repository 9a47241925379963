-- Unicode language identifiers (UTS 35) as values: four parts, and the text that they print.
use Rattle.std.specs.Prelude.{ℕ, List, [], ◌∷◌, ◌++◌, Option, Some, None, IfSome, refl}
use Rattle.std.specs.Cmp.Lexicographic.{slice_cmp}
use Rattle.std.specs.Coded.{Coded, code_by, coded×, coded_ℕ, coded_list, coded_option}
use Rattle.std.specs.List.{All, join_with_byte}
use Rattle.std.specs.List.Sorted.{IsStrictlySortedBy}
use Rattle.std.specs.Ordering.{nat_cmp}
use Rattle.std.specs.Str.{byte}
use Rattle.std.specs.declared.cmp.Ordering.{Ordering}
use Rattle.tinystr.specs.Shapes.{IsScript, IsRegion, IsVariant}
use Rattle.unic_langid_impl.specs.Subtags.{IsLanguageOrNone, language_text}

-- an identifier: each subtag a text in canonical case, the language missing where it is `und`
pub record Identifier : Type 0 where
  pub language : Option (List ℕ)
  pub script : Option (List ℕ)
  pub region : Option (List ℕ)
  pub variants : List (List ℕ)

-- the identifier without subtags
abbrev pub nothing : Identifier
nothing = record { language = None; script = None; region = None; variants = [] }

-- texts in the order of their bytes
abbrev pub text_cmp : List ℕ → List ℕ → Ordering
text_cmp = slice_cmp nat_cmp

-- each text is less than those behind it
abbrev pub Ascend : List (List ℕ) → Type 0
Ascend texts = IsStrictlySortedBy text_cmp texts

-- each subtag has its shape, and the variants ascend
pub record IsIdentifier (i : Identifier) : Type 0 where
  pub language : IsLanguageOrNone i.language
  pub script : IfSome i.script IsScript
  pub region : IfSome i.region IsRegion
  pub variants : All IsVariant i.variants
  pub ascend : Ascend i.variants

-- the texts of a part that may be missing
abbrev pub part : Option (List ℕ) → List (List ℕ)
part None = []
part (Some subtag) = subtag ∷ []

-- the subtags that are printed, in order
abbrev pub subtags : Identifier → List (List ℕ)
subtags i = language_text i.language ∷ (part i.script ++ (part i.region ++ i.variants))

-- the printed text: the language, `und` for none, then `-` and each of script, region and variants
-- that is there
abbrev pub print : Identifier → List ℕ
print i = join_with_byte (byte "-") (subtags i)

-- an identifier is stored as its four parts
abbrev pub identifier_code : Coded Identifier
identifier_code =
    code_by (Option (List ℕ) × (Option (List ℕ) × (Option (List ℕ) × List (List ℕ))))
    (coded× (coded_option (coded_list coded_ℕ)) (coded× (coded_option (coded_list coded_ℕ))
    (coded× (coded_option (coded_list coded_ℕ)) (coded_list (coded_list coded_ℕ)))))
    (λ i. (i.language, (i.script, (i.region, i.variants))))
    (λ p. record { language = p.0; script = p.1.0; region = p.1.1.0; variants = p.1.1.1 })
    (λ _. refl)
