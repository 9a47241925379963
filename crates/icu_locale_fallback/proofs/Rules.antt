-- What is known of a locale where each rule of the language priority applies.
use Rattle.std.proofs.Common.{◌≡◌, ℕ, Bool, true, false, List, Option, Some, None, is_some}
use Rattle.std.proofs.Common.{unwrap_or, [], ◌∷◌, if◌then◌else◌, refl, ap, ◌∙◌}
use Rattle.std.specs.FinMap as map
use Rattle.std.specs.Option.{option_map}
use Rattle.std.proofs.lemmas.Bool.{and_parts}
use Rattle.icu_locale_core.specs.EqualityLaws.{same_text-Decides}
use Rattle.icu_locale_core.specs.Locale.{Locale, unknown}
use Rattle.icu_locale_fallback.specs.declared.config.LocaleFallbackPriority.TheVariants.{Language}
use Rattle.icu_locale_fallback.specs.declared.rule.Rule.{Rule}
use Rattle.icu_locale_fallback.specs.declared.rule.Rule.TheVariants.{Stay, DropSubdivision}
use Rattle.icu_locale_fallback.specs.declared.rule.Rule.TheVariants.{DropVariant, GoToParent}
use Rattle.icu_locale_fallback.specs.declared.rule.Rule.TheVariants.{DropRegion, DropLanguage}
use Rattle.icu_locale_fallback.specs.Triple.{Triple, triple_of}
use Rattle.icu_locale_fallback.specs.Tables.{Tables}
use Rattle.icu_locale_fallback.specs.Steps.{Reached, is_unknown, when, first_of, own_rules, rule}
use Rattle.icu_locale_fallback.specs.Steps.{step_by, subdivision_back, variant_back}
use Rattle.icu_locale_fallback.proofs.Options.{none_by_is_none, none_by_is_some}

-- the same subtags make the same locale
same_subtags : (a b : Locale) → a.language ≡ b.language → a.script ≡ b.script
    → a.region ≡ b.region → a.variant ≡ b.variant → a.subdivision ≡ b.subdivision → a ≡ b
same_subtags a b l s r v d i =
    record { language = l i; script = s i; region = r i; variant = v i; subdivision = d i }

-- the test for the unknown locale holds of no other
pub unknown_of : (l : Locale) → is_unknown l ≡ true → l ≡ unknown
unknown_of l h =
    let language = and_parts _ _ h in
    let script = and_parts _ _ language.1 in
    let region = and_parts _ _ script.1 in
    let variant = and_parts _ _ region.1 in
    same_subtags l unknown
    ((same_text-Decides l.language unknown.language).0 language.0)
    (none_by_is_none l.script script.0)
    (none_by_is_none l.region region.0)
    (none_by_is_none l.variant variant.0)
    (none_by_is_none l.subdivision variant.1)

-- what is known where the rule applies to l
pub data Applies (F : Tables) (l : Locale) : Rule → Type 0 where
  at_unknown : l ≡ unknown → Applies F l Stay
  with_subdivision : is_some l.subdivision ≡ true → Applies F l DropSubdivision
  with_variant : l.subdivision ≡ None → is_some l.variant ≡ true → Applies F l DropVariant
  with_parent : {parent : Triple} → l.subdivision ≡ None → l.variant ≡ None
      → map.get F.parents (triple_of l) ≡ Some parent → Applies F l (GoToParent parent)
  with_region : l.subdivision ≡ None → l.variant ≡ None → is_some l.region ≡ true
      → Applies F l DropRegion
  with_language : l.subdivision ≡ None → l.variant ≡ None → l.region ≡ None
      → Applies F l DropLanguage

-- a rule whose condition holds, or those behind it
pub choose : (P : Rule → Type 0) (b : Bool) (r rest : Rule) → (b ≡ true → P r)
    → (b ≡ false → P rest)
    → P (unwrap_or (when b r) rest)
choose P true r rest here behind = here refl
choose P false r rest here behind = behind refl

-- the rule that the walk takes applies
pub applies : (F : Tables) (l : Locale) → Applies F l (rule Language F l)
applies F l =
    choose (Applies F l) (is_unknown l) Stay behind_unknown (λ e. at_unknown (unknown_of l e)) (λ _.
    choose (Applies F l)
    (is_some l.subdivision) DropSubdivision behind_subdivision with_subdivision (λ s.
    choose (Applies F l) (is_some l.variant) DropVariant behind_variant
    (with_variant (none_by_is_some _ s)) (λ v.
    last (none_by_is_some _ s) (none_by_is_some _ v))))
  where
    -- the rules behind that for the variant
    behind_variant : Rule
    behind_variant = first_of (own_rules Language F l)

    -- behind that for the subdivision
    behind_subdivision : Rule
    behind_subdivision = first_of (when (is_some l.variant) DropVariant ∷ own_rules Language F l)

    -- and behind that for the unknown locale
    behind_unknown : Rule
    behind_unknown =
        first_of
        (when (is_some l.subdivision) DropSubdivision ∷ when (is_some l.variant) DropVariant
        ∷ own_rules Language F l)

    -- behind that for a parent
    behind_parent : Rule
    behind_parent = first_of (when (is_some l.region) DropRegion ∷ Some DropLanguage ∷ [])

    -- where there are neither subdivision nor variant
    last : l.subdivision ≡ None → l.variant ≡ None → Applies F l behind_variant
    last s v =
        elim (map.get F.parents (triple_of l)) as
        (λ o. map.get F.parents (triple_of l) ≡ o
        → Applies F l (unwrap_or (option_map GoToParent o) behind_parent)) [
          | Some t ↦ λ e. with_parent s v e
          | None ↦ λ e. choose (Applies F l) (is_some l.region) DropRegion DropLanguage
              (with_region s v) (λ g. with_language s v (none_by_is_some _ g))
        ] refl

-- language and script of a point go
abbrev pub bare : Reached → Reached
bare r = record r { locale = record r.locale { language = unknown.language; script = None } }

-- where there is no region, nothing comes back with the language's going
pub drops_alone : (F : Tables) (first : Option (List ℕ)) (r : Reached) → r.locale.region ≡ None
    → step_by DropLanguage F first r ≡ bare r
drops_alone F first r g =
    let test : is_some r.locale.region ≡ false = ap is_some g in
    λ i. if test i then subdivision_back (variant_back (bare r)) else bare r

-- so the unknown locale is left
pub drops_to_unknown : (F : Tables) (first : Option (List ℕ)) (r : Reached)
    → r.locale.subdivision ≡ None → r.locale.variant ≡ None → r.locale.region ≡ None
    → (step_by DropLanguage F first r).locale ≡ unknown
drops_to_unknown F first r s v g =
    ap (λ p. p.locale) (drops_alone F first r g)
    ∙ same_subtags (bare r).locale unknown refl refl g v s
