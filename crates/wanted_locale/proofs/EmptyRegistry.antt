-- Over an empty registry whole tags and the parts of a locale are in canonical form.
use Rattle.std.proofs.Common.{rules, ◌≡◌, ◌≤◌, ℕ, Bool, true, false, cond, List, [], ◌∷◌, ◌++◌}
use Rattle.std.proofs.Common.{Option, Some, None, map, length, refl, sym, ap, subst, arith}
use Rattle.std.specs.Prelude.{◌||◌, IfSome}
use Rattle.std.specs.List.{list_any}
use Rattle.std.specs.Option.{option_map}
use Rattle.std.specs.Str.{bytes_eq}
use Rattle.std.proofs.lemmas.Bool.Decides.{nat_tests}
use Rattle.std.proofs.lemmas.Slice.Eq.{bytes_eq-Decides}
use Rattle.icu_locale_core.specs.Locale.{IsLocale, Locale}
use Rattle.icu_locale_core.specs.Shapes.{IsRegion, IsScript, IsVariant}
use Rattle.language_tags.specs.Canon.{IsCanonIn, not_written, replaced, unless_suppressed}
use Rattle.language_tags_grammar.specs.Tag.{Parts, Plain, Whole, at_most_one}
use Rattle.wanted_locale.specs.Laws.{empty_registry}

-- a variant is longer than a language or a region
longer : (x y : List ℕ) → IsVariant x → length y ≤ 3 → bytes_eq x y ≡ false
longer x y h short = by (bytes_eq x y) refl
  where
    by : (b : Bool) → bytes_eq x y ≡ b → b ≡ false
    by true e = let same = (bytes_eq-Decides x y).0 e in absurd (grind (arith, nat_tests))
    by false e = refl

-- and begins with no capital, as a script does
variant_script : (x : List ℕ) → IsVariant x → IsScript x → ⊥
variant_script [] h k = cc
variant_script (c ∷ x) h k = grind (arith, nat_tests)

-- a region is short
region_short : (y : List ℕ) → IsRegion y → length y ≤ 3
region_short y h = grind (arith, nat_tests)

-- so it doesn't stand among those written before it
new_variant : (x language : List ℕ) (script region : Option (List ℕ)) → IsVariant x
    → length language ≤ 3
    → IfSome script IsScript → IfSome region IsRegion
    → list_any (bytes_eq x) (language ∷ (at_most_one script ++ at_most_one region)) ≡ false
new_variant x language script region v short s r =
    λ i. longer x language v short i || none_among i
  where
    no_script : (y : List ℕ) → IsScript y → bytes_eq x y ≡ false
    no_script y s = by (bytes_eq x y) refl
      where
        by : (b : Bool) → bytes_eq x y ≡ b → b ≡ false
        by true e =
            absurd (variant_script x v (subst IsScript (sym ((bytes_eq-Decides x y).0 e)) s))
        by false e = refl

    no_region : (y : List ℕ) → IsRegion y → bytes_eq x y ≡ false
    no_region y r = longer x y v (region_short y r)

    none_region : (o : Option (List ℕ)) → IfSome o IsRegion
        → list_any (bytes_eq x) (at_most_one o) ≡ false
    none_region None h = refl
    none_region (Some y) h = λ i. no_region y h i || false

    none_script : (o : Option (List ℕ)) → IfSome o IsScript
        → list_any (bytes_eq x) (at_most_one o ++ at_most_one region) ≡ false
    none_script None h = none_region region r
    none_script (Some y) h = λ i. no_script y h i || none_region region r i

    none_among : list_any (bytes_eq x) (at_most_one script ++ at_most_one region) ≡ false
    none_among = none_script script s

-- what has no preferred value stays
script-stays : (o : Option (List ℕ)) → o ≡ unless_suppressed None (option_map (replaced []) o)
script-stays None = refl
script-stays (Some s) = refl

-- a region too
region-stays : (o : Option (List ℕ)) → o ≡ option_map (replaced []) o
region-stays None = refl
region-stays (Some s) = refl

-- a whole tag stays
pub whole_stays : (private old : Bool) (text : List ℕ)
    → IsCanonIn private old empty_registry (Whole text) (Some (Whole text))
whole_stays true old text = refl
whole_stays false true text = refl
whole_stays false false text = refl

-- a locale's subtags as the parts of a tag
abbrev pub parts_of : Locale → Parts
parts_of l =
    record {
      language = l.language;
      extlangs = [];
      script = l.script;
      region = l.region;
      variants = at_most_one l.variant;
      extensions = [];
      private = [];
    }

module _ (l : Locale) (h : IsLocale l) (short : length l.language ≤ 3) where
  -- the variant isn't among those written before it
  kept_variant : (o : Option (List ℕ)) → IfSome o IsVariant
      → at_most_one o
      ≡ not_written (l.language ∷ (at_most_one l.script ++ at_most_one l.region))
      (map (replaced []) (at_most_one o))
  kept_variant None v = refl
  kept_variant (Some x) v =
      sym
      (ap (λ b. cond b [] (x ∷ []))
      (new_variant x l.language l.script l.region v short h.script h.region))

  -- so the parts of a locale stay
  pub parts_stay : (private old : Bool)
      → IsCanonIn private old empty_registry (Plain (parts_of l)) (Some (Plain (parts_of l)))
  parts_stay true old = refl
  parts_stay false true = refl
  parts_stay false false = (
    omega arith,
    record {
      language = refl;
      extlangs = refl;
      script = script-stays l.script;
      region = region-stays l.region;
      variants = kept_variant l.variant h.variant;
      extensions = search rules;
      order = search rules;
      private = refl;
    },
  )
