-- Over an empty registry a tag has no canonical form exactly where it has parts with two extlangs
-- or more.
use Rattle.std.proofs.Common.{◌≡◌, ◌≤◌, ℕ, Bool, true, false, List, None, length, drop, refl, sym}
use Rattle.std.proofs.Common.{ap, subst}
use Rattle.std.specs.Prelude.{codes, nat_eq}
use Rattle.std.specs.List.{starts_with}
use Rattle.language_tags.specs.Canon.{IsCanonIn}
use Rattle.language_tags.specs.PrivateUse.{is_private_use}
use Rattle.language_tags.specs.declared.error.ValidationError.TheVariants.{MultipleExtendedLanguageSubtags}
use Rattle.language_tags_grammar.specs.Grandfathered.{grandfathered, is_grandfathered}
use Rattle.language_tags_grammar.specs.Lemmas.FindLaws.{is_grandfathered_is}
use Rattle.language_tags_grammar.specs.Lemmas.ScannedText.{begins-x}
use Rattle.language_tags_grammar.specs.Pieces.{lowercase}
use Rattle.language_tags_grammar.specs.Tag.{Parts, Tag, Plain, Whole, print}
use Rattle.language_tags_grammar.specs.TagOf.{BeginsOtherwise, IsTagOf, langtag, private_use, whole}
use Rattle.wanted_locale.specs.Laws.{CanonicalByExtlangs, empty_registry}
use Rattle.wanted_locale.specs.Wanted.{HasCanon, IsTagCause, long_language, no_canon, no_identifier}
use Rattle.wanted_locale.specs.Wanted.{no_tag}
use Rattle.wanted_locale.specs.declared.error.TagCause.TheVariants.{Canonical}

-- a tag's text has that tag
abbrev pub Again : Type 0
Again = (text : List ℕ) (g : Tag) → IsTagOf text g → IsTagOf (print g) g

-- which tags have no canonical form
refused : (private old : Bool) (g : Tag) → IsCanonIn private old empty_registry g None
    → (p : Parts) × (g ≡ Plain p) × (2 ≤ length p.extlangs)
refused true old g h = cc
refused false true g h = cc
refused false false (Whole text) h = cc
refused false false (Plain p) h = (p, refl, h)

-- the text of a tag with parts is no grandfathered one, and doesn't begin with `x-`
plain : (text : List ℕ) (p : Parts) → IsTagOf text (Plain p)
    → (grandfathered text ≡ None) × BeginsOtherwise text
plain text p (whole g e is) = cc
plain text p (private_use e rest behind are is) = cc
plain text p (langtag e otherwise q h is) = (e, otherwise)

-- so the tag isn't for private use
not_private : (text : List ℕ) → BeginsOtherwise text → starts_with nat_eq text (codes "x-") ≡ false
not_private text otherwise = by (starts_with nat_eq text (codes "x-")) refl
  where
    by : (b : Bool) → starts_with nat_eq text (codes "x-") ≡ b → b ≡ false
    by true e = absurd (otherwise (lowercase (drop 2 text)) (ap lowercase (sym (begins-x text e))))
    by false e = refl

-- that cause comes of a missing canonical form
cause_none : (text : List ℕ)
    → IsTagCause empty_registry text (Canonical MultipleExtendedLanguageSubtags)
    → HasCanon empty_registry text None
cause_none text (no_tag some h is) = cc
cause_none text (no_canon h is) = h
cause_none text (no_identifier h some k is) = cc
cause_none text (long_language h long is) = cc

-- a missing canonical form comes of two extlangs
none_extlangs : (text : List ℕ) → HasCanon empty_registry text None
    → (p : Parts) × IsTagOf text (Plain p) × (2 ≤ length p.extlangs)
none_extlangs text h =
    let r = refused (is_private_use h.tag) (is_grandfathered (print h.tag)) h.tag h.canon in
    (r.0, subst (IsTagOf text) r.1 h.parsed, r.2)

module _ (again : Again) where
  -- and of two extlangs a missing canonical form
  extlangs_none : (text : List ℕ) (p : Parts) → IsTagOf text (Plain p) → 2 ≤ length p.extlangs
      → HasCanon empty_registry text None
  extlangs_none text p h many =
      let printed = plain (print (Plain p)) p (again text (Plain p) h) in
      let other : is_private_use (Plain p) ≡ false = not_private (print (Plain p)) printed.1 in
      let parts : is_grandfathered (print (Plain p)) ≡ false =
      sym (is_grandfathered_is (print (Plain p)) None (sym printed.0)) in
      record {
        tag = Plain p;
        parsed = h;
        canon =
            subst
            (λ b. IsCanonIn b (is_grandfathered (print (Plain p))) empty_registry (Plain p) None)
            (sym other)
            (subst (λ b. IsCanonIn false b empty_registry (Plain p) None) (sym parts) many);
      }

  -- the law, as it is stated
  pub CanonicalByExtlangs-holds : CanonicalByExtlangs
  CanonicalByExtlangs-holds text = (
    λ h. none_extlangs text (cause_none text h),
    λ h. no_canon (extlangs_none text h.0 h.1 h.2) refl,
  )
