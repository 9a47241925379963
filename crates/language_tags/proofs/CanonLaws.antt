-- Which way a tag goes to its canonical form.
use Rattle.std.proofs.Common.{◌≡◌, ◌≤◌, ℕ, true, false, List, length, Option, Some, None, sym, ap}
use Rattle.std.proofs.Common.{◌∙◌, subst}
use Rattle.std.specs.Prelude.{is_some}
use Rattle.language_tags_grammar.specs.Grandfathered.{is_grandfathered}
use Rattle.language_tags_grammar.specs.Kept.{IsKept, tag_at}
use Rattle.language_tags_grammar.specs.Tag.{Parts, Tag, Plain, extlangs_of, print}
use Rattle.language_tags_grammar.specs.TagOf.{IsTagOf}
use Rattle.language_tags_grammar.specs.declared.ends.Ends.{Ends}
use Rattle.language_tags_registry.specs.Registry.{Tables, value_of}
use Rattle.language_tags.specs.Canon.{AreCanonical, GoesTo, IsCanonIn, IsCanonOf, Rewrites, Stays}
use Rattle.language_tags.specs.CanonText.{IsShaped}
use Rattle.language_tags.specs.PrivateUse.{is_private_use}

module _ (R : Tables) (g : Tag) (r : Option Tag) where
  pub canon_private : is_private_use g ≡ true → Stays g r → IsCanonOf R g r
  canon_private e h = subst (λ b. IsCanonIn b (is_grandfathered (print g)) R g r) (sym e) h

  pub canon_grandfathered : is_private_use g ≡ false → is_grandfathered (print g) ≡ true
      → GoesTo (value_of R.grandfathereds_preferred (print g)) (Stays g) r → IsCanonOf R g r
  canon_grandfathered e f h =
      subst (λ b. IsCanonIn b (is_grandfathered (print g)) R g r) (sym e)
      (subst (λ b. IsCanonIn false b R g r) (sym f) h)

  pub canon_other : is_private_use g ≡ false → is_grandfathered (print g) ≡ false
      → GoesTo (value_of R.redundants_preferred (print g)) (Rewrites R g) r → IsCanonOf R g r
  canon_other e f h =
      subst (λ b. IsCanonIn b (is_grandfathered (print g)) R g r) (sym e)
      (subst (λ b. IsCanonIn false b R g r) (sym f) h)

-- a tag goes to the text that there is, or otherwise
pub goes_text : (o : Option (List ℕ)) (text : List ℕ) (Otherwise : Option Tag → Type 0) (tag : Tag)
    → Some text ≡ o
    → IsTagOf text tag → GoesTo o Otherwise (Some tag)
goes_text o text Otherwise tag e h = subst (λ q. GoesTo q Otherwise (Some tag)) e h

pub goes_on : (o : Option (List ℕ)) (Otherwise : Option Tag → Type 0) (r : Option Tag)
    → None ≡ o → Otherwise r
    → GoesTo o Otherwise r
goes_on o Otherwise r e h = subst (λ q. GoesTo q Otherwise r) e h

-- a whole text stays
pub stays-whole : (R : Tables) (o : Option Ends) (text : List ℕ) (g tag : Tag) → is_some o ≡ false
    → tag_at o text ≡ g → tag ≡ g
    → Rewrites R g (Some tag)
stays-whole R None text g tag none view e =
    subst (λ q. Rewrites R q (Some tag)) view (ap Some (e ∙ sym view))
stays-whole R (Some ends) text g tag none view e = cc

-- any other tag has parts, which have their shapes
pub plain-shaped : (o : Option Ends) (text : List ℕ) (g : Tag) → is_some o ≡ true → IsKept o text
    → tag_at o text ≡ g → IsShaped g
plain-shaped None text g some h view = cc
plain-shaped (Some ends) text g some h view = subst IsShaped view h.shapes

module _ (R : Tables) (o : Option Ends) (text : List ℕ) (g : Tag) where
  -- two extlangs refuse it
  pub parts-refused : is_some o ≡ true → tag_at o text ≡ g → 2 ≤ length (extlangs_of g)
      → Rewrites R g None
  parts-refused some view many = by o some view
    where
      by : (o : Option Ends) → is_some o ≡ true → tag_at o text ≡ g → Rewrites R g None
      by None some view = cc
      by (Some ends) some view =
          subst (λ q. Rewrites R q None) view
          (subst (λ q. 2 ≤ length (extlangs_of q)) (sym view) many)

  pub parts-rewritten : is_some o ≡ true → tag_at o text ≡ g → length (extlangs_of g) ≤ 1
      → (q : Parts) → AreCanonical R g q
      → (tag : Tag) → tag ≡ Plain q → Rewrites R g (Some tag)
  parts-rewritten some view few q are tag is = by o some view
    where
      by : (o : Option Ends) → is_some o ≡ true → tag_at o text ≡ g → Rewrites R g (Some tag)
      by None some view = cc
      by (Some ends) some view =
          subst (λ x. Rewrites R x (Some tag)) view
          (subst (λ t. Rewrites R (tag_at (Some ends) text) (Some t)) (sym is) (
            subst (λ x. length (extlangs_of x) ≤ 1) (sym view) few,
            subst (λ x. AreCanonical R x q) (sym view) are,
          ))
