-- A tag has one canonical form at most, but for the order of its extensions: what stands before
-- them is the same.
use Rattle.std.proofs.Common.{◌≡◌, ℕ, Bool, true, false, List, ◌∷◌, ◌++◌, Option, Some, None, map}
use Rattle.std.proofs.Common.{refl, sym, ap, ◌∙◌, arith}
use Rattle.std.specs.Option.{option_map}
use Rattle.language_tags_grammar.specs.Grandfathered.{is_grandfathered}
use Rattle.language_tags_grammar.specs.Pieces.{joined}
use Rattle.language_tags_grammar.specs.Tag.{Parts, Tag, Plain, Whole, at_most_one, front_of, print}
use Rattle.language_tags_grammar.specs.Tag.{script_of, variants_of}
use Rattle.language_tags_grammar.specs.TagOf.{IsTagOf}
use Rattle.language_tags_registry.specs.Registry.{Tables, value_of}
use Rattle.language_tags.specs.Canon.{AreCanonical, GoesTo, IsCanonIn, IsCanonOf, PartsGoTo}
use Rattle.language_tags.specs.Canon.{Rewrites, not_written, replaced, unless_suppressed}
use Rattle.language_tags.specs.PrivateUse.{is_private_use}

-- a text has one tag at most
abbrev pub OneTag : Type 0
OneTag = (text : List ℕ) (g h : Tag) → IsTagOf text g → IsTagOf text h → g ≡ h

-- what stands before the extensions, where there is a tag
abbrev pub front_text : Option Tag → Option (List ℕ)
front_text = option_map front_of

-- canonical parts have one front
parts_front : (R : Tables) (g : Tag) (p q : Parts) → AreCanonical R g p → AreCanonical R g q
    → front_of (Plain p) ≡ front_of (Plain q)
parts_front R g p q a b =
    let language : p.language ≡ q.language = a.language ∙ sym b.language in
    let extlangs : p.extlangs ≡ q.extlangs = a.extlangs ∙ sym b.extlangs in
    let kept : Option (List ℕ) = option_map (replaced R.scripts_preferred) (script_of g) in
    let script : p.script ≡ q.script =
    a.script ∙ ap (λ l. unless_suppressed (value_of R.languages_suppress_script l) kept) language
    ∙ sym b.script in
    let region : p.region ≡ q.region = a.region ∙ sym b.region in
    let pieces : List (List ℕ) = map (replaced R.variants_preferred) (variants_of g) in
    let written :
    not_written (p.language ∷ (p.extlangs ++ (at_most_one p.script ++ at_most_one p.region))) pieces
    ≡ not_written
    (q.language ∷ (q.extlangs ++ (at_most_one q.script ++ at_most_one q.region))) pieces =
    λ i. not_written
    (language i ∷ (extlangs i ++ (at_most_one (script i) ++ at_most_one (region i)))) pieces in
    let variants : p.variants ≡ q.variants = a.variants ∙ written ∙ sym b.variants in
    λ i.
    joined
    (language i
    ∷ (extlangs i ++ (at_most_one (script i) ++ (at_most_one (region i) ++ variants i))))

-- what parts go to
parts_one : (R : Tables) (g : Tag) (r s : Option Tag) → PartsGoTo R g r → PartsGoTo R g s
    → front_text r ≡ front_text s
parts_one R g None None a b = refl
parts_one R g None (Some (Whole text)) a b = absurd b
parts_one R g None (Some (Plain q)) a b = absurd (omega (arith, a, b.0))
parts_one R g (Some (Whole text)) s a b = absurd a
parts_one R g (Some (Plain p)) None a b = absurd (omega (arith, a.0, b))
parts_one R g (Some (Plain p)) (Some (Whole text)) a b = absurd b
parts_one R g (Some (Plain p)) (Some (Plain q)) a b = ap Some (parts_front R g p q a.1 b.1)

-- what a tag goes to where no table has its text
rewrites_one : (R : Tables) (g : Tag) (r s : Option Tag) → Rewrites R g r → Rewrites R g s
    → front_text r ≡ front_text s
rewrites_one R (Whole text) r s a b = ap front_text (a ∙ sym b)
rewrites_one R (Plain p) r s a b = parts_one R (Plain p) r s a b

module _ (one : OneTag) where
  -- what a tag goes to, by a table's text or else otherwise
  goes_one : (o : Option (List ℕ)) (Otherwise : Option Tag → Type 0)
      → ((r s : Option Tag) → Otherwise r → Otherwise s → front_text r ≡ front_text s)
      → (r s : Option Tag) → GoesTo o Otherwise r → GoesTo o Otherwise s
      → front_text r ≡ front_text s
  goes_one None Otherwise same r s a b = same r s a b
  goes_one (Some text) Otherwise same None s a b = absurd a
  goes_one (Some text) Otherwise same (Some g) None a b = absurd b
  goes_one (Some text) Otherwise same (Some g) (Some h) a b =
      ap (λ t. Some (front_of t)) (one text g h a b)

  -- by the two questions that are asked of a tag
  canon_in : (private old : Bool) (R : Tables) (g : Tag) (r s : Option Tag)
      → IsCanonIn private old R g r
      → IsCanonIn private old R g s → front_text r ≡ front_text s
  canon_in true old R g r s a b = ap front_text (a ∙ sym b)
  canon_in false true R g r s a b =
      goes_one (value_of R.grandfathereds_preferred (print g)) _
      (λ r s a b. ap front_text (a ∙ sym b)) r s a b
  canon_in false false R g r s a b =
      goes_one (value_of R.redundants_preferred (print g)) _ (rewrites_one R g) r s a b

  -- two canonical forms of a tag have the same front, or both refuse it
  pub canon_front : (R : Tables) (g : Tag) (r s : Option Tag) → IsCanonOf R g r → IsCanonOf R g s
      → front_text r ≡ front_text s
  canon_front R g r s a b = canon_in (is_private_use g) (is_grandfathered (print g)) R g r s a b
