-- A bundle beside the plain facts.
use Rattle.std.proofs.Common.{◌≡◌, ℕ, List, [], ◌∷◌, codes, map, Option, Some, None, Result, Ok}
use Rattle.std.proofs.Common.{Err, inl, inr, refl, sym, ap, ap₂, ◌∙◌}
use Rattle.localise_texts.specs.declared.bundle.BundleText.{BundleText}
use Rattle.localise_texts.specs.declared.patterns.PatternTexts.{PatternTexts}
use Rattle.serde_json.specs.Data.{Data, Items, no_items, item}
use Rattle.serde_json.specs.Find.{get_member}
use Rattle.localise_document.proofs.FactSteps.{behind, has_of, needed_has, may_of, optional_may}
use Rattle.localise_document.proofs.FactSteps.{object_of, members_has}
use Rattle.localise_document.specs.Bundles.{bundle_in, bundle_names, bundle_of, bundle_with}
use Rattle.localise_document.specs.Bundles.{patterns_or}
use Rattle.localise_document.specs.Facts.{AreRows, HasOr, IsBundle, IsListOf, MayHave}
use Rattle.localise_document.specs.Hex.{bytes_of}
use Rattle.localise_document.specs.Patterns.{patterns_of}
use Rattle.localise_document.specs.Shape.{◌>>=◌, members_in, text_of}
use Rattle.localise_document.specs.declared.bundles.BundleParts.{BundleParts}
use Rattle.localise_document.specs.declared.place.Field.{Field}
use Rattle.localise_document.specs.declared.place.Field.TheVariants.{Whole, Unknown, Tag, Mo}
use Rattle.localise_document.specs.declared.place.Field.TheVariants as fields

-- what is read, or the field that is misshapen
abbrev Read : Type 0 → Type 0
Read A = Result A Field

-- a bundle of what is read of its members
abbrev from : Read (List ℕ) → Read (List ℕ) → Read (Option PatternTexts) → Read BundleParts
from t m l = do
  tag ← t
  mo ← m
  list ← l
  Ok (record { tag = tag; mo = mo; list = list })

-- what each member gave
gave : (t m : Read (List ℕ)) (l : Read (Option PatternTexts)) (p : BundleParts) → from t m l ≡ Ok p
    → (t ≡ Ok p.tag) × (m ≡ Ok p.mo) × (l ≡ Ok p.list)
gave (Err e) m l p is = absurd (cc)
gave (Ok t) (Err e) l p is = absurd (cc)
gave (Ok t) (Ok m) (Err e) p is = absurd (cc)
gave (Ok t) (Ok m) (Ok l) p is =
    let made : BundleParts = record { tag = t; mo = m; list = l } in
    let same : made ≡ p = cc in (
      ap (λ (r : BundleParts). Ok r.tag) same,
      ap (λ (r : BundleParts). Ok r.mo) same,
      ap (λ (r : BundleParts). Ok r.list) same,
    )

-- patterns that may be absent, where the root's stand in their place
or_root : (root : PatternTexts) (m : Option Data) (o : Option PatternTexts)
    → MayHave patterns_of m o → HasOr root patterns_of m (patterns_or root o)
or_root root m None h = inl (h, refl)
or_root root m (Some list) h = inr h

-- a bundle that is read has the plain facts
bundle_is : (root : PatternTexts) (value : Data) (p : BundleParts) → bundle_of value ≡ Ok p
    → IsBundle root value (bundle_with root p)
unfolding bundle_of bundle_in
bundle_is root value p h =
    let two = behind (members_in bundle_names Whole Unknown value) bundle_in p h in
    let all = gave _ _ _ p two.2 in
    record {
      members = two.0;
      has = object_of bundle_names Whole Unknown value two.0 two.1;
      tag = has_of text_of Tag _ _ all.0;
      mo = has_of bytes_of Mo _ _ all.1;
      list = or_root root _ p.list (may_of patterns_of fields.List _ _ all.2);
    }

-- a bundle with the plain facts is read
parts_have : (root : PatternTexts) (value : Data) (b : BundleText) (o : Option PatternTexts)
    (h : IsBundle root value b) → MayHave patterns_of (get_member (codes "list") h.members) o
    → bundle_of value ≡ Ok (record { tag = b.tag; mo = b.mo; list = o })
unfolding bundle_of bundle_in
parts_have root value b o h list =
    ap (λ r. r >>= bundle_in) (members_has bundle_names Whole Unknown value h.members h.has)
    ∙ rw (
      needed_has text_of Tag (get_member (codes "tag") h.members) b.tag h.tag,
      needed_has bytes_of Mo (get_member (codes "mo") h.members) b.mo h.mo,
      optional_may patterns_of fields.List (get_member (codes "list") h.members) o list,
    )

-- the parts of a bundle
record Parts (root : PatternTexts) (value : Data) (b : BundleText) : Type 0 where
  part : BundleParts
  read : bundle_of value ≡ Ok part
  same : bundle_with root part ≡ b

-- the parts of a bundle, by what it says of patterns
parts_by : (root : PatternTexts) (value : Data) (b : BundleText) (h : IsBundle root value b)
    → HasOr root patterns_of (get_member (codes "list") h.members) b.list → Parts root value b
parts_by root value b h (inl none) = record {
  part = record { tag = b.tag; mo = b.mo; list = None };
  read = parts_have root value b None h none.0;
  same = ap (λ (l : PatternTexts). record { tag = b.tag; mo = b.mo; list = l }) (sym none.1);
}
parts_by root value b h (inr some) = record {
  part = record { tag = b.tag; mo = b.mo; list = Some b.list };
  read = parts_have root value b (Some b.list) h some;
  same = refl;
}

-- bundles that are read have the plain facts
are : (root : PatternTexts) (ds : Items) (ps : List BundleParts)
    → AreRows (λ d p. bundle_of d ≡ Ok p) ds ps
    → AreRows (IsBundle root) ds (map (bundle_with root) ps)
are root no_items [] h = tt
are root no_items (p ∷ ps) h = h
are root (item d ds) [] h = h
are root (item d ds) (p ∷ ps) h = (bundle_is root d p h.0, are root ds ps h.1)

-- bundles are those that are read, beside the root
pub bundles_are : (root : PatternTexts) (m : Option Data) (ps : List BundleParts)
    → IsListOf (λ d p. bundle_of d ≡ Ok p) m ps
    → IsListOf (IsBundle root) m (map (bundle_with root) ps)
bundles_are root m ps h =
    record { items = h.items; is_list = h.is_list; are = are root h.items ps h.are }

-- what is read of bundles
pub record AllParts (root : PatternTexts) (m : Option Data) (bundles : List BundleText) :
    Type 0 where
  pub parts : List BundleParts
  pub read : IsListOf (λ d p. bundle_of d ≡ Ok p) m parts
  pub same : map (bundle_with root) parts ≡ bundles

-- the parts of bundles
record RowParts (root : PatternTexts) (ds : Items) (bundles : List BundleText) : Type 0 where
  parts : List BundleParts
  read : AreRows (λ d p. bundle_of d ≡ Ok p) ds parts
  same : map (bundle_with root) parts ≡ bundles

-- bundles with the plain facts are read
row_parts : (root : PatternTexts) (ds : Items) (bs : List BundleText)
    → AreRows (IsBundle root) ds bs → RowParts root ds bs
row_parts root no_items [] h = record { parts = []; read = tt; same = refl }
row_parts root no_items (b ∷ bs) h = absurd h
row_parts root (item d ds) [] h = absurd h
row_parts root (item d ds) (b ∷ bs) h =
    let first = parts_by root d b h.0 h.0.list in
    let more = row_parts root ds bs h.1 in
    record {
      parts = first.part ∷ more.parts;
      read = (first.read, more.read);
      same = ap₂ (λ x xs. x ∷ xs) first.same more.same;
    }

-- bundles with the plain facts are read
pub bundles_have : (root : PatternTexts) (m : Option Data) (bs : List BundleText)
    → IsListOf (IsBundle root) m bs → AllParts root m bs
bundles_have root m bs h =
    let all = row_parts root h.items bs h.are in
    record {
      parts = all.parts;
      read = record { items = h.items; is_list = h.is_list; are = all.read };
      same = all.same;
    }
