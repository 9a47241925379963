-- A document beside the plain facts.
use Rattle.std.proofs.Common.{◌≡◌, List, codes, map, Option, Some, None, Result, Ok, Err, ok_or}
use Rattle.std.proofs.Common.{inl, inr, refl, sym, ap, subst, ◌∙◌}
use Rattle.localise_texts.specs.declared.patterns.PatternTexts.{PatternTexts}
use Rattle.localise_texts.specs.declared.request.Request.{Request}
use Rattle.serde_json.specs.Data.{Data, null, boolean, number, string, array, object}
use Rattle.serde_json.specs.Find.{get_member}
use Rattle.writeable_core.specs.declared.text.TextRow.{TextRow}
use Rattle.localise_document.proofs.FactBundles.{bundles_are, bundles_have}
use Rattle.localise_document.proofs.FactRequests.{request_has, request_is}
use Rattle.localise_document.proofs.FactSteps.{behind, list_weaker, members_has, needed_list_has}
use Rattle.localise_document.proofs.FactSteps.{needed_list_is, object_of, some_of}
use Rattle.localise_document.proofs.FactTables.{fallback_has, fallback_is, registry_has}
use Rattle.localise_document.proofs.FactTables.{registry_is}
use Rattle.localise_document.specs.Bundles.{bundle_of, bundle_with}
use Rattle.localise_document.specs.Contents.{Contents}
use Rattle.localise_document.specs.Document.{document_in, document_names, document_of, root_of}
use Rattle.localise_document.specs.Facts.{HasOr, IsBundle, IsDocumentValue, IsListOf, IsRequest}
use Rattle.localise_document.specs.Patterns.{default_patterns, patterns_of}
use Rattle.localise_document.specs.Requests.{request_of}
use Rattle.localise_document.specs.Shape.{◌>>=◌, members_in, place_of}
use Rattle.localise_document.specs.declared.bundles.BundleParts.{BundleParts}
use Rattle.localise_document.specs.declared.place.Field.TheVariants.{Whole, Unknown}
use Rattle.localise_document.specs.declared.place.Field.TheVariants as fields
use Rattle.localise_document.specs.declared.place.Section.TheVariants.{Document, Bundles, Root}
use Rattle.localise_document.specs.declared.place.Section.TheVariants.{Requests}
use Rattle.localise_document.specs.declared.place.ShapePlace.{ShapePlace}

-- ---- the root

-- a root that is read has the plain facts
root_is : (m : Option Data) (p : PatternTexts) → root_of m ≡ Ok p
    → HasOr default_patterns patterns_of m p
root_is None p h = let same : p ≡ default_patterns = cc in inl (refl, same)
root_is (Some null) p h = absurd (cc)
root_is (Some (boolean b)) p h = absurd (cc)
root_is (Some (number n)) p h = absurd (cc)
root_is (Some (string s)) p h = absurd (cc)
root_is (Some (array ds)) p h = absurd (cc)
root_is (Some (object ms)) p h =
    inr
    (record {
      value = object ms;
      there = refl;
      says = some_of (patterns_of (object ms)) (place_of Root fields.List) p h;
    })

-- what has patterns is an object
root_value : (d : Data) (p : PatternTexts) → patterns_of d ≡ Some p → root_of (Some d) ≡ Ok p
unfolding patterns_of
root_value null p h = absurd (cc)
root_value (boolean b) p h = absurd (cc)
root_value (number n) p h = absurd (cc)
root_value (string s) p h = absurd (cc)
root_value (array ds) p h = absurd (cc)
root_value (object ms) p h = ap (λ o. ok_or o (place_of Root fields.List)) h

-- a root with the plain facts is read
root_has : (m : Option Data) (p : PatternTexts) → HasOr default_patterns patterns_of m p
    → root_of m ≡ Ok p
root_has m p (inl h) = ap root_of h.0 ∙ ap (λ x. Ok x) (sym h.1)
root_has m p (inr h) = ap root_of h.there ∙ root_value h.value p h.says

-- ---- sections

-- what is read, or the place that is misshapen
abbrev Read : Type 0 → Type 0
Read A = Result A ShapePlace

-- a document of what is read of its sections
abbrev from : Read (List (List TextRow)) → Read (List (List TextRow)) → Read (List BundleParts)
    → Read PatternTexts → Read (List Request) → Read Contents
from r f b p q = do
  registry ← r
  fallback ← f
  bundles ← b
  root ← p
  requests ← q
  Ok
      (record {
        registry = registry;
        fallback = fallback;
        bundles = map (bundle_with root) bundles;
        root = root;
        requests = requests;
      })

-- what each section gave
record Gave (r f : Read (List (List TextRow))) (b : Read (List BundleParts)) (p : Read PatternTexts)
    (q : Read (List Request)) (d : Contents) : Type 0 where
  parts : List BundleParts
  registry : r ≡ Ok d.registry
  fallback : f ≡ Ok d.fallback
  bundles : b ≡ Ok parts
  root : p ≡ Ok d.root
  requests : q ≡ Ok d.requests
  same : map (bundle_with d.root) parts ≡ d.bundles

-- what each section gave
gave : (r f : Read (List (List TextRow))) (b : Read (List BundleParts)) (p : Read PatternTexts)
    (q : Read (List Request)) (d : Contents) → from r f b p q ≡ Ok d → Gave r f b p q d
gave (Err e) f b p q d is = absurd (cc)
gave (Ok r) (Err e) b p q d is = absurd (cc)
gave (Ok r) (Ok f) (Err e) p q d is = absurd (cc)
gave (Ok r) (Ok f) (Ok b) (Err e) q d is = absurd (cc)
gave (Ok r) (Ok f) (Ok b) (Ok p) (Err e) d is = absurd (cc)
gave (Ok r) (Ok f) (Ok b) (Ok p) (Ok q) d is =
    let made : Contents =
    record {
      registry = r;
      fallback = f;
      bundles = map (bundle_with p) b;
      root = p;
      requests = q;
    } in
    let same : made ≡ d = cc in
    let root_same : p ≡ d.root = ap (λ (c : Contents). c.root) same in
    record {
      parts = b;
      registry = ap (λ (c : Contents). Ok c.registry) same;
      fallback = ap (λ (c : Contents). Ok c.fallback) same;
      bundles = refl;
      root = ap (λ (c : Contents). Ok c.root) same;
      requests = ap (λ (c : Contents). Ok c.requests) same;
      same = ap (λ x. map (bundle_with x) b) (sym root_same)
          ∙ ap (λ (c : Contents). c.bundles) same;
    }

-- a document that is read has the plain facts
pub document_is : (value : Data) (d : Contents) → document_of value ≡ Ok d → IsDocumentValue value d
unfolding document_of document_in
document_is value d h =
    let two =
    behind
    (members_in document_names (place_of Document Whole) (place_of Document Unknown) value)
    document_in d h in
    let all = gave _ _ _ _ _ d two.2 in
    record {
      members = two.0;
      has =
          object_of document_names (place_of Document Whole)
          (place_of Document Unknown) value two.0 two.1;
      registry = registry_is (get_member (codes "registry") two.0) d.registry all.registry;
      fallback = fallback_is (get_member (codes "fallback") two.0) d.fallback all.fallback;
      bundles =
          subst (λ bs. IsListOf (IsBundle d.root) (get_member (codes "bundles") two.0) bs) all.same
          (bundles_are d.root (get_member (codes "bundles") two.0) all.parts
          (needed_list_is bundle_of Bundles
          (get_member (codes "bundles") two.0) all.parts all.bundles));
      root = root_is (get_member (codes "root") two.0) d.root all.root;
      requests =
          list_weaker (λ e q. request_of e ≡ Ok q) IsRequest request_is
          (get_member (codes "requests") two.0) d.requests
          (needed_list_is request_of Requests
          (get_member (codes "requests") two.0) d.requests all.requests);
    }

-- a value with the plain facts is read as a document
pub document_has : (value : Data) (d : Contents) → IsDocumentValue value d
    → document_of value ≡ Ok d
unfolding document_of document_in
document_has value d h =
    let all = bundles_have d.root (get_member (codes "bundles") h.members) d.bundles h.bundles in
    ap (λ r. r >>= document_in)
    (members_has document_names (place_of Document Whole)
    (place_of Document Unknown) value h.members h.has)
    ∙ rw (
      registry_has (get_member (codes "registry") h.members) d.registry h.registry,
      fallback_has (get_member (codes "fallback") h.members) d.fallback h.fallback,
      needed_list_has bundle_of Bundles (get_member (codes "bundles") h.members) all.parts all.read,
      root_has (get_member (codes "root") h.members) d.root h.root,
      needed_list_has request_of Requests (get_member (codes "requests") h.members) d.requests
          (list_weaker IsRequest (λ e q. request_of e ≡ Ok q) request_has
          (get_member (codes "requests") h.members) d.requests h.requests),
      all.same,
    )
