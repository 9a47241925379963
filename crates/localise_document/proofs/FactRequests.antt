-- A request beside the plain facts.
use Rattle.std.proofs.Common.{◌≡◌, ℕ, List, [], codes, Option, Result, Ok, Err, ap, ◌∙◌}
use Rattle.localise_texts.specs.declared.request.Request.{Request}
use Rattle.serde_json.specs.Data.{Data}
use Rattle.serde_json.specs.Find.{get_member}
use Rattle.localise_document.proofs.FactSteps.{behind, has_of, needed_has, may_of, optional_may}
use Rattle.localise_document.proofs.FactSteps.{or_of, or_has, object_of, members_has}
use Rattle.localise_document.specs.Facts.{IsRequest}
use Rattle.localise_document.specs.Requests.{request_in, request_names, request_of}
use Rattle.localise_document.specs.Shape.{◌>>=◌, count_of, members_in, text_list_of, text_of}
use Rattle.localise_document.specs.declared.place.Field.{Field}
use Rattle.localise_document.specs.declared.place.Field.TheVariants.{Whole, Unknown, Tag, Context}
use Rattle.localise_document.specs.declared.place.Field.TheVariants.{Singular, Plural, Count}
use Rattle.localise_document.specs.declared.place.Field.TheVariants.{Placeholder, Items}

-- a text
abbrev Text : Type 0
Text = List ℕ

-- what is read, or the field that is misshapen
abbrev Read : Type 0 → Type 0
Read A = Result A Field

-- a request of what is read of its members
abbrev from : Read Text → Read (Option Text) → Read Text → Read Text → Read ℕ → Read Text
    → Read (List Text) → Read Request
from t x s p n h i = do
  tag ← t
  context ← x
  singular ← s
  plural ← p
  count ← n
  placeholder ← h
  items ← i
  Ok
      (record {
        tag = tag;
        context = context;
        singular = singular;
        plural = plural;
        count = count;
        placeholder = placeholder;
        items = items;
      })

-- what each member gave
gave : (t : Read Text) (x : Read (Option Text)) (s p : Read Text) (n : Read ℕ) (h : Read Text)
    (i : Read (List Text)) (q : Request) → from t x s p n h i ≡ Ok q
    → (t ≡ Ok q.tag) × (x ≡ Ok q.context) × (s ≡ Ok q.singular) × (p ≡ Ok q.plural)
    × (n ≡ Ok q.count) × (h ≡ Ok q.placeholder) × (i ≡ Ok q.items)
gave (Err e) x s p n h i q is = absurd (cc)
gave (Ok t) (Err e) s p n h i q is = absurd (cc)
gave (Ok t) (Ok x) (Err e) p n h i q is = absurd (cc)
gave (Ok t) (Ok x) (Ok s) (Err e) n h i q is = absurd (cc)
gave (Ok t) (Ok x) (Ok s) (Ok p) (Err e) h i q is = absurd (cc)
gave (Ok t) (Ok x) (Ok s) (Ok p) (Ok n) (Err e) i q is = absurd (cc)
gave (Ok t) (Ok x) (Ok s) (Ok p) (Ok n) (Ok h) (Err e) q is = absurd (cc)
gave (Ok t) (Ok x) (Ok s) (Ok p) (Ok n) (Ok h) (Ok i) q is =
    let made : Request =
    record {
      tag = t;
      context = x;
      singular = s;
      plural = p;
      count = n;
      placeholder = h;
      items = i;
    } in
    let same : made ≡ q = cc in (
      ap (λ (r : Request). Ok r.tag) same,
      ap (λ (r : Request). Ok r.context) same,
      ap (λ (r : Request). Ok r.singular) same,
      ap (λ (r : Request). Ok r.plural) same,
      ap (λ (r : Request). Ok r.count) same,
      ap (λ (r : Request). Ok r.placeholder) same,
      ap (λ (r : Request). Ok r.items) same,
    )

-- a request that is read has the plain facts
pub request_is : (value : Data) (q : Request) → request_of value ≡ Ok q → IsRequest value q
unfolding request_of request_in
request_is value q h =
    let two = behind (members_in request_names Whole Unknown value) request_in q h in
    let all = gave _ _ _ _ _ _ _ q two.2 in
    record {
      members = two.0;
      has = object_of request_names Whole Unknown value two.0 two.1;
      tag = has_of text_of Tag _ _ all.0;
      context = may_of text_of Context _ _ all.1;
      singular = has_of text_of Singular _ _ all.2;
      plural = has_of text_of Plural _ _ all.3;
      count = has_of count_of Count _ _ all.4;
      placeholder = or_of [] text_of Placeholder _ _ all.5;
      items = or_of [] text_list_of Items _ _ all.6;
    }

-- a value with the plain facts is read as a request
pub request_has : (value : Data) (q : Request) → IsRequest value q → request_of value ≡ Ok q
unfolding request_of request_in
request_has value q h =
    ap (λ r. r >>= request_in) (members_has request_names Whole Unknown value h.members h.has)
    ∙ rw (
      needed_has text_of Tag (get_member (codes "tag") h.members) q.tag h.tag,
      optional_may text_of Context (get_member (codes "context") h.members) q.context h.context,
      needed_has text_of Singular (get_member (codes "singular") h.members) q.singular h.singular,
      needed_has text_of Plural (get_member (codes "plural") h.members) q.plural h.plural,
      needed_has count_of Count (get_member (codes "count") h.members) q.count h.count,
      or_has [] text_of Placeholder
          (get_member (codes "placeholder") h.members) q.placeholder h.placeholder,
      or_has [] text_list_of Items (get_member (codes "items") h.members) q.items h.items,
    )
