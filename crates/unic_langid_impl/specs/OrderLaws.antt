-- The laws of how identifiers compare: an equivalence, a total order that agrees with it, and equal
-- ones are hashed alike.
use Rattle.std.proofs.Common.{◌≡◌, ℕ, true, List, Option, Some, None, refl, ap}
use Rattle.std.specs.Prelude.{IsTrue}
use Rattle.std.specs.Cmp.{IsEquivalence, IsPartialOrder, IsTotalOrder, and_equiv, both_tied}
use Rattle.std.specs.Cmp.{first_so, on_equiv, on_total, po, second_so, then_total}
use Rattle.std.specs.Cmp.Lexicographic.{bytes_decides, lists_equiv, lists_ties, lists_total}
use Rattle.std.specs.Cmp.Lexicographic.{nat_list_cmp_total, nat_list_eq_equiv, options_equiv}
use Rattle.std.specs.Cmp.Lexicographic.{options_total, pointwise, pointwise_decides, slice_cmp}
use Rattle.std.specs.Cmp.Lexicographic.{texts_ties}
use Rattle.std.specs.Option.{option_cmp, option_eq}
use Rattle.std.specs.Ordering.{eq_by_cmp}
use Rattle.unic_langid_impl.specs.Identifier.{Identifier, text_cmp}
use Rattle.unic_langid_impl.specs.Order.{identifier_cmp, identifier_eq, identifier_writes}
use Rattle.unic_langid_impl.specs.Order.{same_text}

pub identifier_eq_equiv : IsEquivalence identifier_eq
identifier_eq_equiv =
    and_equiv
    (and_equiv
    (and_equiv (on_equiv (λ (i : Identifier). i.language) (options_equiv nat_list_eq_equiv))
    (on_equiv (λ (i : Identifier). i.script) (options_equiv nat_list_eq_equiv)))
    (on_equiv (λ (i : Identifier). i.region) (options_equiv nat_list_eq_equiv)))
    (on_equiv (λ (i : Identifier). i.variants) (lists_equiv nat_list_eq_equiv))

pub identifier_cmp_total : IsTotalOrder identifier_cmp
identifier_cmp_total =
    then_total
    (then_total
    (then_total
    (on_total (λ (i : Identifier). i.language) (options_total nat_list_cmp_total))
    (on_total (λ (i : Identifier). i.script) (options_total nat_list_cmp_total)))
    (on_total (λ (i : Identifier). i.region) (options_total nat_list_cmp_total)))
    (on_total (λ (i : Identifier). i.variants) (lists_total nat_list_cmp_total))

option_ties : (p q : Option (List ℕ))
    → option_eq same_text p q ≡ eq_by_cmp (option_cmp text_cmp) p q
option_ties None None = refl
option_ties None (Some y) = refl
option_ties (Some x) None = refl
option_ties (Some x) (Some y) = texts_ties x y

pub identifier_cmp-eq : (a b : Identifier) → identifier_eq a b ≡ eq_by_cmp identifier_cmp a b
identifier_cmp-eq a b =
    both_tied _ _ _ (slice_cmp text_cmp a.variants b.variants)
    (both_tied _ _ _ (option_cmp text_cmp a.region b.region)
    (both_tied _ _ (option_cmp text_cmp a.language b.language)
    (option_cmp text_cmp a.script b.script)
    (option_ties a.language b.language) (option_ties a.script b.script))
    (option_ties a.region b.region))
    (lists_ties text_cmp texts_ties a.variants b.variants)

pub identifier_cmp_po : IsPartialOrder identifier_eq (λ a b. Some (identifier_cmp a b))
identifier_cmp_po = po identifier_cmp_total identifier_cmp-eq

option_same : (p q : Option (List ℕ)) → option_eq same_text p q ≡ true → p ≡ q
option_same None None e = refl
option_same None (Some y) e = cc
option_same (Some x) None e = cc
option_same (Some x) (Some y) e = ap Some ((bytes_decides x y).0 e)

-- the test tells the same identifier
pub identifier_eq-same : (a b : Identifier) → identifier_eq a b ≡ true → a ≡ b
identifier_eq-same a b e =
    let three = first_so _ (pointwise same_text a.variants b.variants) e in
    let two = first_so _ (option_eq same_text a.region b.region) three in
    let language =
    option_same a.language b.language
    (first_so _ (option_eq same_text a.script b.script) two) in
    let script =
    option_same a.script b.script
    (second_so (option_eq same_text a.language b.language) _ two) in
    let region =
    option_same a.region b.region (second_so _ (option_eq same_text a.region b.region) three) in
    let variants =
    (pointwise_decides bytes_decides a.variants b.variants).0
    (second_so _ (pointwise same_text a.variants b.variants) e) in
    λ i. record {
      language = language i;
      script = script i;
      region = region i;
      variants = variants i;
    }

pub identifier_eq-writes : (a b : Identifier) → IsTrue (identifier_eq a b)
    → identifier_writes a ≡ identifier_writes b
identifier_eq-writes a b e = ap identifier_writes (identifier_eq-same a b e)
