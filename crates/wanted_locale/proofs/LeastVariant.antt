-- Of variants that ascend the first is the least.
use Rattle.std.proofs.Common.{◌≡◌, ℕ, zero, suc, List, [], ◌∷◌, Some, refl, sym, ap, ◌∙◌, subst}
use Rattle.std.proofs.Common.{arith}
use Rattle.std.specs.Prelude.{◌≢◌}
use Rattle.std.specs.Cmp.{tied_itself}
use Rattle.std.specs.Cmp.Lexicographic.{nat_list_cmp_total}
use Rattle.std.specs.List.{Contains}
use Rattle.std.specs.Ordering.{ordering_reverse}
use Rattle.std.specs.declared.cmp.Ordering.TheVariants.{Less, Equal, Greater}
use Rattle.std.proofs.lemmas.List.Elements.{All-contains, All-from_recursion}
use Rattle.std.proofs.lemmas.Map.Keys.{sorted_head}
use Rattle.unic_langid_impl.specs.Identifier.{Ascend, text_cmp}
use Rattle.wanted_locale.specs.Laws.{IsLeastOf, LeastIsKept}
use Rattle.wanted_locale.specs.Wanted.{least}

-- no text is less than itself
not_itself : (x : List ℕ) → text_cmp x x ≢ Less
not_itself x e = let t : text_cmp x x ≡ Equal = tied_itself nat_list_cmp_total x in cc

-- nor than one that is less
not_both : (x y : List ℕ) → text_cmp x y ≡ Less → text_cmp y x ≢ Less
not_both x y e f =
    let r : Greater ≡ Less =
    sym (ap ordering_reverse e) ∙ sym (nat_list_cmp_total.antisymm y x) ∙ f in cc

-- the first of ascending texts is less than those behind it
none_less : (x : List ℕ) (xs : List (List ℕ)) → Ascend (x ∷ xs) → (text : List ℕ)
    → Contains (x ∷ xs) text
    → text_cmp text x ≢ Less
none_less x xs h text (zero, lt, e) = subst (λ t. text_cmp t x ≢ Less) e (not_itself x)
none_less x xs h text (suc k, lt, e) =
    not_both x text
    (All-contains (λ y. text_cmp x y ≡ Less) xs text
    (All-from_recursion (λ y. text_cmp x y ≡ Less) xs (sorted_head text_cmp x xs h))
    (k, omega (arith, lt), e))

-- so it is the least
first_least : (xs : List (List ℕ)) (kept : List ℕ) → Ascend xs → least xs ≡ Some kept
    → IsLeastOf xs kept
first_least [] kept h e = cc
first_least (x ∷ xs) kept h e =
    let same : x ≡ kept = cc in
    subst (IsLeastOf (x ∷ xs)) same
    (record { stands = (0, omega arith, refl); none_less = none_less x xs h })

-- the law, as it is stated
pub LeastIsKept-holds : LeastIsKept
LeastIsKept-holds text i kept h e = first_least i.variants kept h.variants_are.ascend e
