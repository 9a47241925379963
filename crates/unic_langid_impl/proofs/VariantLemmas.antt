-- The variants of an identifier: sorted, each once.
use Rattle.std.proofs.Common.{◌≡◌, ℕ, ◌+◌, ◌-◌, ◌<◌, ◌≤◌, Bool, true, false, nat_eq, nat_lt, List}
use Rattle.std.proofs.Common.{[], length, get_or, Result, Ok, Err, Ordering, is_ok, refl, sym, ap}
use Rattle.std.proofs.Common.{◌∙◌, subst, arith}
use Rattle.std.specs.Prelude.{◌↔◌, IsTrue}
use Rattle.std.specs.Cmp.{tied_itself}
use Rattle.std.specs.Cmp.Lexicographic.{nat_list_cmp_total, nat_list_eq_equiv, pointwise, same_text}
use Rattle.std.specs.Cmp.Lexicographic.{texts_ties}
use Rattle.std.specs.List.{AllWithin, Contains, dedup}
use Rattle.std.specs.List.Retain.{DiffersFromLast, IsFiltered}
use Rattle.std.specs.List.Sorted.{IsBinarySearchResult, IsPermutation, IsSearchInRange, IsSorted}
use Rattle.std.specs.List.Sorted.{IsStrictlySortedBy}
use Rattle.std.specs.FinMap.{nat_cmp-IsAntisymmetric, slice_cmp-IsAntisymmetric}
use Rattle.std.specs.Ordering.{is_lt, ordering_reverse}
use Rattle.std.specs.declared.cmp.Ordering.TheVariants.{Less, Equal, Greater}
use Rattle.std.proofs.lemmas.Bool.{false≢true}
use Rattle.std.proofs.lemmas.Bool.Decides.{nat_tests}
use Rattle.std.proofs.lemmas.Map.Keys.{Less-from_sorted, sorted_from_all_adjacent}
use Rattle.std.proofs.lemmas.List.{get_or_default}
use Rattle.std.proofs.lemmas.List.Filters.{dedup_is}
use Rattle.std.proofs.lemmas.List.Kept.{Contains-dedup, Contains-from_dedup}
use Rattle.std.proofs.lemmas.List.Kept.{IsStrictlySortedBy-dedup}
use Rattle.std.proofs.lemmas.List.Sorted.{Contains-permutation, IsPermutation-sym}
use Rattle.std.proofs.lemmas.List.Sorted.{searchable_from_sorted}
use Rattle.unic_langid_impl.specs.Identifier.{Ascend, text_cmp}
use Rattle.unic_langid_impl.specs.Reading.{IsAscendingOf}

pub ascending_of : (texts sorted kept : List (List ℕ)) → IsPermutation texts sorted
    → IsSorted text_cmp sorted
    → IsFiltered (DiffersFromLast (pointwise nat_eq)) [] sorted kept → IsAscendingOf texts kept
ascending_of texts sorted kept moved in_order filtered =
    let is : kept ≡ dedup (pointwise nat_eq) sorted =
    dedup_is (pointwise nat_eq) sorted kept filtered in record {
      ascend =
          subst Ascend (sym is)
          (IsStrictlySortedBy-dedup nat_list_cmp_total texts_ties sorted in_order);
      same = λ text. (
        λ h. Contains-permutation sorted texts text (IsPermutation-sym texts sorted moved)
            (Contains-from_dedup (pointwise nat_eq) sorted text
            (subst (λ l. Contains l text) is h)),
        λ h. subst (λ l. Contains l text) (sym is)
            (Contains-dedup nat_list_eq_equiv (λ x y e. same_text x y (sym e)) sorted text
            (Contains-permutation texts sorted text moved h)),
      );
    }

pub ascend-nothing : Ascend []
unfolding IsStrictlySortedBy
ascend-nothing = tt

-- ---- a search in variants that ascend

turned : (r : Ordering) → r ≡ ordering_reverse Less → is_lt r ≡ false
turned r e = ap is_lt e

ascend-IsSorted : (texts : List (List ℕ)) → Ascend texts → IsSorted text_cmp texts
ascend-IsSorted texts h k d low high =
    turned (text_cmp (get_or texts (k + 1) d) (get_or texts k d))
    (nat_list_cmp_total.antisymm (get_or texts (k + 1) d) (get_or texts k d)
    ∙ ap ordering_reverse (Less-from_sorted text_cmp texts k (k + 1) d h (omega arith) high))

pub texts_tie : (x y : List ℕ) → text_cmp x y ≡ Equal → x ≡ y
texts_tie = slice_cmp-IsAntisymmetric nat_cmp-IsAntisymmetric

module _ (texts : List (List ℕ)) (text : List ℕ) where
  pub searched-contains : (r : Result ℕ ℕ) (b : Bool) → b ≡ is_ok r → Ascend texts
      → IsSearchInRange r (length texts)
      → IsBinarySearchResult (λ y. text_cmp y text) texts r → (IsTrue b ↔ Contains texts text)
  searched-contains (Ok i) b is h range found =
      (λ _. (i, range, texts_tie _ text (found text)), λ _. is)
  searched-contains (Err i) b is h range missing =
      let parts =
      missing
      (searchable_from_sorted nat_list_cmp_total (λ x. x) texts text
      (ascend-IsSorted texts h)) in (
        λ e. absurd (false≢true (sym is ∙ e)),
        λ (k, within, at). absurd (by_place (nat_lt k i) k refl within at parts.0 parts.1),
      )
    where
      itself : text_cmp text text ≡ Equal
      itself = tied_itself nat_list_cmp_total text

      by_place : (before : Bool) (k : ℕ) → nat_lt k i ≡ before → k < length texts
          → get_or texts k text ≡ text
          → AllWithin (λ y. text_cmp y text ≡ Less) texts 0 i
          → AllWithin (λ y. text_cmp y text ≡ Greater) texts i (length texts) → ⊥
      by_place true k e within at less greater =
          let below : k < i = grind (arith, nat_tests) in
          let r : text_cmp text text ≡ Less =
          subst (λ t. text_cmp t text ≡ Less) at (less k text (omega arith) below) in
          let t = itself in cc
      by_place false k e within at less greater =
          let above : i ≤ k = grind (arith, nat_tests) in
          let r : text_cmp text text ≡ Greater =
          subst (λ t. text_cmp t text ≡ Greater) at (greater k text above within) in
          let t = itself in cc

-- ---- a pass over variants

pub ascend-adjacent : (texts : List (List ℕ)) (next : ℕ) → length texts ≤ next
    → ((k : ℕ) → k + 1 < next → text_cmp (get_or texts k []) (get_or texts (k + 1) []) ≡ Less)
    → (IsTrue true ↔ Ascend texts)
ascend-adjacent texts next past h = (
  λ _. sorted_from_all_adjacent nat_list_cmp_total texts [] (λ k lt. h k (omega arith)),
  λ _. refl,
)

pub ascend-not : (texts : List (List ℕ)) (next : ℕ) (one other : List ℕ) (r : Ordering) → 1 ≤ next
    → next < length texts
    → one ≡ get_or texts (next - 1) one → other ≡ get_or texts next other → r ≡ text_cmp one other
    → (r ≡ Less → ⊥)
    → (IsTrue false ↔ Ascend texts)
ascend-not texts next one other r positive within is_one is_other is not_less = (
  λ e. absurd (false≢true e),
  λ h.
      absurd
      (not_less
      (is ∙ (λ k. text_cmp ((is_one ∙ get_or_default texts (next - 1) one [] (omega arith)) k)
      ((is_other ∙ get_or_default texts next other [] within) k))
      ∙ Less-from_sorted text_cmp texts (next - 1) next [] h (omega arith) within)),
)
