-- The order of keys, and the row that a key finds.
use Rattle.std.proofs.Common.{◌≡◌, ℕ, zero, suc, ◌+◌, ◌≤◌, ◌<◌, true, false, List, [], ◌∷◌, ◌++◌}
use Rattle.std.proofs.Common.{length, min, get_or, take, drop, map, Some, None, refl, sym, ap, ◌∙◌}
use Rattle.std.proofs.Common.{arith, inl, inr}
use Rattle.std.specs.List.{slice_get, AllByRecursion}
use Rattle.std.specs.List.Sorted.{IsStrictlySortedBy}
use Rattle.std.specs.Ordering.{nat_cmp, ordering_then, ordering_reverse, is_eq}
use Rattle.std.specs.declared.cmp.Ordering.TheVariants.{Less, Equal, Greater}
use Rattle.std.specs.Cmp.{Equal-is}
use Rattle.std.specs.Cmp.Lexicographic.{slice_cmp}
use Rattle.std.proofs.lemmas.Bool.{false_from_ne_true, cases_lt}
use Rattle.std.proofs.lemmas.Cmp.{nat_list_cmp_total, tied_back}
use Rattle.std.proofs.lemmas.Map.Keys.{sorted_head, sorted_tail, Less-from_sorted}
use Rattle.std.proofs.lemmas.Map.Text.{is_eq-slice_cmp}
use Rattle.std.proofs.lemmas.List.{get_or-map, length-map, get_or_default, take_min, drop_min}
use Rattle.std.proofs.lemmas.Option.{slice_get-get_or}
use Rattle.gettext.specs.declared.spans.Row.{Row}
use Rattle.writeable_core.specs.OrderingLaws.{then-assoc}
use Rattle.writeable_core.specs.Texts.{same_text}
use Rattle.gettext.specs.Table.{key_bytes, row_for, IsTable}

-- ---- a key behind a context

-- a text is compared with two joined ones by its front and then by its rest
pub slice_cmp-append : (key front rest : List ℕ)
    → slice_cmp nat_cmp key (front ++ rest)
    ≡ ordering_then (slice_cmp nat_cmp (take (length front) key) front)
    (slice_cmp nat_cmp (drop (length front) key) rest)
slice_cmp-append key [] rest = refl
slice_cmp-append [] (x ∷ front) rest = refl
slice_cmp-append (k ∷ key) (x ∷ front) rest =
    ap (ordering_then (nat_cmp k x)) (slice_cmp-append key front rest)
    ∙ sym (then-assoc (nat_cmp k x) (slice_cmp nat_cmp (take (length front) key) front)
    (slice_cmp nat_cmp (drop (length front) key) rest))

-- a key is compared with a context, U+0004 and an id part by part
pub behind_context : (key context id : List ℕ) (front rest : List ℕ)
    → front ≡ take (min (length context) (length key)) key
    → rest ≡ drop (min (length context) (length key)) key
    → slice_cmp nat_cmp key (context ++ 4 ∷ id)
    ≡ ordering_then (slice_cmp nat_cmp front context) (slice_cmp nat_cmp rest (4 ∷ id))
behind_context key context id front rest f r =
    rw (f, r, take_min (length context) key, drop_min (length context) key)
    (slice_cmp-append key context (4 ∷ id))

-- ---- the row that a key finds

-- texts that compare as equal are one
pub same_text-from_cmp : (xs ys : List ℕ) → slice_cmp nat_cmp xs ys ≡ Equal → same_text xs ys ≡ true
same_text-from_cmp xs ys e = sym (is_eq-slice_cmp xs ys) ∙ ap is_eq e

-- texts that don't are two
pub differs-from_cmp : (xs ys : List ℕ) → (slice_cmp nat_cmp xs ys ≡ Equal → ⊥)
    → same_text xs ys ≡ false
differs-from_cmp xs ys ne = false_from_ne_true (same_text xs ys)
    (λ e. ne ((Equal-is (slice_cmp nat_cmp xs ys)).0 (is_eq-slice_cmp xs ys ∙ e)))

-- no row is found where no key is the one asked for
pub row_for-absent : (b : List ℕ) (rows : List Row) (q : List ℕ)
    → AllByRecursion (λ r. slice_cmp nat_cmp (key_bytes b r) q ≡ Equal → ⊥) rows
    → row_for b rows q ≡ None
row_for-absent b [] q none = refl
row_for-absent b (r ∷ rows) q none =
    rw (row_for-absent b rows q none.1, differs-from_cmp (key_bytes b r) q none.0) refl

-- a key that is below a list of keys is none of them
none_above : (b : List ℕ) (k q : List ℕ) (rows : List Row) → slice_cmp nat_cmp k q ≡ Equal
    → AllByRecursion (λ y. slice_cmp nat_cmp k y ≡ Less) (map (key_bytes b) rows)
    → AllByRecursion (λ r. slice_cmp nat_cmp (key_bytes b r) q ≡ Equal → ⊥) rows
none_above b k q [] e all = tt
none_above b k q (r ∷ rows) e all = (
  (λ same. let clash : Less ≡ Equal = sym all.0 ∙ apart k (key_bytes b r) q e same in absurd cc),
  none_above b k q rows e all.1,
) where
  apart : (x y z : List ℕ) → slice_cmp nat_cmp x z ≡ Equal → slice_cmp nat_cmp y z ≡ Equal
      → slice_cmp nat_cmp x y ≡ Equal
  apart x y z e f = nat_list_cmp_total.congr x z y e ∙ tied_back nat_list_cmp_total y z f

-- of ascending keys the one that is equal is found
pub row_for-at : (b : List ℕ) (rows : List Row) (i : ℕ) (r : Row) (q : List ℕ)
    → IsStrictlySortedBy (slice_cmp nat_cmp) (map (key_bytes b) rows) → slice_get rows i ≡ Some r
    → slice_cmp nat_cmp (key_bytes b r) q ≡ Equal → row_for b rows q ≡ Some r
row_for-at b [] i r q s at e = absurd cc
row_for-at b (x ∷ rows) zero r q s at e =
    let same : x ≡ r = cc in
    let k : slice_cmp nat_cmp (key_bytes b x) q ≡ Equal = rw same e in
    rw (
      row_for-absent b rows q
          (none_above b (key_bytes b x) q rows k
          (sorted_head (slice_cmp nat_cmp) (key_bytes b x) (map (key_bytes b) rows) s)),
      same_text-from_cmp (key_bytes b x) q k,
    ) at
row_for-at b (x ∷ rows) (suc i) r q s at e =
    rw (row_for-at b rows i r q
    (sorted_tail (slice_cmp nat_cmp) (key_bytes b x) (map (key_bytes b) rows) s) at e) refl

-- what holds at each place holds of all
all_from_index : (P : Row → Type 0) (rows : List Row)
    → ((k : ℕ) (d : Row) → k < length rows → P (get_or rows k d)) → AllByRecursion P rows
all_from_index P [] h = tt
all_from_index P (r ∷ rows) h =
    (h 0 r (omega arith), all_from_index P rows (λ k d lt. h (suc k) d (omega arith)))

-- ---- halving

-- the keys before low are below the key that is looked for, and those from high on are above it
pub record IsBetween (b : List ℕ) (rows : List Row) (q : List ℕ) (low high : ℕ) : Type 0 where
  pub ordered : low ≤ high
  pub inside : high ≤ length rows
  pub below : (k : ℕ) (d : Row) → k < low
      → slice_cmp nat_cmp (key_bytes b (get_or rows k d)) q ≡ Less
  pub above : (k : ℕ) (d : Row) → high ≤ k → k < length rows
      → slice_cmp nat_cmp (key_bytes b (get_or rows k d)) q ≡ Greater

module _ (b : List ℕ) (rows : List Row) (q : List ℕ) (table : IsTable b rows) where
  -- of two rows the earlier has the lesser key
  keys_ordered : (i j : ℕ) (d : Row) → i < j → j < length rows
      → slice_cmp nat_cmp (key_bytes b (get_or rows i d)) (key_bytes b (get_or rows j d)) ≡ Less
  keys_ordered i j d lt inside =
      let less = Less-from_sorted (slice_cmp nat_cmp) (map (key_bytes b) rows) i j (key_bytes b d)
      table.keys_ascend lt (rw (length-map rows (key_bytes b)) inside) in
      let at_i = get_or-map (key_bytes b) rows i d (key_bytes b d) (omega arith) in
      let at_j = get_or-map (key_bytes b) rows j d (key_bytes b d) inside in
      rw (← at_i, ← at_j) less

  -- where the row in the middle is too low, the row is behind it
  pub goes_up : (low high middle : ℕ) (e : Row) → IsBetween b rows q low high → low ≤ middle
      → middle < high → slice_cmp nat_cmp (key_bytes b (get_or rows middle e)) q ≡ Less
      → IsBetween b rows q (middle + 1) high
  goes_up low high middle e h le lt less = record {
    ordered = omega arith;
    inside = h.inside;
    below = λ k d k_lt. elim (cases_lt k middle) [
      | inl before ↦ nat_list_cmp_total.trans (key_bytes b (get_or rows k d))
          (key_bytes b (get_or rows middle d)) q
          (keys_ordered k middle d before (omega (arith, h.inside))) (here d)
      | inr after ↦ let same : k ≡ middle = omega arith in rw same (here d)
    ];
    above = h.above;
  } where
    here : (d : Row) → slice_cmp nat_cmp (key_bytes b (get_or rows middle d)) q ≡ Less
    here d = rw (get_or_default rows middle d e (omega (arith, h.inside))) less

  -- where it is too high, the row is before it
  pub goes_down : (low high middle : ℕ) (e : Row) → IsBetween b rows q low high → low ≤ middle
      → middle < high → slice_cmp nat_cmp (key_bytes b (get_or rows middle e)) q ≡ Greater
      → IsBetween b rows q low middle
  goes_down low high middle e h le lt greater = record {
    ordered = le;
    inside = omega (arith, h.inside);
    below = h.below;
    above = λ k d k_ge k_lt. elim (cases_lt middle k) [
      | inl before ↦ is_above (key_bytes b (get_or rows middle d)) (key_bytes b (get_or rows k d))
          (keys_ordered middle k d before k_lt) (here d)
      | inr after ↦ let same : k ≡ middle = omega arith in rw same (here d)
    ];
  } where
    here : (d : Row) → slice_cmp nat_cmp (key_bytes b (get_or rows middle d)) q ≡ Greater
    here d = rw (get_or_default rows middle d e (omega (arith, h.inside))) greater

    is_above : (x y : List ℕ) → slice_cmp nat_cmp x y ≡ Less → slice_cmp nat_cmp x q ≡ Greater
        → slice_cmp nat_cmp y q ≡ Greater
    is_above x y xy xq =
        let y_q : slice_cmp nat_cmp q y ≡ Less = nat_list_cmp_total.trans q x y
        (nat_list_cmp_total.antisymm q x ∙ ap ordering_reverse xq) xy in
        nat_list_cmp_total.antisymm y q ∙ ap ordering_reverse y_q

  -- where it is equal, it is the row
  pub is_found : (middle : ℕ) (e : Row) → middle < length rows
      → slice_cmp nat_cmp (key_bytes b (get_or rows middle e)) q ≡ Equal
      → Some (get_or rows middle e) ≡ row_for b rows q
  is_found middle e lt equal =
      sym (row_for-at b rows middle (get_or rows middle e) q table.keys_ascend
      (slice_get-get_or rows middle e lt) equal)

  -- where nothing is left, there is none
  pub is_absent : (low high : ℕ) → IsBetween b rows q low high → high ≤ low
      → None ≡ row_for b rows q
  is_absent low high h le =
      sym (row_for-absent b rows q
      (all_from_index (λ r. slice_cmp nat_cmp (key_bytes b r) q ≡ Equal → ⊥) rows
      (λ k d k_lt same. elim (cases_lt k low) [
        | inl before ↦ let clash : Less ≡ Equal = sym (h.below k d before) ∙ same in absurd cc
        | inr after ↦ let clash : Greater ≡ Equal = sym (h.above k d (omega arith) k_lt) ∙ same in
            absurd cc
      ])))
