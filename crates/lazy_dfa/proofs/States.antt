-- The state table: classes of characters, rows, and the states that were found.
use Rattle.std.proofs.Common.{◌≡◌, ℕ, zero, suc, ◌+◌, ◌-◌, ◌≤◌, ◌<◌, Bool, true, false, List, []}
use Rattle.std.proofs.Common.{◌∷◌, ◌++◌, length, get_or, slice_index, Option, Some, None}
use Rattle.std.proofs.Common.{Ok, ◌⊎◌, inl, inr, refl, sym, ap, subst, ◌∙◌, arith}
use Rattle.std.proofs.Common.{length-append}
use Rattle.std.specs.Prelude.{nat_le, ◌&&◌, ◌||◌, ◌==◌}
use Rattle.std.specs.Char.{IsScalar}
use Rattle.std.specs.Int.{bit_at}
use Rattle.std.specs.List.{All, Contains, list_any, dedup}
use Rattle.std.specs.List.Sorted.{IsNonDecreasing, IsPermutation, IsSorted}
use Rattle.std.specs.Ordering.{nat_cmp}
use Rattle.std.proofs.lemmas.List.Kept.{Contains-dedup_nat}
use Rattle.std.proofs.lemmas.List.Sorted.{Contains-permutation}
use Rattle.std.proofs.lemmas.Map.Keys.{IsStrictlyIncreasing-dedup, sorted_from_strictly_increasing}
use Rattle.std.proofs.lemmas.Map.Keys.{non_decreasing_from_sorted}
use Rattle.std.specs.declared.alloc.Global.{Global}
use Rattle.std.specs.declared.vec.Vec.{Vec}
use Rattle.std.proofs.lemmas.Bool.{cases_lt, le-leb, lt-leb, eq-eqb, true≢false}
use Rattle.std.proofs.lemmas.Grind.{get_or_default_zero}
use Rattle.std.proofs.lemmas.List.{get_or_append_left, get_or_default}
use Rattle.std.proofs.lemmas.List.Elements.{All-nil, All-head, All-tail, All-push}
use Rattle.std.proofs.lemmas.Nat.Bits.{same_from_bits}
use Rattle.std.proofs.Math.Seq.{get_or-append_seam}
use Rattle.lazy_dfa.specs.declared.automaton.Range.{Range}
use Rattle.lazy_dfa.specs.declared.matcher.Place.{Place}
use Rattle.lazy_dfa.specs.declared.table.Table.{Table}
use Rattle.lazy_dfa.specs.Expression.{Expression, in_range, negated_if}
use Rattle.lazy_dfa.specs.Compiled.{range_reads, atom_reads}
use Rattle.lazy_dfa.specs.Machine.{Machine, IsFor}
use Rattle.lazy_dfa.specs.Refusals.{HasManyStates}
use Rattle.lazy_dfa.specs.Sets.{has}
use Rattle.lazy_dfa.specs.Steps.{next_has, IsStep}
use Rattle.lazy_dfa.specs.Progress.{IsReached}
use Rattle.lazy_dfa.specs.States.{MakesRow, Keeps, Numbers, IsAtRow, IsNext, ContainsNext, IsEdged}
use Rattle.lazy_dfa.specs.States.{IsClasses, IsInClass, state, IsReachable, AreFound, IsLonger}
use Rattle.lazy_dfa.specs.States.{IsNew, IsRow, AreRows, IsTable, IsTooLarge}
use Rattle.lazy_dfa.proofs.Sets.{bit_cases}
use Rattle.lazy_dfa.proofs.Advancing.{step_reached}

-- ---- classes of characters

-- two tests that say the same
same_le : (a b c d : ℕ) → (a ≤ b → c ≤ d) → (c ≤ d → a ≤ b) → nat_le a b ≡ nat_le c d
same_le a b c d f g = elim (cases_lt b a) [
  | inr le ↦ le-leb a b le ∙ sym (le-leb c d (f le))
  | inl lt ↦ elim (cases_lt d c) [
    | inl more ↦ lt-leb a b lt ∙ sym (lt-leb c d more)
    | inr le ↦ absurd (omega (arith, g le))
  ]
]

module _ (firsts : List ℕ) (c k : ℕ) (scalar : IsScalar c) (h : IsInClass firsts c k) where
  -- a class that begins up to the range's end lies within it
  up_to_end : (last : ℕ) (next : Option ℕ) → IsNext last next → ContainsNext firsts next
      → slice_index firsts k ≤ last → c ≤ last
  up_to_end last None f inside le = f c scalar
  up_to_end last (Some n) f inside le = elim (cases_lt last c) [
    | inr low ↦ low
    | inl lt ↦ absurd (let n_le = h.last n inside (f.1 c scalar lt) in omega (arith, n_le, f.0, le))
  ]

  -- a range has the character where it has the first of its class
  range_alike : (r : Range) → IsEdged firsts r
      → in_range c (r.first, r.last) ≡ in_range (slice_index firsts k) (r.first, r.last)
  range_alike r e =
      let low : nat_le r.first c ≡ nat_le r.first (slice_index firsts k) =
      same_le r.first c r.first (slice_index firsts k) (λ le. h.last r.first e.begins le)
      (λ le. omega (arith, le, h.begins)) in
      let high : nat_le c r.last ≡ nat_le (slice_index firsts k) r.last =
      same_le c r.last (slice_index firsts k) r.last (λ le. omega (arith, le, h.begins))
      (λ le. up_to_end r.last e.next e.is_next e.ends le) in
      ap (λ b. b && nat_le c r.last) low ∙ ap (λ b. nat_le r.first (slice_index firsts k) && b) high

-- a list passes two tests alike that say the same of each element
same_any : {X : Type 0} (f g : X → Bool) (xs : List X) → All (λ x. f x ≡ g x) xs
    → list_any f xs ≡ list_any g xs
same_any f g [] h = refl
same_any f g (x ∷ xs) h =
    ap (λ b. b || list_any f xs) (All-head (λ x. f x ≡ g x) x xs h)
    ∙ ap (λ b. g x || b) (same_any f g xs (All-tail (λ x. f x ≡ g x) x xs h))

-- an atom reads the character where it reads the first of its class
pub reads_alike : (ranges : List Range) (negated : ℕ) (firsts : List ℕ) (c k p : ℕ) → IsScalar c
    → IsClasses ranges firsts → IsInClass firsts c k
    → atom_reads ranges negated p c ≡ atom_reads ranges negated p (slice_index firsts k)
reads_alike ranges negated firsts c k p scalar classes h =
    ap (negated_if (has negated p))
    (same_any (range_reads p c) (range_reads p (slice_index firsts k)) ranges
    (λ i d lt. ap (λ b. has (get_or ranges i d).atom p && b)
    (range_alike firsts c k scalar h (get_or ranges i d) (classes.edged i d lt))))

-- what begins or ends a class stays so where there are more characters
edged_kept : (old new : List ℕ) (r : Range) → Keeps old new → IsEdged old r → IsEdged new r
edged_kept old new r keeps e =
    record {
      begins = keeps r.first e.begins;
      next = e.next;
      is_next = e.is_next;
      ends = kept e.next e.ends;
    } where
      kept : (n : Option ℕ) → ContainsNext old n → ContainsNext new n
      kept None u = u
      kept (Some n) inside = keeps n inside

-- one range more
pub edged_more : (old new : List ℕ) (ranges : List Range) (n : ℕ)
    → ((k : ℕ) (d : Range) → k < n → IsEdged old (get_or ranges k d)) → Keeps old new
    → n < length ranges
    → (e : Range) → IsEdged new (get_or ranges n e) → (k : ℕ) (d : Range) → k < n + 1
    → IsEdged new (get_or ranges k d)
edged_more old new ranges n before keeps within f here = λ k d lt. elim (cases_lt k n) [
  | inl low ↦ edged_kept old new (get_or ranges k d) keeps (before k d low)
  | inr le ↦
      let e : k ≡ n =
      omega (arith, lt, le) in
      subst (λ (i : ℕ). IsEdged new (get_or ranges i d)) (sym e)
      (subst (λ (r : Range). IsEdged new r) (get_or_default ranges n f d within) here)
]

-- sorted and without doubles, the edges of the ranges are classes
pub classes_from : (ranges read : List Range) (edges sorted firsts : List ℕ) → read ≡ ranges
    → Contains edges 0 → All (IsEdged edges) read → IsPermutation edges sorted
    → IsSorted nat_cmp sorted
    → firsts ≡ dedup (λ x y. x == y) sorted → IsClasses ranges firsts
classes_from ranges read edges sorted firsts same least edged moved up is =
    let keeps : Keeps edges firsts =
    λ e h. subst (λ (l : List ℕ). Contains l e) (sym is)
    (Contains-dedup_nat sorted e (Contains-permutation edges sorted e moved h)) in
    record {
      sorted = subst IsNonDecreasing (sym is)
          (non_decreasing_from_sorted (dedup (λ x y. x == y) sorted)
          (sorted_from_strictly_increasing (dedup (λ x y. x == y) sorted)
          (IsStrictlyIncreasing-dedup sorted up)));
      least = keeps 0 least;
      edged = subst (λ (l : List Range). All (IsEdged firsts) l) same
          (λ k d lt. edged_kept edges firsts (get_or read k d) keeps (edged k d lt));
    }

-- the class before the first one that begins behind the character
pub class_before : (firsts : List ℕ) (c next : ℕ) → IsNonDecreasing firsts → Contains firsts 0
    → next ≤ length firsts → ((k : ℕ) → k < next → get_or firsts k 0 < c)
    → ((k : ℕ) → next ≤ k → k < length firsts → c < get_or firsts k 0)
    → IsInClass firsts c (next - 1)
class_before firsts c next sorted least le below above =
    let some : least.0 < next = elim (cases_lt least.0 next) [
      | inl lt ↦ lt
      | inr ge ↦ let z = least.2 in let a = above least.0 ge least.1 in absurd (omega (arith, a, z))
    ] in
    record {
      within = omega (arith, some, le);
      begins = let b = below (next - 1) (omega (arith, some)) in omega (arith, b);
      last = λ e inside low. elim (cases_lt inside.0 next) [
        | inl lt ↦
            let at : get_or firsts inside.0 0 ≡ e =
            sym (get_or_default_zero firsts inside.0 e inside.1) ∙ inside.2 in
            let up = sorted inside.0 (next - 1) 0 (omega (arith, lt)) (omega (arith, some, le)) in
            omega (arith, at, up)
        | inr ge ↦
            let at : get_or firsts inside.0 0 ≡ e =
            sym (get_or_default_zero firsts inside.0 e inside.1) ∙ inside.2 in
            let a = above inside.0 ge inside.1 in absurd (omega (arith, a, at, low))
      ];
    }

-- ---- stepping by a row

-- a row steps as the automaton does
pub row_steps : (m : Machine) (firsts sets : List ℕ) (from : Option ℕ) (row : List ℕ) (c k : ℕ)
    → IsScalar c → IsClasses m.ranges firsts → IsInClass firsts c k
    → IsRow m firsts sets from (length firsts) row
    → IsStep m from c (Some (slice_index sets (slice_index row k)))
row_steps m firsts sets from row c k scalar classes h r = λ q.
    r.steps k h.within q ∙ ap (λ b. next_has m from q && b)
    (sym (reads_alike m.ranges m.negated firsts c k q scalar classes h))

-- a look-up in the table
pub table_step : (m : Machine) (t : Table) (place : Place) (row : Vec ℕ Global) (firsts : List ℕ)
    (c k next set : ℕ) → IsTable m t → IsAtRow t place
    → row ≡ get_or t.rows.items place.row row → firsts ≡ t.firsts.items → IsScalar c
    → IsInClass firsts c k → next ≡ get_or row.items k next → set ≡ get_or t.sets.items next set
    → IsStep m place.reached c (Some set)
table_step m t place row firsts c k next set table at is_row is_firsts scalar h is_next is_set =
    let r : IsRow m t.firsts.items t.sets.items (state t.sets.items place.row)
    (length t.firsts.items) row.items =
    subst (λ (v : Vec ℕ Global). IsRow m t.firsts.items t.sets.items
    (state t.sets.items place.row) (length t.firsts.items) v.items) (sym is_row)
    (table.rows place.row row at.within) in
    let g : IsInClass t.firsts.items c k = subst (λ (l : List ℕ). IsInClass l c k) is_firsts h in
    let step =
    row_steps m t.firsts.items t.sets.items (state t.sets.items place.row) row.items c k scalar
    table.classes g r in
    let next_is : slice_index row.items k ≡ next =
    sym (is_next ∙ get_or_default_zero row.items k next (omega (arith, g.within, r.full))) in
    let low : next < length t.sets.items =
    let x = r.known k g.within in omega (arith, x, next_is) in
    let set_is : slice_index t.sets.items (slice_index row.items k) ≡ set =
    ap (slice_index t.sets.items) next_is
    ∙ sym (is_set ∙ get_or_default_zero t.sets.items next set low) in
    subst (λ (s : Option ℕ). IsStep m s c (Some set)) (sym at.here)
    (subst (λ (x : ℕ). IsStep m (state t.sets.items place.row) c (Some x)) set_is step)

-- ---- sets that were found

-- the sets as they are
pub longer_none : (sets : List ℕ) → IsLonger sets sets
longer_none sets = record { longer = omega arith; same = λ i lt. refl }

-- one set more
pub longer_one : (sets : List ℕ) (set : ℕ) → IsLonger sets (sets ++ set ∷ [])
longer_one sets set = record {
  longer = omega (arith, length-append sets (set ∷ []));
  same = λ i lt. get_or_append_left sets (set ∷ []) 0 i lt;
}

-- more sets, and then more again
pub longer_both : (a b c : List ℕ) → IsLonger a b → IsLonger b c → IsLonger a c
longer_both a b c p q = record {
  longer = omega (arith, p.longer, q.longer);
  same = λ i lt. q.same i (omega (arith, p.longer)) ∙ p.same i lt;
}

-- the state before the first character is reached
pub reached_start : (m : Machine) → IsReachable m None
reached_start m = λ c f. ([], All-nil IsScalar, refl)

-- a state is reached with one character more
pub reached_next : (m : Machine) (from : Option ℕ) (d set : ℕ) → IsReachable m from → IsScalar d
    → IsStep m from d (Some set) → IsReachable m (Some set)
reached_next m from d set r scalar step = λ c f.
    let x = r c f in
    (x.0 ++ d ∷ [], All-push IsScalar x.0 d x.1 scalar, step_reached m c f x.0 from d set x.2 step)

-- one more set that is none of those found
pub found_one : (m : Machine) (sets : List ℕ) (set : ℕ) → AreFound m sets → IsReachable m (Some set)
    → IsNew sets set → AreFound m (sets ++ set ∷ [])
found_one m sets set h r none = record {
  reached = λ i lt. elim (cases_lt i (length sets)) [
    | inl low ↦
        subst (λ (s : ℕ). IsReachable m (Some s)) (sym (get_or_append_left sets (set ∷ []) 0 i low))
        (h.reached i low)
    | inr le ↦
        subst (λ (s : ℕ). IsReachable m (Some s))
        (sym (at_end i (omega (arith, length-append sets (set ∷ []))))) r
  ];
  differ = λ i j lt low e. elim (cases_lt j (length sets)) [
    | inl inside ↦
        h.differ i j lt inside (sym
        (get_or_append_left sets (set ∷ []) 0 i (omega (arith, lt, inside))) ∙ e
        ∙ get_or_append_left sets (set ∷ []) 0 j inside)
    | inr le ↦
        let last : j ≡ length sets = omega (arith, low, le, length-append sets (set ∷ [])) in
        let within : i < length sets = omega (arith, lt, last) in
        none i within (sym (get_or_append_left sets (set ∷ []) 0 i within) ∙ e ∙ at_end j last)
  ];
} where
  at_end : (i : ℕ) → i ≡ length sets → slice_index (sets ++ set ∷ []) i ≡ set
  at_end i e = ap (λ n. slice_index (sets ++ set ∷ []) n) e ∙ get_or-append_seam sets set [] 0

-- ---- too many states

-- two answers that say the same
same_bools : (a b : Bool) → (a ≡ true → b ≡ true) → (b ≡ true → a ≡ true) → a ≡ b
same_bools true b f g = sym (f refl)
same_bools false true f g = g refl
same_bools false false f g = refl

-- bits by their tests
same_bits : (a b : ℕ) → (a ≡ 0) ⊎ (a ≡ 1) → (b ≡ 0) ⊎ (b ≡ 1) → (a == 1) ≡ (b == 1) → a ≡ b
same_bits a b (inl x) (inl y) e = x ∙ sym y
same_bits a b (inr x) (inr y) e = x ∙ sym y
same_bits a b (inl x) (inr y) e =
    absurd (true≢false (sym (eq-eqb b 1 y) ∙ sym e ∙ ap (λ (n : ℕ). n == 1) x))
same_bits a b (inr x) (inl y) e =
    absurd (true≢false (sym (eq-eqb a 1 x) ∙ e ∙ ap (λ (n : ℕ). n == 1) y))

-- sets with the same places are the same number
pub same_sets : (a b : ℕ) → ((p : ℕ) → has a p ≡ has b p) → a ≡ b
same_sets a b h =
    same_from_bits a b (λ p. same_bits (bit_at a p) (bit_at b p) (bit_cases a p) (bit_cases b p)
    (h p))

module _ (m : Machine) (sets : List ℕ) (found : AreFound m sets) (many : length sets ≡ 256)
    (c : Expression) (f : IsFor m c) where
  -- a text for each set
  text_of : (i : ℕ) → (u : List ℕ)
      × (i < 256 → All IsScalar u × IsReached c u (Some (slice_index sets i)))
  text_of i = elim (cases_lt i 256) [
    | inl lt ↦ let x = found.reached i (omega (arith, lt, many)) c f in (x.0, λ _. (x.1, x.2))
    | inr le ↦ ([], λ lt. absurd (omega (arith, lt, le)))
  ]

  many_states : HasManyStates c
  many_states = record {
    text = λ i. (text_of i).0;
    characters = λ i lt. ((text_of i).1 lt).0;
    filled = λ i lt. ((text_of i).1 lt).1.0;
    differ = λ i j lt low same.
        let x = ((text_of i).1 (omega (arith, lt, low))).1.1 in
        let y = ((text_of j).1 low).1.1 in
        found.differ i j lt (omega (arith, low, many))
        (same_sets (slice_index sets i) (slice_index sets j) (λ p.
        same_bools (has (slice_index sets i) p) (has (slice_index sets j) p)
        (λ e. (y p).1 ((same p).0 ((x p).0 e)))
        (λ e. (x p).1 ((same p).1 ((y p).0 e)))));
  }

-- a set that is none of 255 is one too many
pub too_large : (m : Machine) (sets : List ℕ) (set : ℕ) → AreFound m sets → length sets ≡ 255
    → IsNew sets set → IsReachable m (Some set) → IsTooLarge m
too_large m sets set found full none r = λ c f.
    many_states m (sets ++ set ∷ []) (found_one m sets set found r none)
    (omega (arith, full, length-append sets (set ∷ []))) c f

-- ---- rows

-- a row of no classes
pub row_nothing : (m : Machine) (firsts sets : List ℕ) (from : Option ℕ)
    → IsRow m firsts sets from 0 []
row_nothing m firsts sets from =
    record {
      full = refl;
      known = λ i lt. absurd (omega (arith, lt));
      steps = λ i lt. absurd (omega (arith, lt));
    }

-- a row stays one where there are more sets
pub row_longer : (m : Machine) (firsts old new : List ℕ) (from : Option ℕ) (k : ℕ) (row : List ℕ)
    → IsLonger old new → IsRow m firsts old from k row → IsRow m firsts new from k row
row_longer m firsts old new from k row longer r = record {
  full = r.full;
  known = λ i lt. omega (arith, r.known i lt, longer.longer);
  steps = λ i lt. subst (λ (s : ℕ). IsStep m from (slice_index firsts i) (Some s))
      (sym (longer.same (slice_index row i) (r.known i lt))) (r.steps i lt);
}

-- a row with one class more
pub row_one : (m : Machine) (firsts sets : List ℕ) (from : Option ℕ) (k : ℕ) (row : List ℕ)
    (n set : ℕ) → IsRow m firsts sets from k row
    → n < length sets → slice_index sets n ≡ set → IsStep m from (slice_index firsts k) (Some set)
    → IsRow m firsts sets from (k + 1) (row ++ n ∷ [])
row_one m firsts sets from k row n set r low here step = record {
  full = omega (arith, r.full, length-append row (n ∷ []));
  known = λ i lt. elim (cases_lt i k) [
    | inl before ↦ subst (λ (x : ℕ). x < length sets) (sym (old i before)) (r.known i before)
    | inr le ↦ subst (λ (x : ℕ). x < length sets) (sym (last i (omega (arith, lt, le)))) low
  ];
  steps = λ i lt. elim (cases_lt i k) [
    | inl before ↦
        subst (λ (x : ℕ). IsStep m from (slice_index firsts i) (Some (slice_index sets x)))
        (sym (old i before)) (r.steps i before)
    | inr le ↦
        let e : i ≡ k = omega (arith, lt, le) in
        subst (λ (x : ℕ). IsStep m from (slice_index firsts i) (Some (slice_index sets x)))
        (sym (last i e))
        (subst (λ (x : ℕ). IsStep m from (slice_index firsts x) (Some (slice_index sets n))) (sym e)
        (subst (λ (x : ℕ). IsStep m from (slice_index firsts k) (Some x)) (sym here) step))
  ];
} where
  old : (i : ℕ) → i < k → slice_index (row ++ n ∷ []) i ≡ slice_index row i
  old i lt = get_or_append_left row (n ∷ []) 0 i (omega (arith, lt, r.full))

  last : (i : ℕ) → i ≡ k → slice_index (row ++ n ∷ []) i ≡ n
  last i e = ap (λ x. slice_index (row ++ n ∷ []) x) (e ∙ sym r.full)
      ∙ get_or-append_seam row n [] 0

-- a state stays where there are more sets
state_longer : (old new : List ℕ) (n : ℕ) → IsLonger old new → n ≤ length old
    → state new n ≡ state old n
state_longer old new zero longer le = refl
state_longer old new (suc i) longer le = ap (λ (s : ℕ). Some s) (longer.same i (omega (arith, le)))

-- no rows
pub rows_nothing : (m : Machine) (firsts sets : List ℕ) → AreRows m firsts sets []
rows_nothing m firsts sets = λ n d lt. absurd (omega (arith, lt))

-- one row more
pub rows_one : (m : Machine) (firsts old new : List ℕ) (rows : List (Vec ℕ Global))
    (row : Vec ℕ Global) → AreRows m firsts old rows → length rows ≤ length old → IsLonger old new
    → IsRow m firsts new (state old (length rows)) (length firsts) row.items
    → AreRows m firsts new (rows ++ row ∷ [])
rows_one m firsts old new rows row h few longer r = λ n d lt. elim (cases_lt n (length rows)) [
  | inl before ↦
      let x = row_longer m firsts old new (state old n) (length firsts) (get_or rows n d).items
      longer (h n d before) in
      subst (λ (v : Vec ℕ Global). IsRow m firsts new (state new n) (length firsts) v.items)
      (sym (get_or_append_left rows (row ∷ []) d n before))
      (subst (λ (s : Option ℕ). IsRow m firsts new s (length firsts) (get_or rows n d).items)
      (sym (state_longer old new n longer (omega (arith, before, few)))) x)
  | inr le ↦
      let e : n ≡ length rows = omega (arith, lt, le, length-append rows (row ∷ [])) in
      let here : get_or (rows ++ row ∷ []) n d ≡ row = ap (λ x. get_or (rows ++ row ∷ []) x d) e
      ∙ get_or-append_seam rows row [] d in
      let from : state new n ≡ state old (length rows) =
      state_longer old new n longer (omega (arith, e, few)) ∙ ap (state old) e in
      subst (λ (v : Vec ℕ Global). IsRow m firsts new (state new n) (length firsts) v.items)
      (sym here)
      (subst (λ (s : Option ℕ). IsRow m firsts new s (length firsts) row.items) (sym from) r)
]

-- the set has no number: there are too many
pub row_fails : (m : Machine) (sets : List ℕ) (from : Option ℕ) (d set : ℕ) (o : Option ℕ)
    (new : List ℕ) → AreFound m sets → IsReachable m from → IsScalar d → IsStep m from d (Some set)
    → Numbers sets set (Ok o) new → ((n : ℕ) → o ≡ Some n → ⊥) → IsTooLarge m
row_fails m sets from d set (Some n) new found r scalar step h none = absurd (none n refl)
row_fails m sets from d set None new found r scalar step h none =
    too_large m sets set found h.1 h.2 (reached_next m from d set r scalar step)

-- the set has a number, with which the row goes on
pub row_goes_on : (m : Machine) (firsts start sets : List ℕ) (from : Option ℕ) (k d set n : ℕ)
    (row new : List ℕ)
    → AreFound m sets × (length sets ≤ 255) × IsLonger start sets × IsRow m firsts sets from k row
    → IsReachable m from → IsScalar d → slice_index firsts k ≡ d → IsStep m from d (Some set)
    → Numbers sets set (Ok (Some n)) new → AreFound m new × (length new ≤ 255) × IsLonger start new
    × IsRow m firsts new from (k + 1) (row ++ n ∷ [])
row_goes_on m firsts start sets from k d set n row new h r scalar is step numbers =
    elim numbers.2 [
      | inl same ↦
          done (subst (λ (l : List ℕ). AreFound m l) (sym same) h.0)
          (omega (arith, ap length same, h.1))
          (subst (λ (l : List ℕ). IsLonger sets l) (sym same) (longer_none sets))
      | inr added ↦ done
          (subst (λ (l : List ℕ). AreFound m l) (sym added.added)
          (found_one m sets set h.0 (reached_next m from d set r scalar step) added.none))
          (let l = ap length added.added in
          omega (arith, l, length-append sets (set ∷ []), added.room))
          (subst (λ (l : List ℕ). IsLonger sets l) (sym added.added) (longer_one sets set))
    ] where
      done : AreFound m new → length new ≤ 255 → IsLonger sets new → AreFound m new
          × (length new ≤ 255) × IsLonger start new
          × IsRow m firsts new from (k + 1) (row ++ n ∷ [])
      done found few longer = (
        found,
        few,
        longer_both start sets new h.2 longer,
        row_one m firsts new from k row n set (row_longer m firsts sets new from k row longer h.3)
            numbers.0 numbers.1 (subst (λ (x : ℕ). IsStep m from x (Some set)) (sym is) step),
      )

-- what a state below their number is reached by
pub reached_state : (m : Machine) (sets : List ℕ) (n : ℕ) → AreFound m sets → n ≤ length sets
    → IsReachable m (state sets n)
reached_state m sets zero h le = reached_start m
reached_state m sets (suc i) h le = h.reached i (omega (arith, le))

-- the state that was read from the sets is reached
pub reached_at : (m : Machine) (sets read : List ℕ) (n : ℕ) (r : Option ℕ) → AreFound m sets
    → read ≡ sets → n ≤ length sets → r ≡ state read n → IsReachable m r
reached_at m sets read n r h same le is =
    subst (λ (s : Option ℕ). IsReachable m s) (sym (is ∙ ap (λ (l : List ℕ). state l n) same))
    (reached_state m sets n h le)

-- the rows of a table, with one more
pub rows_go_on : (m : Machine) (firsts read sets new : List ℕ) (rows : List (Vec ℕ Global))
    (row : Vec ℕ Global) (from : Option ℕ) (o : Option (Vec ℕ Global))
    → AreFound m sets × (length sets ≤ 255) × (length rows ≤ length sets + 1)
    × AreRows m firsts sets rows → length rows ≤ length sets → from ≡ state sets (length rows)
    → read ≡ firsts → o ≡ Some row → MakesRow m read from sets (Ok o) new
    → AreFound m new × (length new ≤ 255) × (length (rows ++ row ∷ []) ≤ length new + 1)
    × AreRows m firsts new (rows ++ row ∷ [])
rows_go_on m firsts read sets new rows row from o h low is same some made =
    let x : MakesRow m firsts from sets (Ok (Some row)) new =
    subst (λ (l : List ℕ). MakesRow m l from sets (Ok (Some row)) new) same
    (subst (λ (z : Option (Vec ℕ Global)). MakesRow m read from sets (Ok z) new) some
    made) in (
      x.0,
      x.1,
      omega (arith, low, x.2.longer, length-append rows (row ∷ [])),
      rows_one m firsts sets new rows row h.3 low x.2
          (subst (λ (s : Option ℕ). IsRow m firsts new s (length firsts) row.items) is x.3),
    )
