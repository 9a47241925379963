-- A condition with a state table has no more states than the table.
use Rattle.std.proofs.Common.{◌≡◌, ℕ, zero, suc, ◌+◌, ◌-◌, ◌≤◌, ◌<◌, true, cond, List, []}
use Rattle.std.proofs.Common.{◌∷◌, ◌++◌, length, get_or, slice_index, Option, Some, None, Ok}
use Rattle.std.proofs.Common.{◌⊎◌, inl, inr, refl, sym, ap, subst, ◌∙◌, arith, append_assoc}
use Rattle.std.proofs.Common.{append-nil, ltb, not}
use Rattle.std.specs.Prelude.{◌==◌, ◌↔◌, slice_index_or, is_some}
use Rattle.std.specs.Char.{IsScalar}
use Rattle.std.specs.List.{All, Contains, position_or_len}
use Rattle.std.specs.List.Sorted.{IsNonDecreasing}
use Rattle.std.specs.declared.alloc.Global.{Global}
use Rattle.std.specs.declared.vec.Vec.{Vec}
use Rattle.std.proofs.lemmas.Bool.{cases_eq, cases_lt, cond-true, cond-false, eq-eqb, ne_eqb}
use Rattle.std.proofs.lemmas.Bool.{ltb-true, ltb-false}
use Rattle.std.proofs.lemmas.Grind.{get_or_default_zero}
use Rattle.std.proofs.lemmas.List.Elements.{All-head, All-tail}
use Rattle.std.proofs.lemmas.List.Sums.{fails_before_first, passes_at_first}
use Rattle.std.proofs.lemmas.List.Sums.{prefix_len-le-length}
use Rattle.lazy_dfa.specs.declared.table.Table.{Table}
use Rattle.lazy_dfa.specs.Expression.{Expression}
use Rattle.lazy_dfa.specs.Machine.{Machine, IsFor}
use Rattle.lazy_dfa.specs.Meaning.{after}
use Rattle.lazy_dfa.specs.Progress.{IsReached}
use Rattle.lazy_dfa.specs.Refusals.{HasManyStates}
use Rattle.lazy_dfa.specs.Sets.{has}
use Rattle.lazy_dfa.specs.States.{HasTable, IsInClass, IsTable, MakesTable, state}
use Rattle.lazy_dfa.proofs.Advancing.{step_reached}
use Rattle.lazy_dfa.proofs.States.{row_steps}

-- ---- more numbers than places

-- a number, with another in the place of n
abbrev moved : ℕ → ℕ → ℕ → ℕ
moved n other a = cond (a == n) other a

-- it is the other where it was n
moved_is : (n other a : ℕ) → ((a ≡ n) × (moved n other a ≡ other))
    ⊎ ((a ≡ n → ⊥) × (moved n other a ≡ a))
moved_is n other a = elim (cases_eq a n) [
  | inl e ↦ inl (e, cond-true (a == n) other a (eq-eqb a n e))
  | inr ne ↦ inr (ne, cond-false (a == n) other a (ne_eqb a n ne))
]

-- what is at most n, and not n, is less
less : (n a r : ℕ) → a < suc n → (a ≡ n → ⊥) → r ≡ a → r < n
less n a r lt ne is = elim (cases_lt a n) [
  | inl low ↦ omega (arith, low, is)
  | inr ge ↦ absurd (ne (omega (arith, lt, ge)))
]

-- n + 1 numbers that differ aren't all below n
pub pigeonhole : (n : ℕ) (f : ℕ → ℕ) → ((i : ℕ) → i ≤ n → f i < n)
    → ((i j : ℕ) → i < j → j ≤ n → f i ≡ f j → ⊥) → ⊥
pigeonhole zero f below differ = omega (arith, below 0 (omega arith))
pigeonhole (suc n) f below differ = pigeonhole n (λ i. moved n (f (suc n)) (f i)) low apart where
  low : (i : ℕ) → i ≤ n → moved n (f (suc n)) (f i) < n
  low i le = elim (moved_is n (f (suc n)) (f i)) [
    | inl x ↦
        less n (f (suc n)) (moved n (f (suc n)) (f i)) (below (suc n) (omega arith))
        (λ e. differ i (suc n) (omega (arith, le)) (omega arith) (x.0 ∙ sym e)) x.1
    | inr x ↦
        less n (f i) (moved n (f (suc n)) (f i)) (below i (omega (arith, le))) x.0 x.1
  ]

  apart : (i j : ℕ) → i < j → j ≤ n
      → moved n (f (suc n)) (f i) ≡ moved n (f (suc n)) (f j) → ⊥
  apart i j lt le same = elim (moved_is n (f (suc n)) (f i)) [
    | inl x ↦ elim (moved_is n (f (suc n)) (f j)) [
      | inl y ↦ differ i j lt (omega (arith, le)) (x.0 ∙ sym y.0)
      | inr y ↦
          differ j (suc n) (omega (arith, le)) (omega arith) (sym y.1 ∙ sym same ∙ x.1)
    ]
    | inr x ↦ elim (moved_is n (f (suc n)) (f j)) [
      | inl y ↦
          differ i (suc n) (omega (arith, lt, le)) (omega arith) (sym x.1 ∙ same ∙ y.1)
      | inr y ↦ differ i j lt (omega (arith, le)) (sym x.1 ∙ same ∙ y.1)
    ]
  ]

-- ---- classes

-- the first class that begins behind a character
abbrev next_class : List ℕ → ℕ → ℕ
next_class firsts c = position_or_len (λ first. ltb c first) firsts

-- each character is in a class
module _ (firsts : List ℕ) (c : ℕ) (sorted : IsNonDecreasing firsts) where
  -- from there on the classes begin behind it
  behind : (i e : ℕ) → next_class firsts c ≤ i → i < length firsts
      → slice_index_or firsts i e ≡ e → c < e
  behind i e ge lt is =
      let first = ltb-true c (get_or firsts (next_class firsts c) 0)
      (passes_at_first (λ first. ltb c first) firsts 0 (omega (arith, ge, lt))) in
      let up = sorted (next_class firsts c) i 0 ge lt in
      let at : get_or firsts i 0 ≡ e = sym (get_or_default_zero firsts i e lt) ∙ is in
      omega (arith, first, up, at)

  pub class_of : Contains firsts 0 → (k : ℕ) × IsInClass firsts c k
  class_of least =
      let some : least.0 < next_class firsts c = elim (cases_lt least.0 (next_class firsts c)) [
        | inl lt ↦ lt
        | inr ge ↦ absurd (omega (arith, behind least.0 0 ge least.1 least.2))
      ] in
      let within : next_class firsts c ≤ length firsts =
      prefix_len-le-length (λ first. not (ltb c first)) firsts in (
        next_class firsts c - 1,
        record {
          within = omega (arith, some, within);
          begins = ltb-false c (get_or firsts (next_class firsts c - 1) 0)
              (fails_before_first (λ first. ltb c first) firsts (next_class firsts c - 1) 0
              (omega (arith, some)));
          last = λ e inside le. elim (cases_lt inside.0 (next_class firsts c)) [
            | inl lt ↦
                let at : get_or firsts inside.0 0 ≡ e =
                sym (get_or_default_zero firsts inside.0 e inside.1) ∙ inside.2 in
                let up = sorted inside.0 (next_class firsts c - 1) 0 (omega (arith, lt))
                (omega (arith, some, within)) in
                omega (arith, at, up)
            | inr ge ↦ absurd (omega (arith, le, behind inside.0 e ge inside.1 inside.2))
          ];
        },
      )

-- ---- the states of a table

-- a row, where there are some
some_row : (rows : List (Vec ℕ Global)) → 0 < length rows → Vec ℕ Global
some_row [] lt = absurd (omega (arith, lt))
some_row (row ∷ rows) lt = row

module _ (m : Machine) (t : Table) (table : IsTable m t) (c : Expression) (f : IsFor m c) where
  -- from a state of the table a text leads to another
  leads : (u rest : List ℕ) (n : ℕ) → n ≤ length t.sets.items
      → IsReached c u (state t.sets.items n) → All IsScalar rest
      → (k : ℕ) × (k ≤ length t.sets.items) × IsReached c (u ++ rest) (state t.sets.items k)
  leads u [] n le reached scalars =
      let same = sym (append-nil u) in
      (n, le, subst (λ (v : List ℕ). IsReached c v (state t.sets.items n)) same reached)
  leads u (d ∷ rest) n le reached scalars =
      let class = class_of t.firsts.items d table.classes.sorted table.classes.least in
      let rows = t.rows.items in
      let any = some_row rows (omega (arith, table.all)) in
      let is_row = table.rows n any (omega (arith, le, table.all)) in
      let row = (slice_index_or rows n any).items in
      let next = slice_index row class.0 in
      let step = row_steps m t.firsts.items t.sets.items (state t.sets.items n) row d class.0
      (All-head IsScalar d rest scalars) table.classes class.1 is_row in
      let more = leads (u ++ d ∷ []) rest (suc next) (is_row.known class.0 class.1.within)
      (step_reached m c f u (state t.sets.items n) d (slice_index t.sets.items next) reached step)
      (All-tail IsScalar d rest scalars) in (
        more.0,
        more.1,
        subst (λ (v : List ℕ). IsReached c v (state t.sets.items more.0))
            (append_assoc u (d ∷ []) rest) more.2,
      )

  -- with a character it is one of the sets
  among_sets : (u : List ℕ) (k : ℕ) → 0 < length u → k ≤ length t.sets.items
      → IsReached c u (state t.sets.items k)
      → (i : ℕ) × (i < length t.sets.items) × IsReached c u (Some (slice_index t.sets.items i))
  among_sets u zero filled le reached = absurd (omega (arith, filled, ap length reached))
  among_sets u (suc i) filled le reached = (i, omega (arith, le), reached)

  module _ (many : HasManyStates c) where
    -- which of the sets each of the texts leads to
    led_to : (i : ℕ) → (k : ℕ) × (i < 256 → (k < length t.sets.items)
        × IsReached c (many.text i) (Some (slice_index t.sets.items k)))
    led_to i = elim (cases_lt i 256) [
      | inl lt ↦
          let x = leads [] (many.text i) 0 (omega arith) refl (many.characters i lt) in
          let y = among_sets (many.text i) x.0 (many.filled i lt) x.1 x.2 in
          (y.0, λ _. (y.1, y.2))
      | inr ge ↦ (0, λ lt. absurd (omega (arith, lt, ge)))
    ]

    -- texts that lead to one set have the same `after`
    same_after : (i j : ℕ) → i < 256 → j < 256 → (led_to i).0 ≡ (led_to j).0 → (p : ℕ)
        → after c (many.text i) p ↔ after c (many.text j) p
    same_after i j low high same p =
        let x = ((led_to i).1 low).1.1 p in
        let y = ((led_to j).1 high).1.1 p in
        let sets = ap (λ k. has (slice_index t.sets.items k) p) same in
        ((λ a. y.0 (sym sets ∙ x.1 a)), (λ a. x.0 (sets ∙ y.1 a)))

    not_many : ⊥
    not_many = pigeonhole 255 (λ i. (led_to i).0)
        (λ i le. omega (arith, ((led_to i).1 (omega (arith, le))).0, table.few))
        (λ i j lt le same. many.differ i j lt (omega (arith, le))
        (same_after i j (omega (arith, lt, le)) (omega (arith, le)) same))

-- a condition with a table has few states
pub few_with : (m : Machine) (o : Option Table) → HasTable m o → is_some o ≡ true
    → (c : Expression) → IsFor m c → HasManyStates c → ⊥
few_with m None h some c f many = absurd cc
few_with m (Some t) h some c f many = not_many m t h c f many

-- so has one for which a table was made
pub few_made : (m : Machine) (o : Option Table) → MakesTable m (Ok o) → is_some o ≡ true
    → (c : Expression) → IsFor m c → HasManyStates c → ⊥
few_made m None h some c f many = absurd cc
few_made m (Some t) h some c f many = not_many m t h c f many
