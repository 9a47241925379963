-- Whether an expression reads a text is decided: there is a match, or there is none.
use Rattle.std.specs.Prelude.{slice_get}
use Rattle.std.proofs.Common.{◌≡◌, ℕ, zero, suc, ◌+◌, ◌≤◌, ◌<◌, Bool, true, false, List, length}
use Rattle.std.proofs.Common.{Option, Some, None, ◌⊎◌, inl, inr, refl, sym, subst, arith, eqb}
use Rattle.std.proofs.lemmas.Bool.{eqb-true, eqb-false}
use Rattle.std.proofs.lemmas.Option.{slice_get_within}
use Rattle.lazy_dfa.specs.Expression.{CharacterSet, contains, Expression, Nothing, OneOf, End}
use Rattle.lazy_dfa.specs.Expression.{Sequence, Choice, Star, Plus, Optional}
use Rattle.lazy_dfa.specs.Meaning.{Chain, done, step, ReadsAt, Reading, match, holds}
use Rattle.lazy_dfa.specs.MeaningLaws.{chain_le, Reading_le}

-- a fact, or that it doesn't hold
abbrev pub Tested : Type 0 → Type 0
Tested P = P ⊎ (P → ⊥)

-- equivalent facts
as_tested : {P Q : Type 0} → (P → Q) → (Q → P) → Tested P → Tested Q
as_tested f g (inl p) = inl (f p)
as_tested f g (inr non) = inr (λ q. non (g q))

-- a fact that holds, and another
and_then : {P Q : Type 0} → P → Tested Q → Tested (P × Q)
and_then p (inl q) = inl (p, q)
and_then p (inr non) = inr (λ h. non h.1)

-- two facts
both : {P Q : Type 0} → Tested P → (P → Tested Q) → Tested (P × Q)
both (inl p) q = and_then p (q p)
both (inr non) q = inr (λ h. non h.0)

-- one of two facts
one_of : {P Q : Type 0} → Tested P → Tested Q → Tested (P ⊎ Q)
one_of (inl p) q = inl (inl p)
one_of (inr non) (inl q) = inl (inr q)
one_of (inr non) (inr none) = inr (λ h. elim h [ inl p ↦ non p | inr q ↦ none q ])

-- whether two numbers are equal
same : (i j : ℕ) → Tested (i ≡ j)
same i j = by (eqb i j) refl where
  by : (b : Bool) → eqb i j ≡ b → Tested (i ≡ j)
  by true h = inl (eqb-true i j h)
  by false h = inr (eqb-false i j h)

-- a number or the one behind it is above each one that isn't less
less : (i j : ℕ) → Tested (i < j)
less i zero = inr (λ h. omega (arith, h))
less i (suc j) =
    elim (same i j) [
      | inl e ↦ inl (omega (arith, e))
      | inr non ↦ as_tested (λ h. omega (arith, h)) (λ h. omega (arith, h, non)) (less i j)
    ]

-- some number up to n
some_at : (n : ℕ) (P : ℕ → Type 0) → Tested (P n) → Tested ((k : ℕ) × (k < n) × P k)
    → Tested ((k : ℕ) × (k < suc n) × P k)
some_at n P here (inl s) = inl (s.0, omega (arith, s.1), s.2)
some_at n P (inl p) (inr none) = inl (n, omega arith, p)
some_at n P (inr non) (inr none) = inr (λ s.
    elim (same s.0 n) [
      | inl e ↦ non (subst P e s.2)
      | inr ne ↦ none (s.0, omega (arith, s.1, ne), s.2)
    ])

-- some number below n
some_below : (n : ℕ) (P : ℕ → Type 0) → ((k : ℕ) → Tested (P k)) → Tested ((k : ℕ) × (k < n) × P k)
some_below zero P test = inr (λ s. omega (arith, s.1))
some_below (suc n) P test = some_at n P (test n) (some_below n P test)

-- two steps, with a place between them that isn't behind the end
some_between : (n : ℕ) (P Q : ℕ → Type 0) → ((k : ℕ) → Q k → k ≤ n) → ((k : ℕ) → Tested (P k))
    → ((k : ℕ) → Tested (Q k)) → Tested ((k : ℕ) × P k × Q k)
some_between n P Q bound p q =
    as_tested (λ s. (s.0, s.2.0, s.2.1))
    (λ s. let b = bound s.0 s.2 in (s.0, omega arith, (s.1, s.2)))
    (some_below (suc n) (λ k. P k × Q k) (λ k. both (p k) (λ x. q k)))

-- ---- chains

module _ (R : ℕ → ℕ → Type 0) (up : (i j : ℕ) → R i j → i ≤ j)
    (test : (i j : ℕ) → Tested (R i j)) where
  -- a step that gets on, and the rest
  abbrev Moves : ℕ → ℕ → Type 0
  Moves i j = (k : ℕ) × (k < suc j) × ((i < k) × (R i k × Chain R k j))

  -- a chain that begins with a step, by whether that gets on
  moved_by : (i k j : ℕ) → R i k → Chain R k j → (k ≡ j) ⊎ Moves k j → Tested (i ≡ k)
      → (i ≡ j) ⊎ Moves i j
  moved_by i k j r c more (inl e) = subst (λ (x : ℕ). (x ≡ j) ⊎ Moves x j) (sym e) more
  moved_by i k j r c more (inr non) = let a = up i k r in let b = chain_le up k j c in
      inr (k, omega arith, (omega (arith, a, non), (r, c)))

  -- a chain ends where it begins, or gets on
  moved : (i j : ℕ) → Chain R i j → (i ≡ j) ⊎ Moves i j
  moved i j done = inl refl
  moved i j (step {k = k} r c) = moved_by i k j r c (moved k j c) (same i k)

  -- a chain, by these two cases
  chain_by : (i j : ℕ) → Tested (i ≡ j) → Tested (Moves i j) → Tested (Chain R i j)
  chain_by i j (inl e) m = inl (subst (λ (x : ℕ). Chain R i x) e done)
  chain_by i j (inr non) (inl m) = inl (step m.2.1.0 m.2.1.1)
  chain_by i j (inr non) (inr none) =
      inr (λ c. elim (moved i j c) [ inl e ↦ non e | inr m ↦ none m ])

  -- whether there is a chain
  chain : (n i j : ℕ) → j ≤ i + n → Tested (Chain R i j)
  chain zero i j le = chain_by i j (same i j) (inr (λ m. omega (arith, m.1, m.2.0)))
  chain (suc n) i j le =
      chain_by i j (same i j)
      (some_below (suc j) (λ k. (i < k) × (R i k × Chain R k j))
      (λ k. both (less i k) (λ lt. both (test i k) (λ r. chain n k j (omega (arith, lt, le))))))

  -- a chain stays within what its steps stay within
  chain_kept : (n : ℕ) → ((i j : ℕ) → i ≤ n → R i j → j ≤ n) → (i j : ℕ) → i ≤ n
      → Chain R i j → j ≤ n
  chain_kept n kept i j le done = le
  chain_kept n kept i j le (step {k = k} r c) = chain_kept n kept k j (kept i k le r) c

-- ---- expressions

-- whether a set reads the character at a place
reads_at : (s : List ℕ) (set : CharacterSet) (i : ℕ) → Tested (ReadsAt s set i)
reads_at s set i = by (slice_get s i) refl where
  inside : (c : ℕ) → slice_get s i ≡ Some c → (b : Bool) → contains set c ≡ b
      → Tested (ReadsAt s set i)
  inside c there true h = inl (record { character = c; there = there; inside = h })
  inside c there false h =
      inr (λ r. let same : r.character ≡ c = let t = r.there in cc in
      let t = subst (λ (x : ℕ). contains set x ≡ true) same r.inside in cc)

  by : (o : Option ℕ) → slice_get s i ≡ o → Tested (ReadsAt s set i)
  by None h = inr (λ r. let t = r.there in cc)
  by (Some c) h = inside c h (contains set c) refl

-- whether the end stands at a place
placed : (end : Option ℕ) (i : ℕ) → Tested (end ≡ Some i)
placed None i = inr (λ h. cc)
placed (Some j) i =
    elim (same j i) [ inl e ↦ inl (let e' = e in cc) | inr non ↦ inr (λ h. non (let h' = h in cc)) ]

-- whether an expression reads from one place to another
pub reading : (s : List ℕ) (end : Option ℕ) (e : Expression) (i j : ℕ)
    → Tested (Reading s end e i j)
reading s end Nothing i j = same i j
reading s end (OneOf set) i j = both (same j (i + 1)) (λ h. reads_at s set i)
reading s end End i j = both (same i j) (λ h. placed end i)
reading s end (Sequence a b) i j =
    some_between j (λ k. Reading s end a i k) (λ k. Reading s end b k j)
    (λ k h. Reading_le s end b k j h) (λ k. reading s end a i k) (λ k. reading s end b k j)
reading s end (Choice a b) i j = one_of (reading s end a i j) (reading s end b i j)
reading s end (Star a) i j =
    chain (Reading s end a) (Reading_le s end a) (λ k l. reading s end a k l) j i j (omega arith)
reading s end (Plus a) i j =
    some_between j (λ k. Reading s end a i k) (λ k. Chain (Reading s end a) k j)
    (λ k h. chain_le (Reading_le s end a) k j h)
    (λ k. reading s end a i k)
    (λ k. chain (Reading s end a) (Reading_le s end a) (λ m l. reading s end a m l) j k j
    (omega arith))
reading s end (Optional a) i j = one_of (same i j) (reading s end a i j)

-- what is read stays in the text
within : (s : List ℕ) (end : Option ℕ) (e : Expression) (i j : ℕ) → i ≤ length s
    → Reading s end e i j → j ≤ length s
within s end Nothing i j le h = omega (arith, h)
within s end (OneOf set) i j le h = let w = slice_get_within s i h.1.character h.1.there in
    omega (arith, h.0)
within s end End i j le h = omega (arith, h.0)
within s end (Sequence a b) i j le h = within s end b h.0 j (within s end a i h.0 le h.1) h.2
within s end (Choice a b) i j le (inl h) = within s end a i j le h
within s end (Choice a b) i j le (inr h) = within s end b i j le h
within s end (Star a) i j le h =
    chain_kept (Reading s end a) (Reading_le s end a) (reading s end a) (length s)
    (λ k l below r. within s end a k l below r) i j le h
within s end (Plus a) i j le h =
    chain_kept (Reading s end a) (Reading_le s end a) (reading s end a) (length s)
    (λ k l below r. within s end a k l below r) h.0 j (within s end a i h.0 le h.1) h.2
within s end (Optional a) i j le (inl h) = omega (arith, h)
within s end (Optional a) i j le (inr h) = within s end a i j le h

-- a condition holds on a text, or doesn't
pub tested_holds : (c : Expression) (s : List ℕ) → Tested (holds c s)
tested_holds c s =
    as_tested (λ h. (h.0, h.2))
    (λ h. let le = within s (Some (length s)) c 0 h.0 (omega arith) h.1 in
    (h.0, omega arith, h.1))
    (some_below (suc (length s)) (λ j. match c s 0 j) (λ j. reading s (Some (length s)) c 0 j))
