-- The places of an expression's atoms.
use Rattle.std.proofs.Common.{◌≡◌, ℕ, ◌+◌, ◌≤◌, ◌<◌, Bool, true, false, inl, inr, refl, arith}
use Rattle.std.specs.Prelude.{◌&&◌, ◌||◌, ◌==◌}
use Rattle.std.proofs.lemmas.Bool.{or_cases, and_parts, eqb-true}
use Rattle.lazy_dfa.specs.Expression.{contains, Expression, Nothing, OneOf, End, Sequence, Choice}
use Rattle.lazy_dfa.specs.Expression.{Star, Plus, Optional, size}
use Rattle.lazy_dfa.specs.Positions.{empty, first, last, follow, reads}

-- the place is one of the expression's
pub record Within (e : Expression) (n p : ℕ) : Type 0 where
  pub low : n ≤ p
  pub high : p < n + size e

-- a place of the first part
in_left : (a b : Expression) (n p : ℕ) → Within a n p → Within (Choice a b) n p
in_left a b n p w = record { low = w.low; high = omega (arith, w.high) }

-- a place of the second part
in_right : (a b : Expression) (n p : ℕ) → Within b (n + size a) p → Within (Choice a b) n p
in_right a b n p w = record { low = omega (arith, w.low); high = omega (arith, w.high) }

-- the places of two parts are those of their sequence
as_sequence : (a b : Expression) (n p : ℕ) → Within (Choice a b) n p → Within (Sequence a b) n p
as_sequence a b n p w = record { low = w.low; high = w.high }

-- the place of an only atom
at_place : (n p : ℕ) (e : Expression) → size e ≡ 1 → (p == n) ≡ true → Within e n p
at_place n p e one h = let same = eqb-true p n h in record { low = omega arith; high = omega arith }

-- first atoms have a place
pub first_within : (e : Expression) (n p : ℕ) → first e n p ≡ true → Within e n p
first_within Nothing n p h = absurd cc
first_within (OneOf set) n p h = at_place n p (OneOf set) refl h
first_within End n p h = absurd cc
first_within (Sequence a b) n p h =
    as_sequence a b n p (elim (or_cases (first a n p) (empty false a && first b (n + size a) p) h) [
      | inl l ↦ in_left a b n p (first_within a n p l)
      | inr r ↦
          in_right a b n p (first_within b (n + size a) p
          (and_parts (empty false a) (first b (n + size a) p) r).1)
    ])
first_within (Choice a b) n p h = elim (or_cases (first a n p) (first b (n + size a) p) h) [
  | inl l ↦ in_left a b n p (first_within a n p l)
  | inr r ↦ in_right a b n p (first_within b (n + size a) p r)
]
first_within (Star a) n p h = let w = first_within a n p h in record { low = w.low; high = w.high }
first_within (Plus a) n p h = let w = first_within a n p h in record { low = w.low; high = w.high }
first_within (Optional a) n p h =
    let w = first_within a n p h in record { low = w.low; high = w.high }

-- last atoms have a place
pub last_within : (end : Bool) (e : Expression) (n p : ℕ) → last end e n p ≡ true → Within e n p
last_within end Nothing n p h = absurd cc
last_within end (OneOf set) n p h = at_place n p (OneOf set) refl h
last_within end End n p h = absurd cc
last_within end (Sequence a b) n p h =
    as_sequence a b n p (elim
    (or_cases (last end b (n + size a) p) (empty end b && last end a n p) h) [
      | inl l ↦ in_right a b n p (last_within end b (n + size a) p l)
      | inr r ↦
          in_left a b n p (last_within end a n p (and_parts (empty end b) (last end a n p) r).1)
    ])
last_within end (Choice a b) n p h =
    elim (or_cases (last end a n p) (last end b (n + size a) p) h) [
      | inl l ↦ in_left a b n p (last_within end a n p l)
      | inr r ↦ in_right a b n p (last_within end b (n + size a) p r)
    ]
last_within end (Star a) n p h =
    let w = last_within end a n p h in record { low = w.low; high = w.high }
last_within end (Plus a) n p h =
    let w = last_within end a n p h in record { low = w.low; high = w.high }
last_within end (Optional a) n p h =
    let w = last_within end a n p h in record { low = w.low; high = w.high }

-- both places are the expression's
abbrev pub Both : Expression → ℕ → ℕ → ℕ → Type 0
Both e n p q = Within e n p × Within e n q

-- places of the first part
both_left : (a b : Expression) (n p q : ℕ) → Both a n p q → Both (Choice a b) n p q
both_left a b n p q w = (in_left a b n p w.0, in_left a b n q w.1)

-- places of the second part
both_right : (a b : Expression) (n p q : ℕ) → Both b (n + size a) p q → Both (Choice a b) n p q
both_right a b n p q w = (in_right a b n p w.0, in_right a b n q w.1)

-- places in a repetition
repeated : (a : Expression) (n p q : ℕ) → (follow a n p q ≡ true → Both a n p q)
    → (follow a n p q || (last false a n p && first a n q)) ≡ true → Both a n p q
repeated a n p q inside h = elim (or_cases (follow a n p q) (last false a n p && first a n q) h) [
  | inl x ↦ inside x
  | inr r ↦
      let both = and_parts (last false a n p) (first a n q) r in
      (last_within false a n p both.0, first_within a n q both.1)
]

-- atoms that follow have places
pub follow_within : (e : Expression) (n p q : ℕ) → follow e n p q ≡ true → Both e n p q
follow_within Nothing n p q h = absurd cc
follow_within (OneOf set) n p q h = absurd cc
follow_within End n p q h = absurd cc
follow_within (Sequence a b) n p q h =
    let w : Both (Choice a b) n p q =
    elim (or_cases (follow a n p q || follow b (n + size a) p q)
    (last false a n p && first b (n + size a) q) h) [
      | inl l ↦ elim (or_cases (follow a n p q) (follow b (n + size a) p q) l) [
        | inl x ↦ both_left a b n p q (follow_within a n p q x)
        | inr y ↦ both_right a b n p q (follow_within b (n + size a) p q y)
      ]
      | inr r ↦ let both = and_parts (last false a n p) (first b (n + size a) q) r in (
        in_left a b n p (last_within false a n p both.0),
        in_right a b n q (first_within b (n + size a) q both.1),
      )
    ] in
    (as_sequence a b n p w.0, as_sequence a b n q w.1)
follow_within (Choice a b) n p q h =
    elim (or_cases (follow a n p q) (follow b (n + size a) p q) h) [
      | inl x ↦ both_left a b n p q (follow_within a n p q x)
      | inr y ↦ both_right a b n p q (follow_within b (n + size a) p q y)
    ]
follow_within (Star a) n p q h = let w = repeated a n p q (λ x. follow_within a n p q x) h in
    (record { low = w.0.low; high = w.0.high }, record { low = w.1.low; high = w.1.high })
follow_within (Plus a) n p q h = let w = repeated a n p q (λ x. follow_within a n p q x) h in
    (record { low = w.0.low; high = w.0.high }, record { low = w.1.low; high = w.1.high })
follow_within (Optional a) n p q h =
    let w = follow_within a n p q h in
    (record { low = w.0.low; high = w.0.high }, record { low = w.1.low; high = w.1.high })

-- atoms that read have a place
pub reads_within : (e : Expression) (n p c : ℕ) → reads e n p c ≡ true → Within e n p
reads_within Nothing n p c h = absurd cc
reads_within (OneOf set) n p c h =
    at_place n p (OneOf set) refl (and_parts (p == n) (contains set c) h).0
reads_within End n p c h = absurd cc
reads_within (Sequence a b) n p c h =
    as_sequence a b n p (elim (or_cases (reads a n p c) (reads b (n + size a) p c) h) [
      | inl l ↦ in_left a b n p (reads_within a n p c l)
      | inr r ↦ in_right a b n p (reads_within b (n + size a) p c r)
    ])
reads_within (Choice a b) n p c h = elim (or_cases (reads a n p c) (reads b (n + size a) p c) h) [
  | inl l ↦ in_left a b n p (reads_within a n p c l)
  | inr r ↦ in_right a b n p (reads_within b (n + size a) p c r)
]
reads_within (Star a) n p c h =
    let w = reads_within a n p c h in record { low = w.low; high = w.high }
reads_within (Plus a) n p c h =
    let w = reads_within a n p c h in record { low = w.low; high = w.high }
reads_within (Optional a) n p c h =
    let w = reads_within a n p c h in record { low = w.low; high = w.high }
