-- The position automaton reaches what the expression reaches.
use Rattle.std.proofs.Common.{◌≡◌, ℕ, ◌+◌, ◌<◌, Bool, true, false, List, Option, Some, None, ◌⊎◌}
use Rattle.std.proofs.Common.{inl, inr, refl, sym, ap, subst, ◌∙◌, arith}
use Rattle.std.specs.Prelude.{slice_get, ◌==◌, ◌&&◌, ◌||◌}
use Rattle.std.proofs.lemmas.Bool.{eq-eqb, or_cases, and_parts, and_from, or_left, or_right}
use Rattle.std.proofs.lemmas.Bool.{cases_lt, eqb-true}
use Rattle.lazy_dfa.specs.Expression.{contains, Expression, Nothing, OneOf, End, Sequence, Choice}
use Rattle.lazy_dfa.specs.Expression.{Star, Plus, Optional, size}
use Rattle.lazy_dfa.specs.Meaning.{Chain, done, step, Reading, Reaches}
use Rattle.lazy_dfa.specs.Positions.{empty, first, last, follow, reads}
use Rattle.lazy_dfa.proofs.Ranges.{Within, first_within, last_within, follow_within, reads_within}
use Rattle.lazy_dfa.specs.MeaningLaws.{chain_le, chain_every, chain_end, Reading_le, Reaches_is}

-- ---- whole readings

-- a part that passes no `$` may pass one
pub Reading_any : (s : List ℕ) (at : Option ℕ) (e : Expression) (i j : ℕ) → Reading s None e i j
    → Reading s at e i j
Reading_any s at Nothing i j h = h
Reading_any s at (OneOf set) i j h = h
Reading_any s at End i j h = absurd (no h.1) where
  no : None ≡ Some i → ⊥
  no e = cc
Reading_any s at (Sequence a b) i j h =
    (h.0, Reading_any s at a i h.0 h.1, Reading_any s at b h.0 j h.2)
Reading_any s at (Choice a b) i j (inl h) = inl (Reading_any s at a i j h)
Reading_any s at (Choice a b) i j (inr h) = inr (Reading_any s at b i j h)
Reading_any s at (Star a) i j h = chain_every (λ i j r. Reading_any s at a i j r) i j h
Reading_any s at (Plus a) i j h =
    (h.0, Reading_any s at a i h.0 h.1, chain_every (λ i j r. Reading_any s at a i j r) h.0 j h.2)
Reading_any s at (Optional a) i j (inl h) = inl h
Reading_any s at (Optional a) i j (inr h) = inr (Reading_any s at a i j h)

-- where a `$` reads at the place i if it counts as empty
abbrev pub Ends : Bool → Option ℕ → ℕ → Type 0
Ends end at i = end ≡ true → at ≡ Some i

-- what is empty reads nothing
pub empty_reads : (s : List ℕ) (end : Bool) (at : Option ℕ) (e : Expression) (i : ℕ) → Ends end at i
    → empty end e ≡ true → Reading s at e i i
empty_reads s end at Nothing i ends h = refl
empty_reads s end at (OneOf set) i ends h = absurd cc
empty_reads s end at End i ends h = (refl, ends h)
empty_reads s end at (Sequence a b) i ends h = let both = and_parts (empty end a) (empty end b) h in
    (i, empty_reads s end at a i ends both.0, empty_reads s end at b i ends both.1)
empty_reads s end at (Choice a b) i ends h = elim (or_cases (empty end a) (empty end b) h) [
  | inl x ↦ inl (empty_reads s end at a i ends x)
  | inr y ↦ inr (empty_reads s end at b i ends y)
]
empty_reads s end at (Star a) i ends h = done
empty_reads s end at (Plus a) i ends h = (i, empty_reads s end at a i ends h, done)
empty_reads s end at (Optional a) i ends h = inl refl

-- one more behind a chain
chain_last : {R S : ℕ → ℕ → Type 0} (f : (i j : ℕ) → R i j → S i j) (i k j : ℕ) → Chain R i k
    → S k j → Chain S i j
chain_last f i k j c r = chain_end i k j (chain_every f i k c) r

-- one or more as one and a chain
chain_first : {R : ℕ → ℕ → Type 0} (i k j : ℕ) → Chain R i k → R k j → (m : ℕ) × R i m × Chain R m j
chain_first i k j done r = (j, r, done)
chain_first i k j (step {k = m} q c) r = (m, q, chain_end m k j c r)

-- where a last atom is reached, all is read
pub last_reads : (s : List ℕ) (end : Bool) (at : Option ℕ) (e : Expression) (n i j p : ℕ)
    → Ends end at j → Reaches s e n i j p → last end e n p ≡ true → Reading s at e i j
last_reads s end at Nothing n i j p ends h l = absurd h
last_reads s end at (OneOf set) n i j p ends h l = (h.1, h.2)
last_reads s end at End n i j p ends h l = absurd h
last_reads s end at (Sequence a b) n i j p ends (inl h) l =
    elim (or_cases (last end b (n + size a) p) (empty end b && last end a n p) l) [
      | inl x ↦ let r = Reaches_is s a n i j p h in let w = last_within end b (n + size a) p x in
          absurd (omega (arith, r.high, w.low))
      | inr y ↦ let both = and_parts (empty end b) (last end a n p) y in
          (j, last_reads s end at a n i j p ends h both.1, empty_reads s end at b j ends both.0)
    ]
last_reads s end at (Sequence a b) n i j p ends (inr h) l =
    elim (or_cases (last end b (n + size a) p) (empty end b && last end a n p) l) [
      | inl x ↦
          (h.0, Reading_any s at a i h.0 h.1, last_reads s end at b (n + size a) h.0 j p ends h.2 x)
      | inr y ↦ let both = and_parts (empty end b) (last end a n p) y in
          let r = Reaches_is s b (n + size a) h.0 j p h.2 in let w = last_within end a n p both.1 in
          absurd (omega (arith, r.low, w.high))
    ]
last_reads s end at (Choice a b) n i j p ends (inl h) l =
    elim (or_cases (last end a n p) (last end b (n + size a) p) l) [
      | inl x ↦ inl (last_reads s end at a n i j p ends h x)
      | inr y ↦ let r = Reaches_is s a n i j p h in let w = last_within end b (n + size a) p y in
          absurd (omega (arith, r.high, w.low))
    ]
last_reads s end at (Choice a b) n i j p ends (inr h) l =
    elim (or_cases (last end a n p) (last end b (n + size a) p) l) [
      | inl x ↦ let r = Reaches_is s b (n + size a) i j p h in let w = last_within end a n p x in
          absurd (omega (arith, r.low, w.high))
      | inr y ↦ inr (last_reads s end at b (n + size a) i j p ends h y)
    ]
last_reads s end at (Star a) n i j p ends h l =
    chain_last (λ i j r. Reading_any s at a i j r) i h.0 j h.1
    (last_reads s end at a n h.0 j p ends h.2 l)
last_reads s end at (Plus a) n i j p ends h l =
    chain_first i h.0 j (chain_every (λ i j r. Reading_any s at a i j r) i h.0 h.1)
    (last_reads s end at a n h.0 j p ends h.2 l)
last_reads s end at (Optional a) n i j p ends h l = inr (last_reads s end at a n i j p ends h l)

-- ---- what was read whole was reached

-- nothing was read, or an atom that can be the last was reached
abbrev pub Whole : List ℕ → Bool → Expression → ℕ → ℕ → ℕ → Type 0
Whole s end e n i j =
    ((i ≡ j) × (empty end e ≡ true)) ⊎ ((p : ℕ) × Reaches s e n i j p × (last end e n p ≡ true))

-- what a chain read reached a last atom, or it read nothing
chain_whole : (s : List ℕ) (a : Expression) (n : ℕ)
    → ((i j : ℕ) → Reading s None a i j → Whole s false a n i j)
    → (i j : ℕ) → Chain (Reading s None a) i j → (i ≡ j)
    ⊎ ((p : ℕ) × Reaches s (Star a) n i j p × (last false a n p ≡ true))
chain_whole s a n whole i j done = inl refl
chain_whole s a n whole i j (step {k = k} r c) = elim (chain_whole s a n whole k j c) [
  | inr x ↦ inr (x.0, (x.1.0, step r x.1.1, x.1.2), x.2)
  | inl same ↦ elim (whole i k r) [
    | inl x ↦ inl (x.0 ∙ same)
    | inr x ↦ inr (x.0, (i, done, subst (λ (m : ℕ). Reaches s a n i m x.0) same x.1), x.2)
  ]
]

-- what was read reached a last atom, or nothing
pub read_whole : (s : List ℕ) (e : Expression) (n i j : ℕ) → Reading s None e i j
    → Whole s false e n i j
read_whole s Nothing n i j h = inl (h, refl)
read_whole s (OneOf set) n i j h = inr (n, (refl, h.0, h.1), eq-eqb n n refl)
read_whole s End n i j h = absurd (no h.1) where
  no : None ≡ Some i → ⊥
  no e = cc
read_whole s (Sequence a b) n i j h = elim (read_whole s b (n + size a) h.0 j h.2) [
  | inr y ↦
      inr (
        y.0,
        inr (h.0, h.1, y.1),
        or_left (last false b (n + size a) y.0) (empty false b && last false a n y.0) y.2,
      )
  | inl y ↦ elim (read_whole s a n i h.0 h.1) [
    | inl x ↦ inl (x.0 ∙ y.0, and_from (empty false a) (empty false b) x.1 y.1)
    | inr x ↦
        inr (
          x.0,
          inl (subst (λ (m : ℕ). Reaches s a n i m x.0) y.0 x.1),
          or_right (last false b (n + size a) x.0) (empty false b && last false a n x.0)
              (and_from (empty false b) (last false a n x.0) y.1 x.2),
        )
  ]
]
read_whole s (Choice a b) n i j (inl h) = elim (read_whole s a n i j h) [
  | inl x ↦ inl (x.0, or_left (empty false a) (empty false b) x.1)
  | inr x ↦ inr (x.0, inl x.1, or_left (last false a n x.0) (last false b (n + size a) x.0) x.2)
]
read_whole s (Choice a b) n i j (inr h) = elim (read_whole s b (n + size a) i j h) [
  | inl x ↦ inl (x.0, or_right (empty false a) (empty false b) x.1)
  | inr x ↦ inr (x.0, inr x.1, or_right (last false a n x.0) (last false b (n + size a) x.0) x.2)
]
read_whole s (Star a) n i j h = elim (chain_whole s a n (λ i j r. read_whole s a n i j r) i j h) [
  | inl same ↦ inl (same, refl)
  | inr x ↦ inr x
]
read_whole s (Plus a) n i j h =
    elim (chain_whole s a n (λ i j r. read_whole s a n i j r) h.0 j h.2) [
      | inr x ↦ inr (x.0, (x.1.0, step h.1 x.1.1, x.1.2), x.2)
      | inl same ↦ elim (read_whole s a n i h.0 h.1) [
        | inl x ↦ inl (x.0 ∙ same, x.1)
        | inr x ↦ inr (x.0, (i, done, subst (λ (m : ℕ). Reaches s a n i m x.0) same x.1), x.2)
      ]
    ]
read_whole s (Optional a) n i j (inl h) = inl (h, refl)
read_whole s (Optional a) n i j (inr h) = elim (read_whole s a n i j h) [
  | inl x ↦ inl (x.0, refl)
  | inr x ↦ inr (x.0, x.1, x.2)
]

-- what reads nothing is empty
pub read_nothing : (s : List ℕ) (e : Expression) (i : ℕ) → Reading s None e i i
    → empty false e ≡ true
read_nothing s e i h = elim (read_whole s e 0 i i h) [
  | inl x ↦ x.1
  | inr x ↦ absurd (omega (arith, (Reaches_is s e 0 i i x.0 x.1).some))
]

-- ---- the first character

-- the atom at a place reads the character at the place k of the text
pub record ReadBy (s : List ℕ) (e : Expression) (n p k : ℕ) : Type 0 where
  pub character : ℕ
  pub there : slice_get s k ≡ Some character
  pub read : reads e n p character ≡ true

-- an atom of the first part reads
by_left : (s : List ℕ) (a b : Expression) (n p k : ℕ) → Within a n p → ReadBy s (Choice a b) n p k
    → ReadBy s a n p k
by_left s a b n p k w r = record {
  character = r.character;
  there = r.there;
  read = elim (or_cases (reads a n p r.character) (reads b (n + size a) p r.character) r.read) [
    | inl x ↦ x
    | inr y ↦
        let v = reads_within b (n + size a) p r.character y in absurd (omega (arith, w.high, v.low))
  ];
}

-- an atom of the second part reads
by_right : (s : List ℕ) (a b : Expression) (n p k : ℕ) → Within b (n + size a) p
    → ReadBy s (Choice a b) n p k → ReadBy s b (n + size a) p k
by_right s a b n p k w r = record {
  character = r.character;
  there = r.there;
  read = elim (or_cases (reads a n p r.character) (reads b (n + size a) p r.character) r.read) [
    | inl x ↦ let v = reads_within a n p r.character x in absurd (omega (arith, v.high, w.low))
    | inr y ↦ y
  ];
}

-- atoms read alike in a sequence
of_choice : (s : List ℕ) (a b : Expression) (n p k : ℕ) → ReadBy s (Sequence a b) n p k
    → ReadBy s (Choice a b) n p k
of_choice s a b n p k r = record { character = r.character; there = r.there; read = r.read }

-- a first atom that reads is reached
pub first_reached : (s : List ℕ) (e : Expression) (n i p : ℕ) → first e n p ≡ true
    → ReadBy s e n p i → Reaches s e n i (i + 1) p
first_reached s Nothing n i p h r = absurd cc
first_reached s (OneOf set) n i p h r =
    let both = and_parts (p == n) (contains set r.character) r.read in
    (eqb-true p n h, refl, record { character = r.character; there = r.there; inside = both.1 })
first_reached s End n i p h r = absurd cc
first_reached s (Sequence a b) n i p h r =
    elim (or_cases (first a n p) (empty false a && first b (n + size a) p) h) [
      | inl x ↦
          inl (first_reached s a n i p x
          (by_left s a b n p i (first_within a n p x) (of_choice s a b n p i r)))
      | inr y ↦ let both = and_parts (empty false a) (first b (n + size a) p) y in
          inr (
            i,
            empty_reads s false None a i (λ e. absurd cc) both.0,
            first_reached s b (n + size a) i p both.1
                (by_right s a b n p i (first_within b (n + size a) p both.1)
                (of_choice s a b n p i r)),
          )
    ]
first_reached s (Choice a b) n i p h r = elim (or_cases (first a n p) (first b (n + size a) p) h) [
  | inl x ↦ inl (first_reached s a n i p x (by_left s a b n p i (first_within a n p x) r))
  | inr y ↦
      inr (first_reached s b (n + size a) i p y
      (by_right s a b n p i (first_within b (n + size a) p y) r))
]
first_reached s (Star a) n i p h r = (
  i,
  done,
  first_reached s a n i p h
      (record { character = r.character; there = r.there; read = r.read }),
)
first_reached s (Plus a) n i p h r = (
  i,
  done,
  first_reached s a n i p h
      (record { character = r.character; there = r.there; read = r.read }),
)
first_reached s (Optional a) n i p h r =
    first_reached s a n i p h (record { character = r.character; there = r.there; read = r.read })

-- what is reached by one character is a first atom
pub reached_first : (s : List ℕ) (e : Expression) (n i j p : ℕ) → j ≡ i + 1 → Reaches s e n i j p
    → first e n p ≡ true
reached_first s Nothing n i j p one h = absurd h
reached_first s (OneOf set) n i j p one h = eq-eqb p n h.0
reached_first s End n i j p one h = absurd h
reached_first s (Sequence a b) n i j p one (inl h) =
    or_left (first a n p) (empty false a && first b (n + size a) p)
    (reached_first s a n i j p one h)
reached_first s (Sequence a b) n i j p one (inr h) =
    let le = Reading_le s None a i h.0 h.1 in
    let lt = (Reaches_is s b (n + size a) h.0 j p h.2).some in
    let here : h.0 ≡ i = omega arith in
    let none = read_nothing s a i (subst (λ (k : ℕ). Reading s None a i k) here h.1) in
    let next = reached_first s b (n + size a) h.0 j p (omega arith) h.2 in
    or_right (first a n p) (empty false a && first b (n + size a) p)
    (and_from (empty false a) (first b (n + size a) p) none next)
reached_first s (Choice a b) n i j p one (inl h) =
    or_left (first a n p) (first b (n + size a) p) (reached_first s a n i j p one h)
reached_first s (Choice a b) n i j p one (inr h) =
    or_right (first a n p) (first b (n + size a) p) (reached_first s b (n + size a) i j p one h)
reached_first s (Star a) n i j p one h =
    let le = chain_le (Reading_le s None a) i h.0 h.1 in
    let lt = (Reaches_is s a n h.0 j p h.2).some in
    reached_first s a n h.0 j p (omega arith) h.2
reached_first s (Plus a) n i j p one h =
    let le = chain_le (Reading_le s None a) i h.0 h.1 in
    let lt = (Reaches_is s a n h.0 j p h.2).some in
    reached_first s a n h.0 j p (omega arith) h.2
reached_first s (Optional a) n i j p one h = reached_first s a n i j p one h

-- what is reached reads its character
pub reached_read : (s : List ℕ) (e : Expression) (n i j p k : ℕ) → j ≡ k + 1 → Reaches s e n i j p
    → ReadBy s e n p k
reached_read s Nothing n i j p k one h = absurd h
reached_read s (OneOf set) n i j p k one h =
    let here : i ≡ k = omega (arith, h.1) in
    record {
      character = h.2.character;
      there = ap (slice_get s) (sym here) ∙ h.2.there;
      read = and_from (p == n) (contains set h.2.character) (eq-eqb p n h.0) h.2.inside;
    }
reached_read s End n i j p k one h = absurd h
reached_read s (Sequence a b) n i j p k one (inl h) = let r = reached_read s a n i j p k one h in
    record {
      character = r.character;
      there = r.there;
      read = or_left (reads a n p r.character) (reads b (n + size a) p r.character) r.read;
    }
reached_read s (Sequence a b) n i j p k one (inr h) =
    let r = reached_read s b (n + size a) h.0 j p k one h.2 in
    record {
      character = r.character;
      there = r.there;
      read = or_right (reads a n p r.character) (reads b (n + size a) p r.character) r.read;
    }
reached_read s (Choice a b) n i j p k one (inl h) = let r = reached_read s a n i j p k one h in
    record {
      character = r.character;
      there = r.there;
      read = or_left (reads a n p r.character) (reads b (n + size a) p r.character) r.read;
    }
reached_read s (Choice a b) n i j p k one (inr h) =
    let r = reached_read s b (n + size a) i j p k one h in
    record {
      character = r.character;
      there = r.there;
      read = or_right (reads a n p r.character) (reads b (n + size a) p r.character) r.read;
    }
reached_read s (Star a) n i j p k one h = let r = reached_read s a n h.0 j p k one h.2 in
    record { character = r.character; there = r.there; read = r.read }
reached_read s (Plus a) n i j p k one h = let r = reached_read s a n h.0 j p k one h.2 in
    record { character = r.character; there = r.there; read = r.read }
reached_read s (Optional a) n i j p k one h = let r = reached_read s a n i j p k one h in
    record { character = r.character; there = r.there; read = r.read }

-- ---- one character more

-- the atom at the place q was reached behind one at p
pub record Behind (s : List ℕ) (e : Expression) (n i k q : ℕ) : Type 0 where
  pub place : ℕ
  pub reached : Reaches s e n i k place
  pub next : follow e n place q ≡ true

-- behind a chain, the last part of the chain was reached
behind_chain : (s : List ℕ) (a : Expression) (n i k q : ℕ) → i < k → first a n q ≡ true
    → Chain (Reading s None a) i k
    → (p : ℕ) × Reaches s (Star a) n i k p
    × ((follow a n p q || (last false a n p && first a n q)) ≡ true)
behind_chain s a n i k q lt f c = elim (chain_whole s a n (λ i j r. read_whole s a n i j r) i k c) [
  | inl same ↦ absurd (omega arith)
  | inr x ↦ (
    x.0,
    x.1,
    or_right (follow a n x.0 q) (last false a n x.0 && first a n q)
        (and_from (last false a n x.0) (first a n q) x.2 f),
  )
]

-- what a repetition reaches by one character more follows what it reached
behind_repeated : (s : List ℕ) (a : Expression) (n i j q k : ℕ) → j ≡ k + 1 → i < k
    → ((m : ℕ) → m < k → Reaches s a n m j q → Behind s a n m k q) → Reaches s (Star a) n i j q
    → (p : ℕ) × Reaches s (Star a) n i k p
    × ((follow a n p q || (last false a n p && first a n q)) ≡ true)
behind_repeated s a n i j q k one lt inside h = elim (cases_lt h.0 k) [
  | inl before ↦ let x = inside h.0 before h.2 in (
    x.place,
    (h.0, h.1, x.reached),
    or_left (follow a n x.place q) (last false a n x.place && first a n q) x.next,
  )
  | inr le ↦ let less = (Reaches_is s a n h.0 j q h.2).some in
      let here : h.0 ≡ k = omega arith in
      behind_chain s a n i k q lt (reached_first s a n h.0 j q (omega arith) h.2)
      (subst (λ (m : ℕ). Chain (Reading s None a) i m) here h.1)
]

-- what is reached by one character more follows what was reached
pub reached_behind : (s : List ℕ) (e : Expression) (n i j q k : ℕ) → j ≡ k + 1 → i < k
    → Reaches s e n i j q → Behind s e n i k q
reached_behind s Nothing n i j q k one lt h = absurd h
reached_behind s (OneOf set) n i j q k one lt h = absurd (omega (arith, h.1))
reached_behind s End n i j q k one lt h = absurd h
reached_behind s (Sequence a b) n i j q k one lt (inl h) =
    let x = reached_behind s a n i j q k one lt h in
    record {
      place = x.place;
      reached = inl x.reached;
      next = or_left (follow a n x.place q || follow b (n + size a) x.place q)
          (last false a n x.place && first b (n + size a) q)
          (or_left (follow a n x.place q) (follow b (n + size a) x.place q) x.next);
    }
reached_behind s (Sequence a b) n i j q k one lt (inr h) = elim (cases_lt h.0 k) [
  | inl before ↦ let x = reached_behind s b (n + size a) h.0 j q k one before h.2 in
      record {
        place = x.place;
        reached = inr (h.0, h.1, x.reached);
        next = or_left (follow a n x.place q || follow b (n + size a) x.place q)
            (last false a n x.place && first b (n + size a) q)
            (or_right (follow a n x.place q) (follow b (n + size a) x.place q) x.next);
      }
  | inr le ↦ let less = (Reaches_is s b (n + size a) h.0 j q h.2).some in
      let here : h.0 ≡ k = omega arith in
      let f = reached_first s b (n + size a) h.0 j q (omega arith) h.2 in
      elim (read_whole s a n i h.0 h.1) [
        | inl x ↦ absurd (omega (arith, x.0))
        | inr x ↦
            record {
              place = x.0;
              reached = inl (subst (λ (m : ℕ). Reaches s a n i m x.0) here x.1);
              next = or_right (follow a n x.0 q || follow b (n + size a) x.0 q)
                  (last false a n x.0 && first b (n + size a) q)
                  (and_from (last false a n x.0) (first b (n + size a) q) x.2 f);
            }
      ]
]
reached_behind s (Choice a b) n i j q k one lt (inl h) =
    let x = reached_behind s a n i j q k one lt h in
    record {
      place = x.place;
      reached = inl x.reached;
      next = or_left (follow a n x.place q) (follow b (n + size a) x.place q) x.next;
    }
reached_behind s (Choice a b) n i j q k one lt (inr h) =
    let x = reached_behind s b (n + size a) i j q k one lt h in
    record {
      place = x.place;
      reached = inr x.reached;
      next = or_right (follow a n x.place q) (follow b (n + size a) x.place q) x.next;
    }
reached_behind s (Star a) n i j q k one lt h =
    let x = behind_repeated s a n i j q k one lt
    (λ m less r. reached_behind s a n m j q k one less r) h in
    record { place = x.0; reached = x.1; next = x.2 }
reached_behind s (Plus a) n i j q k one lt h =
    let x = behind_repeated s a n i j q k one lt
    (λ m less r. reached_behind s a n m j q k one less r) h in
    record { place = x.0; reached = x.1; next = x.2 }
reached_behind s (Optional a) n i j q k one lt h = let x = reached_behind s a n i j q k one lt h in
    record { place = x.place; reached = x.reached; next = x.next }

-- an atom that can follow is reached with one character more
repeated_follow : (s : List ℕ) (a : Expression) (n i k p q : ℕ)
    → ((m : ℕ) → Reaches s a n m k p → follow a n p q ≡ true → Reaches s a n m (k + 1) q)
    → Reaches s (Star a) n i k p → (follow a n p q || (last false a n p && first a n q)) ≡ true
    → ReadBy s a n q k → Reaches s (Star a) n i (k + 1) q
repeated_follow s a n i k p q inside h f r =
    elim (or_cases (follow a n p q) (last false a n p && first a n q) f) [
      | inl x ↦ (h.0, h.1, inside h.0 h.2 x)
      | inr y ↦ let both = and_parts (last false a n p) (first a n q) y in
          let part = last_reads s false None a n h.0 k p (λ e. absurd cc) h.2 both.0 in
          (k, chain_end i h.0 k h.1 part, first_reached s a n k q both.1 r)
    ]

-- what follows and reads is reached
pub follow_reached : (s : List ℕ) (e : Expression) (n i k p q : ℕ) → Reaches s e n i k p
    → follow e n p q ≡ true → ReadBy s e n q k → Reaches s e n i (k + 1) q
follow_reached s Nothing n i k p q h f r = absurd h
follow_reached s (OneOf set) n i k p q h f r = absurd cc
follow_reached s End n i k p q h f r = absurd h
follow_reached s (Sequence a b) n i k p q (inl h) f r =
    let at = Reaches_is s a n i k p h in
    elim (or_cases (follow a n p q || follow b (n + size a) p q)
    (last false a n p && first b (n + size a) q) f) [
      | inl x ↦ elim (or_cases (follow a n p q) (follow b (n + size a) p q) x) [
        | inl y ↦
            inl (follow_reached s a n i k p q h y
            (by_left s a b n q k (follow_within a n p q y).1 (of_choice s a b n q k r)))
        | inr y ↦
            let w = (follow_within b (n + size a) p q y).0 in absurd (omega (arith, at.high, w.low))
      ]
      | inr y ↦ let both = and_parts (last false a n p) (first b (n + size a) q) y in
          inr (
            k,
            last_reads s false None a n i k p (λ e. absurd cc) h both.0,
            first_reached s b (n + size a) k q both.1
                (by_right s a b n q k (first_within b (n + size a) q both.1)
                (of_choice s a b n q k r)),
          )
    ]
follow_reached s (Sequence a b) n i k p q (inr h) f r =
    let at = Reaches_is s b (n + size a) h.0 k p h.2 in
    elim (or_cases (follow a n p q || follow b (n + size a) p q)
    (last false a n p && first b (n + size a) q) f) [
      | inl x ↦ elim (or_cases (follow a n p q) (follow b (n + size a) p q) x) [
        | inl y ↦ let w = (follow_within a n p q y).0 in absurd (omega (arith, at.low, w.high))
        | inr y ↦
            inr (
              h.0,
              h.1,
              follow_reached s b (n + size a) h.0 k p q h.2 y
                  (by_right s a b n q k (follow_within b (n + size a) p q y).1
                  (of_choice s a b n q k r)),
            )
      ]
      | inr y ↦ let both = and_parts (last false a n p) (first b (n + size a) q) y in
          let w = last_within false a n p both.0 in absurd (omega (arith, at.low, w.high))
    ]
follow_reached s (Choice a b) n i k p q (inl h) f r =
    let at = Reaches_is s a n i k p h in
    elim (or_cases (follow a n p q) (follow b (n + size a) p q) f) [
      | inl y ↦
          inl (follow_reached s a n i k p q h y (by_left s a b n q k (follow_within a n p q y).1 r))
      | inr y ↦
          let w = (follow_within b (n + size a) p q y).0 in absurd (omega (arith, at.high, w.low))
    ]
follow_reached s (Choice a b) n i k p q (inr h) f r =
    let at = Reaches_is s b (n + size a) i k p h in
    elim (or_cases (follow a n p q) (follow b (n + size a) p q) f) [
      | inl y ↦ let w = (follow_within a n p q y).0 in absurd (omega (arith, at.low, w.high))
      | inr y ↦
          inr (follow_reached s b (n + size a) i k p q h y
          (by_right s a b n q k (follow_within b (n + size a) p q y).1 r))
    ]
follow_reached s (Star a) n i k p q h f r =
    let by : ReadBy s a n q k =
    record { character = r.character; there = r.there; read = r.read } in
    repeated_follow s a n i k p q (λ m x y. follow_reached s a n m k p q x y by) h f by
follow_reached s (Plus a) n i k p q h f r =
    let by : ReadBy s a n q k =
    record { character = r.character; there = r.there; read = r.read } in
    repeated_follow s a n i k p q (λ m x y. follow_reached s a n m k p q x y by) h f by
follow_reached s (Optional a) n i k p q h f r =
    follow_reached s a n i k p q h f (record {
      character = r.character;
      there = r.there;
      read = r.read;
    })
