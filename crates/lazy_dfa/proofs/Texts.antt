-- A condition on a whole text, and on a text with one character more.
use Rattle.std.proofs.Common.{◌≡◌, ℕ, zero, suc, ◌+◌, ◌-◌, ◌≤◌, ◌<◌, true, false, List, [], ◌∷◌}
use Rattle.std.proofs.Common.{◌++◌, length, Some, None, ◌⊎◌, inl, inr, refl, sym, subst, ◌∙◌, arith}
use Rattle.std.proofs.Common.{length-append}
use Rattle.std.specs.Prelude.{slice_get, ◌&&◌}
use Rattle.std.proofs.lemmas.Bool.{cases_lt, or_cases, and_parts, and_from, or_left, or_right}
use Rattle.std.proofs.lemmas.List.{nil_from_length}
use Rattle.lazy_dfa.specs.Expression.{Expression, Nothing, OneOf, End, Sequence, Choice, Star, Plus}
use Rattle.lazy_dfa.specs.Expression.{Optional, size}
use Rattle.lazy_dfa.specs.Meaning.{Chain, done, step, Reading, holds, early, Reaches, after, front}
use Rattle.lazy_dfa.specs.Positions.{empty, first, last, follow, reads}
use Rattle.lazy_dfa.specs.MeaningLaws.{Reaches_is, Agree, Reading_agree, Reaches_agree}
use Rattle.lazy_dfa.proofs.Reaching.{Reading_any, empty_reads, last_reads, Whole, read_whole}
use Rattle.lazy_dfa.proofs.Reaching.{first_reached, reached_first, reached_read, reached_behind}
use Rattle.lazy_dfa.proofs.Reaching.{follow_reached}

-- ---- a text that another begins with

-- a front has the same characters
slice_get-front : (u w : List ℕ) (k : ℕ) → k < length u → slice_get u k ≡ slice_get (u ++ w) k
slice_get-front [] w k lt = absurd (omega arith)
slice_get-front (c ∷ u) w zero lt = refl
slice_get-front (c ∷ u) w (suc k) lt = slice_get-front u w k (omega arith)

-- the character behind a front
slice_get-seam : (u : List ℕ) (c : ℕ) (w : List ℕ) → slice_get (u ++ c ∷ w) (length u) ≡ Some c
slice_get-seam [] c w = refl
slice_get-seam (d ∷ u) c w = slice_get-seam u c w

-- a text agrees with a longer one
longer : (u w : List ℕ) → Agree u (u ++ w) (length u)
longer u w = record { same = slice_get-front u w }

-- a text agrees with its front
shorter : (u w : List ℕ) → Agree (u ++ w) u (length u)
shorter u w = record { same = λ k lt. sym (slice_get-front u w k lt) }

-- ---- readings that may pass a `$` at the text's end

-- what is empty is so at the end
pub empty_more : (e : Expression) → empty false e ≡ true → empty true e ≡ true
empty_more Nothing h = refl
empty_more (OneOf set) h = absurd cc
empty_more End h = refl
empty_more (Sequence a b) h = let both = and_parts (empty false a) (empty false b) h in
    and_from (empty true a) (empty true b) (empty_more a both.0) (empty_more b both.1)
empty_more (Choice a b) h = elim (or_cases (empty false a) (empty false b) h) [
  | inl x ↦ or_left (empty true a) (empty true b) (empty_more a x)
  | inr y ↦ or_right (empty true a) (empty true b) (empty_more b y)
]
empty_more (Star a) h = refl
empty_more (Plus a) h = empty_more a h
empty_more (Optional a) h = refl

-- last atoms are so at the end
pub last_more : (e : Expression) (n p : ℕ) → last false e n p ≡ true → last true e n p ≡ true
last_more Nothing n p h = absurd cc
last_more (OneOf set) n p h = h
last_more End n p h = absurd cc
last_more (Sequence a b) n p h =
    elim (or_cases (last false b (n + size a) p) (empty false b && last false a n p) h) [
      | inl x ↦
          or_left (last true b (n + size a) p) (empty true b && last true a n p)
          (last_more b (n + size a) p x)
      | inr y ↦ let both = and_parts (empty false b) (last false a n p) y in
          or_right (last true b (n + size a) p) (empty true b && last true a n p)
          (and_from (empty true b) (last true a n p) (empty_more b both.0) (last_more a n p both.1))
    ]
last_more (Choice a b) n p h = elim (or_cases (last false a n p) (last false b (n + size a) p) h) [
  | inl x ↦ or_left (last true a n p) (last true b (n + size a) p) (last_more a n p x)
  | inr y ↦ or_right (last true a n p) (last true b (n + size a) p) (last_more b (n + size a) p y)
]
last_more (Star a) n p h = last_more a n p h
last_more (Plus a) n p h = last_more a n p h
last_more (Optional a) n p h = last_more a n p h

-- it passes no `$`, or reads to the text's end
abbrev pub Split : List ℕ → Expression → ℕ → ℕ → ℕ → Type 0
Split s e n i j = Reading s None e i j ⊎ ((j ≡ length s) × Whole s true e n i (length s))

-- what was read whole is so at the end
whole_more : (s : List ℕ) (e : Expression) (n i j : ℕ) → Whole s false e n i j
    → Whole s true e n i j
whole_more s e n i j (inl x) = inl (x.0, empty_more e x.1)
whole_more s e n i j (inr x) = inr (x.0, x.1, last_more e n x.0 x.2)

-- a part that begins at the text's end reads nothing
nothing_left : (s : List ℕ) (e : Expression) (n j : ℕ) → Split s e n (length s) j → (j ≡ length s)
    × (empty true e ≡ true)
nothing_left s e n j (inl r) = elim (read_whole s e n (length s) j r) [
  | inl x ↦ (sym x.0, empty_more e x.1)
  | inr x ↦
      let at = Reaches_is s e n (length s) j x.0 x.1 in absurd (omega (arith, at.some, at.inside))
]
nothing_left s e n j (inr h) = elim h.1 [
  | inl x ↦ (h.0, x.1)
  | inr x ↦ absurd (omega (arith, (Reaches_is s e n (length s) (length s) x.0 x.1).some))
]

-- a chain that reads with a `$` reads without, or up to the end
chain_split : (s : List ℕ) (a : Expression) (n : ℕ)
    → ((i j : ℕ) → Reading s (Some (length s)) a i j → Split s a n i j)
    → (i j : ℕ) → Chain (Reading s (Some (length s)) a) i j
    → Chain (Reading s None a) i j
    ⊎ ((j ≡ length s) × ((i ≡ length s)
    ⊎ ((p : ℕ) × Reaches s (Star a) n i (length s) p × (last true a n p ≡ true))))
chain_split s a n part i j done = inl done
chain_split s a n part i j (step {k = k} r c) = elim (part i k r) [
  | inl x ↦ elim (chain_split s a n part k j c) [
    | inl y ↦ inl (step x y)
    | inr y ↦ elim y.1 [
      | inr z ↦ inr (y.0, inr (z.0, (z.1.0, step x z.1.1, z.1.2), z.2))
      | inl here ↦ elim (whole_more s a n i k (read_whole s a n i k x)) [
        | inl w ↦ inr (y.0, inl (w.0 ∙ here))
        | inr w ↦
            inr (y.0, inr (w.0, (i, done, subst (λ (m : ℕ). Reaches s a n i m w.0) here w.1), w.2))
      ]
    ]
  ]
  | inr x ↦ elim x.1 [
    | inl w ↦ (inr (at_end k j x.0 c, inl w.0))
    | inr w ↦ inr (at_end k j x.0 c, inr (w.0, (i, done, w.1), w.2))
  ]
] where
  at_end : (k j : ℕ) → k ≡ length s → Chain (Reading s (Some (length s)) a) k j → j ≡ length s
  at_end k j e done = e
  at_end k j e (step {k = m} r c) =
      at_end m j (nothing_left s a n m (subst (λ (x : ℕ). Split s a n x m) e (part k m r))).0 c

-- what reads with a `$` reads without, or up to the end
pub read_split : (s : List ℕ) (e : Expression) (n i j : ℕ) → Reading s (Some (length s)) e i j
    → Split s e n i j
read_split s Nothing n i j h = inl h
read_split s (OneOf set) n i j h = inl h
read_split s End n i j h =
    let here : length s ≡ i = some_is h.1 in
    inr (sym h.0 ∙ sym here, inl (sym here, refl)) where
      some_is : {x y : ℕ} → Some x ≡ Some y → x ≡ y
      some_is e = cc
read_split s (Sequence a b) n i j h = elim (read_split s a n i h.0 h.1) [
  | inl x ↦ elim (read_split s b (n + size a) h.0 j h.2) [
    | inl y ↦ inl (h.0, x, y)
    | inr y ↦ elim y.1 [
      | inr z ↦
          inr (
            y.0,
            inr (
              z.0,
              inr (h.0, x, z.1),
              or_left (last true b (n + size a) z.0) (empty true b && last true a n z.0) z.2,
            ),
          )
      | inl z ↦ elim (whole_more s a n i h.0 (read_whole s a n i h.0 x)) [
        | inl w ↦ inr (y.0, inl (w.0 ∙ z.0, and_from (empty true a) (empty true b) w.1 z.1))
        | inr w ↦
            inr (
              y.0,
              inr (
                w.0,
                inl (subst (λ (m : ℕ). Reaches s a n i m w.0) z.0 w.1),
                or_right (last true b (n + size a) w.0) (empty true b && last true a n w.0)
                    (and_from (empty true b) (last true a n w.0) z.1 w.2),
              ),
            )
      ]
    ]
  ]
  | inr x ↦
      let rest =
      nothing_left s b (n + size a) j
      (subst (λ (m : ℕ). Split s b (n + size a) m j) x.0
      (read_split s b (n + size a) h.0 j h.2)) in
      elim x.1 [
        | inl w ↦ inr (rest.0, inl (w.0, and_from (empty true a) (empty true b) w.1 rest.1))
        | inr w ↦
            inr (
              rest.0,
              inr (
                w.0,
                inl w.1,
                or_right (last true b (n + size a) w.0) (empty true b && last true a n w.0)
                    (and_from (empty true b) (last true a n w.0) rest.1 w.2),
              ),
            )
      ]
]
read_split s (Choice a b) n i j (inl h) = elim (read_split s a n i j h) [
  | inl x ↦ inl (inl x)
  | inr x ↦ elim x.1 [
    | inl w ↦ inr (x.0, inl (w.0, or_left (empty true a) (empty true b) w.1))
    | inr w ↦
        inr (
          x.0,
          inr (
            w.0,
            inl w.1,
            or_left (last true a n w.0) (last true b (n + size a) w.0) w.2,
          ),
        )
  ]
]
read_split s (Choice a b) n i j (inr h) = elim (read_split s b (n + size a) i j h) [
  | inl x ↦ inl (inr x)
  | inr x ↦ elim x.1 [
    | inl w ↦ inr (x.0, inl (w.0, or_right (empty true a) (empty true b) w.1))
    | inr w ↦
        inr (
          x.0,
          inr (
            w.0,
            inr w.1,
            or_right (last true a n w.0) (last true b (n + size a) w.0) w.2,
          ),
        )
  ]
]
read_split s (Star a) n i j h = elim (chain_split s a n (λ i j r. read_split s a n i j r) i j h) [
  | inl x ↦ inl x
  | inr x ↦ elim x.1 [
    | inl w ↦ inr (x.0, inl (w, refl))
    | inr w ↦ inr (x.0, inr w)
  ]
]
read_split s (Plus a) n i j h = elim (read_split s a n i h.0 h.1) [
  | inl x ↦ elim (chain_split s a n (λ i j r. read_split s a n i j r) h.0 j h.2) [
    | inl y ↦ inl (h.0, x, y)
    | inr y ↦ elim y.1 [
      | inr z ↦ inr (y.0, inr (z.0, (z.1.0, step x z.1.1, z.1.2), z.2))
      | inl here ↦ elim (whole_more s a n i h.0 (read_whole s a n i h.0 x)) [
        | inl w ↦ inr (y.0, inl (w.0 ∙ here, w.1))
        | inr w ↦
            inr (y.0, inr (w.0, (i, done, subst (λ (m : ℕ). Reaches s a n i m w.0) here w.1), w.2))
      ]
    ]
  ]
  | inr x ↦
      let rest : j ≡ length s =
      elim (chain_split s a n (λ i j r. read_split s a n i j r) h.0 j h.2) [
        | inl y ↦ chain_none h.0 j x.0 y
        | inr y ↦ y.0
      ] in
      elim x.1 [
        | inl w ↦ inr (rest, inl w)
        | inr w ↦ inr (rest, inr (w.0, (i, done, w.1), w.2))
      ]
] where
  chain_none : (k j : ℕ) → k ≡ length s → Chain (Reading s None a) k j → j ≡ length s
  chain_none k j e done = e
  chain_none k j e (step {k = m} r c) =
      chain_none m j (nothing_left s a n m (inl (subst (λ (x : ℕ). Reading s None a x m) e r))).0 c
read_split s (Optional a) n i j (inl h) = inl (inl h)
read_split s (Optional a) n i j (inr h) = elim (read_split s a n i j h) [
  | inl x ↦ inl (inr x)
  | inr x ↦ elim x.1 [
    | inl w ↦ inr (x.0, inl (w.0, refl))
    | inr w ↦ inr (x.0, inr (w.0, w.1, w.2))
  ]
]

-- ---- a condition on a whole text

-- the atoms' places with which the condition holds where the text ends here
pub record HoldsBy (c : Expression) (u : List ℕ) (p : ℕ) : Type 0 where
  pub reached : after c u p
  pub ending : last true c 0 p ≡ true

-- what holds early holds
pub holds_early : (c : Expression) (u : List ℕ) → early c u → holds c u
holds_early c u h = (h.0, Reading_any u (Some (length u)) c 0 h.0 h.1)

-- where a last atom is reached at the end, it holds
pub holds_by : (c : Expression) (u : List ℕ) (p : ℕ) → HoldsBy c u p → holds c u
holds_by c u p h = (
  length u,
  last_reads u true (Some (length u)) c 0 0 (length u) p (λ e. refl) h.reached
      h.ending,
)

-- what is empty at the end holds on the empty text
pub holds_empty : (c : Expression) → empty true c ≡ true → holds c []
holds_empty c h = (0, empty_reads [] true (Some 0) c 0 (λ e. refl) h)

-- why a condition holds
pub holds_cases : (c : Expression) (u : List ℕ) → holds c u → early c u
    ⊎ (((u ≡ []) × (empty true c ≡ true)) ⊎ ((p : ℕ) × HoldsBy c u p))
holds_cases c u h = elim (read_split u c 0 0 h.0 h.1) [
  | inl x ↦ inl (h.0, x)
  | inr x ↦ elim x.1 [
    | inl w ↦ inr (inl (nil_from_length u (sym w.0), w.1))
    | inr w ↦ inr (inr (w.0, record { reached = w.1; ending = w.2 }))
  ]
]

-- ---- early answers

-- what holds early holds so on longer texts
pub early_longer : (c : Expression) (u w : List ℕ) → early c u → early c (u ++ w)
early_longer c u w h = elim (cases_lt (length u) h.0) [
  | inr le ↦ (h.0, Reading_agree u (u ++ w) (length u) (longer u w) c 0 h.0 le h.1)
  | inl lt ↦ elim (read_whole u c 0 0 h.0 h.1) [
    | inl x ↦ absurd (omega (arith, x.0))
    | inr x ↦ absurd (omega (arith, (Reaches_is u c 0 0 h.0 x.0 x.1).inside))
  ]
]

-- what is reached later was on the way before
reached_before : (s : List ℕ) (e : Expression) (n i k m j q : ℕ) → j ≡ k + m → i < k
    → Reaches s e n i j q → (p : ℕ) × Reaches s e n i k p
reached_before s e n i k zero j q same lt h =
    (q, subst (λ (x : ℕ). Reaches s e n i x q) (let x : j ≡ k = omega arith in x) h)
reached_before s e n i k (suc m) j q same lt h =
    let b = reached_behind s e n i j q (k + m) (omega arith) (omega arith) h in
    reached_before s e n i k m (k + m) b.place refl lt b.reached

-- what is reached from a longer text makes a front
reached_front : (c : Expression) (u w : List ℕ) (j q : ℕ) → length u ≤ j
    → Reaches (u ++ w) c 0 0 j q → front c u
reached_front c [] w j q le h = inl refl
reached_front c (d ∷ u) w j q le h =
    let b = reached_before ((d ∷ u) ++ w) c 0 0 (length (d ∷ u)) (j - length (d ∷ u)) j q
    (omega arith) (omega arith) h in
    inr (
      b.0,
      Reaches_agree ((d ∷ u) ++ w) (d ∷ u) (length (d ∷ u)) (shorter (d ∷ u) w) c 0 0
          (length (d ∷ u)) b.0 (omega arith) b.1,
    )

-- a front of a front is one
pub front_shorter : (c : Expression) (u w : List ℕ) → front c (u ++ w) → front c u
front_shorter c [] w h = inl refl
front_shorter c (d ∷ u) w (inl h) = absurd cc
front_shorter c (d ∷ u) w (inr h) =
    reached_front c (d ∷ u) w (length ((d ∷ u) ++ w)) h.0 (omega (arith, length-append (d ∷ u) w))
    h.1

-- what holds past a text: it is decided there, or the text is a front
pub holds_longer : (c : Expression) (u w : List ℕ) → holds c (u ++ w) → early c u ⊎ front c u
holds_longer c u w h = elim (holds_cases c (u ++ w) h) [
  | inl x ↦ elim (cases_lt (length u) x.0) [
    | inr le ↦ inl (x.0, Reading_agree (u ++ w) u (length u) (shorter u w) c 0 x.0 le x.1)
    | inl lt ↦ elim (read_whole (u ++ w) c 0 0 x.0 x.1) [
      | inl y ↦ absurd (omega (arith, y.0))
      | inr y ↦ inr (reached_front c u w x.0 y.0 (omega arith) y.1)
    ]
  ]
  | inr x ↦ elim x [
    | inl y ↦ inr (no_longer u w y.0)
    | inr y ↦
        inr (reached_front c u w (length (u ++ w)) y.0 (omega (arith, length-append u w))
        y.1.reached)
  ]
] where
  no_longer : (u w : List ℕ) → u ++ w ≡ [] → front c u
  no_longer [] w e = inl refl
  no_longer (d ∷ u) w e = absurd cc

-- ---- one character more

-- a first atom that reads the first character
pub after_first : (c : Expression) (d q : ℕ) → (first c 0 q && reads c 0 q d) ≡ true
    → after c (d ∷ []) q
after_first c d q h = let both = and_parts (first c 0 q) (reads c 0 q d) h in
    first_reached (d ∷ []) c 0 0 q both.0 (record { character = d; there = refl; read = both.1 })

-- what reads the first character is a first atom
pub first_after : (c : Expression) (d q : ℕ) → after c (d ∷ []) q
    → (first c 0 q && reads c 0 q d) ≡ true
first_after c d q h =
    let r = reached_read (d ∷ []) c 0 0 1 q 0 (omega arith) h in
    let same : d ≡ r.character = some_is r.there in
    and_from (first c 0 q) (reads c 0 q d) (reached_first (d ∷ []) c 0 0 1 q (omega arith) h)
    (rw same r.read) where
      some_is : {x y : ℕ} → Some x ≡ Some y → x ≡ y
      some_is e = cc

-- one character more
length-end : (u : List ℕ) (d : ℕ) → length (u ++ d ∷ []) ≡ length u + 1
length-end u d = length-append u (d ∷ [])

-- what follows and reads one character more
pub after_follow : (c : Expression) (u : List ℕ) (d p q : ℕ) → after c u p
    → (follow c 0 p q && reads c 0 q d) ≡ true → after c (u ++ d ∷ []) q
after_follow c u d p q h f =
    let both = and_parts (follow c 0 p q) (reads c 0 q d) f in
    rw (length-end u d) (follow_reached (u ++ d ∷ []) c 0 0 (length u) p q
    (Reaches_agree u (u ++ d ∷ []) (length u) (longer u (d ∷ [])) c 0 0 (length u) p
    (omega arith) h)
    both.0 (record { character = d; there = slice_get-seam u d []; read = both.1 }))

-- what reads one character more follows
pub follow_after : (c : Expression) (u : List ℕ) (d q : ℕ) → 0 < length u → after c (u ++ d ∷ []) q
    → (p : ℕ) × after c u p × ((follow c 0 p q && reads c 0 q d) ≡ true)
follow_after c u d q some h =
    let b = reached_behind (u ++ d ∷ []) c 0 0 (length (u ++ d ∷ [])) q (length u) (length-end u d)
    some h in
    let r = reached_read (u ++ d ∷ []) c 0 0 (length (u ++ d ∷ [])) q (length u) (length-end u d)
    h in
    let same : d ≡ r.character = some_is (sym (slice_get-seam u d []) ∙ r.there) in (
      b.place,
      Reaches_agree (u ++ d ∷ []) u (length u) (shorter u (d ∷ [])) c 0 0 (length u) b.place
          (omega arith) b.reached,
      and_from (follow c 0 b.place q) (reads c 0 q d) b.next (rw same r.read),
    ) where
      some_is : {x y : ℕ} → Some x ≡ Some y → x ≡ y
      some_is e = cc

-- a place at which the condition is decided
pub record EarlyBy (c : Expression) (u : List ℕ) (p : ℕ) : Type 0 where
  pub reached : after c u p
  pub ending : last false c 0 p ≡ true

-- where a last atom is reached, it holds early
pub early_by : (c : Expression) (u : List ℕ) (p : ℕ) → EarlyBy c u p → early c u
early_by c u p h =
    (length u, last_reads u false None c 0 0 (length u) p (λ e. absurd cc) h.reached h.ending)

-- what is empty holds early
pub early_empty : (c : Expression) → empty false c ≡ true → early c []
early_empty c h = (0, empty_reads [] false None c 0 (λ e. absurd cc) h)

-- what holds early on the empty text is empty
pub empty_early : (c : Expression) → early c [] → empty false c ≡ true
empty_early c h = elim (read_whole [] c 0 0 h.0 h.1) [
  | inl x ↦ x.1
  | inr x ↦ let at = Reaches_is [] c 0 0 h.0 x.0 x.1 in absurd (omega (arith, at.some, at.inside))
]

-- what holds early with one character more
pub early_more : (c : Expression) (u : List ℕ) (d : ℕ) → early c (u ++ d ∷ []) → early c u
    ⊎ ((p : ℕ) × EarlyBy c (u ++ d ∷ []) p)
early_more c u d h = elim (read_whole (u ++ d ∷ []) c 0 0 h.0 h.1) [
  | inl x ↦
      inl (
        h.0,
        Reading_agree (u ++ d ∷ []) u (length u) (shorter u (d ∷ [])) c 0 h.0
            (omega (arith, x.0)) h.1,
      )
  | inr x ↦ elim (cases_lt (length u) h.0) [
    | inr le ↦
        inl (h.0, Reading_agree (u ++ d ∷ []) u (length u) (shorter u (d ∷ [])) c 0 h.0 le h.1)
    | inl lt ↦
        let at = Reaches_is (u ++ d ∷ []) c 0 0 h.0 x.0 x.1 in
        let here : h.0 ≡ length (u ++ d ∷ []) = omega (arith, at.inside, length-end u d) in
        inr (
          x.0,
          record {
            reached = subst (λ (m : ℕ). Reaches (u ++ d ∷ []) c 0 0 m x.0) here x.1;
            ending = x.2;
          },
        )
  ]
]

-- the places are the expression's
pub after_within : (c : Expression) (u : List ℕ) (p : ℕ) → after c u p → p < size c
after_within c u p h = omega (arith, (Reaches_is u c 0 0 (length u) p h).high)
