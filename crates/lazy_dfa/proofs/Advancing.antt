-- What the positions that a text reaches tell of it, and one character more.
use Rattle.std.proofs.Common.{◌≡◌, ℕ, ◌<◌, Bool, true, false, List, [], ◌∷◌, ◌++◌, length, Option}
use Rattle.std.proofs.Common.{Some, None, inl, inr, refl, sym, ap, subst, ◌∙◌, arith, length-append}
use Rattle.std.proofs.Common.{append_assoc, slice_index}
use Rattle.std.specs.Prelude.{◌&&◌}
use Rattle.std.proofs.lemmas.Bool.{cases_eq, and_parts, and_from, true≢false}
use Rattle.lazy_dfa.specs.Expression.{Expression}
use Rattle.lazy_dfa.specs.Meaning.{holds, early, after}
use Rattle.lazy_dfa.specs.Positions.{first, last, follow, reads}
use Rattle.lazy_dfa.specs.Compiled.{atom_reads}
use Rattle.lazy_dfa.specs.Machine.{Machine, IsFor}
use Rattle.lazy_dfa.specs.Sets.{has, any_below, Meet}
use Rattle.lazy_dfa.specs.Steps.{next_has, IsDecidedAt, HoldsAt}
use Rattle.lazy_dfa.specs.Stepping.{Decided}
use Rattle.lazy_dfa.specs.Progress.{IsReached}
use Rattle.lazy_dfa.proofs.Sets.{has-none, some_in, any_below-some, any_below-from}
use Rattle.lazy_dfa.specs.MeaningLaws.{Reaches_is}
use Rattle.lazy_dfa.proofs.Texts.{empty_more, last_more, holds_by, holds_empty, holds_cases}
use Rattle.lazy_dfa.proofs.Texts.{early_longer, after_first, first_after, after_follow}
use Rattle.lazy_dfa.proofs.Texts.{follow_after, early_by, early_empty, empty_early, early_more}
use Rattle.lazy_dfa.proofs.Texts.{after_within}

-- ---- lists from their end

-- a text as its front and its last character
pub snoc_of : (u : List ℕ) → 0 < length u → (v : List ℕ) × (d : ℕ) × (u ≡ v ++ d ∷ [])
snoc_of [] lt = absurd (omega arith)
snoc_of (c ∷ []) lt = ([], c, refl)
snoc_of (c ∷ (d ∷ u)) lt = let x = snoc_of (d ∷ u) (omega arith) in
    (c ∷ x.0, x.1, ap (λ l. c ∷ l) x.2)

-- equal texts have equal fronts
snoc_front : (x y : List ℕ) (a b : ℕ) → x ++ a ∷ [] ≡ y ++ b ∷ [] → x ≡ y
snoc_front [] [] a b e = refl
snoc_front [] (d ∷ y) a b e =
    let n = ap length e in absurd (omega (arith, n, length-append y (b ∷ [])))
snoc_front (c ∷ x) [] a b e =
    let n = ap length e in absurd (omega (arith, n, length-append x (a ∷ [])))
snoc_front (c ∷ x) (d ∷ y) a b e =
    let head : c ≡ d = cc in
    let tail : x ++ a ∷ [] ≡ y ++ b ∷ [] = cc in
    let rest = snoc_front x y a b tail in cc

-- a front of a text with one more character, but not all of it, is a front of the text
front_of : (u v w : List ℕ) (d : ℕ) → u ++ d ∷ [] ≡ v ++ w → 0 < length w → (r : List ℕ)
    × (u ≡ v ++ r)
front_of u v w d e lt =
    let x = snoc_of w lt in (
      x.0,
      snoc_front u (v ++ x.0) d x.1 (e ∙ ap (λ l. v ++ l) x.2
          ∙ sym (append_assoc v x.0 (x.1 ∷ []))),
    )

-- ---- what the positions tell

module _ (m : Machine) (c : Expression) (f : IsFor m c) where
  -- the places at which the text decides
  early_place : (u : List ℕ) → ((v w : List ℕ) → u ≡ v ++ w → 0 < length w → early c v → ⊥)
      → 0 < length u → early c u → (p : ℕ) × after c u p × (last false c 0 p ≡ true)
  early_place u unsettled some h =
      let x = snoc_of u some in
      let at = early_more c x.0 x.1 (subst (λ (t : List ℕ). early c t) x.2 h) in
      elim at [
        | inl before ↦ absurd (unsettled x.0 (x.1 ∷ []) x.2 (omega arith) before)
        | inr here ↦ (
          here.0,
          subst (λ (t : List ℕ). after c t here.0) (sym x.2) here.1.reached,
          here.1.ending,
        )
      ]

  meet_of : (set other p : ℕ) → has set p ≡ true → has other p ≡ true → Meet set other
  meet_of set other p a b = record { place = p; in_left = a; in_right = b }

  module _ (u : List ℕ) (unsettled : (v w : List ℕ) → u ≡ v ++ w → 0 < length w → early c v
      → ⊥) where
    pub decided_at : (r : Option ℕ) → IsReached c u r → IsDecidedAt m r → Decided c u
    decided_at None none h = inl (rw none (early_empty c (sym f.sums.empties ∙ h)))
    decided_at (Some set) h (inl zero_set) = inr (λ front. elim front [
      | inl none ↦ omega (arith, h.0, ap length none)
      | inr x ↦ true≢false (sym ((h.1 x.0).1 x.1) ∙ ap (λ n. has n x.0) zero_set ∙ has-none x.0)
    ])
    decided_at (Some set) h (inr meet) =
        inl (early_by c u meet.place (record {
          reached = (h.1 meet.place).0 meet.in_left;
          ending = sym (f.sums.lasts meet.place) ∙ meet.in_right;
        }))

    pub at_decided : (r : Option ℕ) → IsReached c u r → Decided c u → IsDecidedAt m r
    at_decided None none (inl h) = f.sums.empties ∙ empty_early c (rw none at h)
    at_decided None none (inr h) = absurd (h (inl none))
    at_decided (Some set) h (inl e) = let x = early_place u unsettled h.0 e in
        inr (meet_of set m.whole.last x.0 ((h.1 x.0).1 x.1) (f.sums.lasts x.0 ∙ x.2))
    at_decided (Some set) h (inr none) = elim (cases_eq set 0) [
      | inl same ↦ inl same
      | inr some ↦ let x = some_in set some in absurd (none (inr (x.0, (h.1 x.0).0 x.1)))
    ]

    pub holds_there : (r : Option ℕ) → IsReached c u r → HoldsAt m r → holds c u
    holds_there None none h = rw none (holds_empty c (sym f.sums.empties_at_end ∙ h))
    holds_there (Some set) h meet =
        holds_by c u meet.place (record {
          reached = (h.1 meet.place).0 meet.in_left;
          ending = sym (f.sums.lasts_at_end meet.place) ∙ meet.in_right;
        })

    pub there_holds : (r : Option ℕ) → IsReached c u r → holds c u → HoldsAt m r
    there_holds None none h = elim (holds_cases c u h) [
      | inl e ↦ f.sums.empties_at_end ∙ empty_more c (empty_early c (rw none at e))
      | inr x ↦ elim x [
        | inl y ↦ f.sums.empties_at_end ∙ y.1
        | inr y ↦
            absurd (omega (
              arith,
              (Reaches_is u c 0 0 (length u) y.0 y.1.reached).some,
              ap length none,
            ))
      ]
    ]
    there_holds (Some set) h w = elim (holds_cases c u w) [
      | inl e ↦
          let x = early_place u unsettled h.0 e in
          meet_of set m.whole.last_at_end x.0 ((h.1 x.0).1 x.1) (f.sums.lasts_at_end x.0
          ∙ last_more c 0 x.0 x.2)
      | inr x ↦ elim x [
        | inl y ↦ absurd (omega (arith, h.0, ap length y.0))
        | inr y ↦
            meet_of set m.whole.last_at_end y.0 ((h.1 y.0).1 y.1.reached) (f.sums.lasts_at_end y.0
            ∙ y.1.ending)
      ]
    ]

  -- ---- one character more

  pub step_reached : (u : List ℕ) (r : Option ℕ) (d set : ℕ) → IsReached c u r
      → ((q : ℕ) → has set q ≡ (next_has m r q && atom_reads m.ranges m.negated q d))
      → IsReached c (u ++ d ∷ []) (Some set)
  step_reached u None d set none h = rw none (
    omega arith,
    λ q.
        let same : has set q ≡ (first c 0 q && reads c 0 q d) =
        h q ∙ ap (λ z. z && atom_reads m.ranges m.negated q d) (f.sums.firsts q)
        ∙ ap (λ z. first c 0 q && z) (f.atoms q d) in
        ((λ e. after_first c d q (sym same ∙ e)), (λ a. same ∙ first_after c d q a)),
  )
  step_reached u (Some before) d set x h = (
    omega (arith, length-append u (d ∷ [])),
    λ q.
        let test : ℕ → Bool = λ p. has before p && has (slice_index m.follow p) q in (
          (λ e.
              let both =
              and_parts (any_below m.size test) (atom_reads m.ranges m.negated q d) (sym (h q)
              ∙ e) in
              let p = any_below-some m.size test both.0 in
              let here = and_parts (has before p.0) (has (slice_index m.follow p.0) q) p.2 in
              after_follow c u d p.0 q ((x.1 p.0).0 here.0)
              (and_from (follow c 0 p.0 q) (reads c 0 q d) (sym (f.follows p.0 q) ∙ here.1)
              (sym (f.atoms q d) ∙ both.1))),
          (λ a.
              let p = follow_after c u d q x.0 a in
              let both = and_parts (follow c 0 p.0 q) (reads c 0 q d) p.2 in
              let here =
              and_from (has before p.0) (has (slice_index m.follow p.0) q) ((x.1 p.0).1 p.1)
              (f.follows p.0 q ∙ both.0) in
              let low : p.0 < m.size = omega (arith, after_within c u p.0 p.1, f.sized) in
              h q ∙ and_from (any_below m.size test) (atom_reads m.ranges m.negated q d)
              (any_below-from m.size test p.0 low here) (f.atoms q d ∙ both.1)),
        ),
  )

-- a text that doesn't decide may grow
pub open_longer : (c : Expression) (u : List ℕ) (d : ℕ) → (early c u → ⊥) → (v w : List ℕ)
    → u ++ d ∷ [] ≡ v ++ w → 0 < length w → early c v → ⊥
open_longer c u d not_yet v w e lt h =
    let x = front_of u v w d e lt in not_yet (rw x.1 (early_longer c v x.0 h))
