-- A link, place by place.
use Rattle.std.proofs.Common.{◌≡◌, ℕ, ◌+◌, ◌≤◌, ◌<◌, Bool, true, false, length, slice_index}
use Rattle.std.proofs.Common.{slice_set, inl, inr, refl, sym, ap, ◌∙◌, arith}
use Rattle.std.specs.Prelude.{◌&&◌, ◌||◌}
use Rattle.std.proofs.lemmas.Bool.{cases_eq, cases_lt}
use Rattle.std.proofs.Common.{get_or-set_same, get_or-set_other}
use Rattle.lazy_dfa.specs.declared.automaton.Automaton.{Automaton}
use Rattle.lazy_dfa.specs.Sets.{has}
use Rattle.lazy_dfa.specs.Compiled.{Linked}

-- the places below n are linked
pub record LinkedBelow (n : ℕ) (old : Automaton) (last first : ℕ) (new : Automaton) : Type 0 where
  pub ranges : new.ranges.items ≡ old.ranges.items
  pub negated : new.negated ≡ old.negated
  pub sized : new.size ≡ old.size
  pub long : length new.follow ≡ 64
  pub joined : (p q : ℕ) → p < n
      → has (slice_index new.follow p) q ≡
      (has (slice_index old.follow p) q || (has last p && has first q))
  pub others : (p : ℕ) → n ≤ p → slice_index new.follow p ≡ slice_index old.follow p

-- or with false
or-false : (b : Bool) → (b || false) ≡ b
or-false true = refl
or-false false = refl

module _ (n : ℕ) (old : Automaton) (last first : ℕ) (now : Automaton)
    (h : LinkedBelow n old last first now) where
  -- the place n isn't among the last ones
  pub passes_other : has last n ≡ false → LinkedBelow (n + 1) old last first now
  passes_other out = record {
    ranges = h.ranges;
    negated = h.negated;
    sized = h.sized;
    long = h.long;
    joined = λ p q lt. elim (cases_lt p n) [
      | inl below ↦ h.joined p q below
      | inr le ↦
          let here : p ≡ n = omega arith in
          ap (λ set. has set q) (h.others p le)
          ∙ sym (ap (λ z. has (slice_index old.follow p) q || (z && has first q))
          (ap (has last) here ∙ out) ∙ or-false (has (slice_index old.follow p) q))
    ];
    others = λ p le. h.others p (omega arith);
  }

  -- the place n is
  pub passes_last : (next : Automaton) (set : ℕ) → has last n ≡ true → n < 64
      → next.ranges ≡ now.ranges → next.negated ≡ now.negated → next.size ≡ now.size
      → next.follow ≡ slice_set now.follow n set
      → ((q : ℕ) → has set q ≡ (has (slice_index now.follow n) q || has first q))
      → LinkedBelow (n + 1) old last first next
  passes_last next set in_last low ranges negated sized written united = record {
    ranges = ap (λ v. v.items) ranges ∙ h.ranges;
    negated = negated ∙ h.negated;
    sized = sized ∙ h.sized;
    long = ap length written ∙ Rattle.std.proofs.Math.ListN.length-set now.follow n set ∙ h.long;
    joined = λ p q lt. elim (cases_eq p n) [
      | inl same ↦
          rw same (ap (λ f. has (slice_index f n) q) written ∙ ap (λ z. has z q) (here set)
          ∙ united q
          ∙ ap (λ z. has z q || has first q) (h.others n (omega arith))
          ∙ sym (ap (λ z. has (slice_index old.follow n) q || (z && has first q)) in_last))
      | inr other ↦
          ap (λ f. has (slice_index f p) q) written ∙ ap (λ z. has z q) (there p set other)
          ∙ h.joined p q (omega arith)
    ];
    others = λ p le. ap (λ f. slice_index f p) written ∙ there p set (λ e. omega arith)
        ∙ h.others p (omega arith);
  } where
    here : (set : ℕ) → slice_index (slice_set now.follow n set) n ≡ set
    here set = let lt : n < length now.follow = omega (arith, h.long) in
        get_or-set_same now.follow n set 0 lt

    there : (p set : ℕ) → (p ≡ n → ⊥)
        → slice_index (slice_set now.follow n set) p ≡ slice_index now.follow p
    there p set other = get_or-set_other now.follow n p set 0 other

-- all places were linked
pub linked : (old : Automaton) (last first : ℕ) (now : Automaton)
    → LinkedBelow old.size old last first now → Linked old last first now
linked old last first now h = record {
  ranges = h.ranges;
  negated = h.negated;
  sized = h.sized;
  joined = h.joined;
  others = h.others;
}
