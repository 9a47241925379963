-- Building the automaton of a condition, part by part.
use Rattle.std.proofs.Common.{◌≡◌, ℕ, zero, suc, ◌+◌, ◌^◌, ◌≤◌, ◌<◌, Bool, true, false, List, []}
use Rattle.std.proofs.Common.{◌∷◌, replicate, slice_index, ◌⊎◌, inl, inr, refl, sym, ap, ◌∙◌, arith}
use Rattle.std.specs.Prelude.{◌==◌, ◌&&◌, ◌||◌}
use Rattle.std.specs.List.{list_any}
use Rattle.std.proofs.lemmas.Bool.{cases_lt, cases_eq, eq-eqb, ne_eqb, false_from_ne_true}
use Rattle.std.proofs.lemmas.List.Folds.{list_any-append}
use Rattle.lazy_dfa.specs.declared.automaton.Automaton.{Automaton}
use Rattle.lazy_dfa.specs.declared.part.Part.{Part}
use Rattle.lazy_dfa.specs.Expression.{CharacterSet, contains, in_range, negated_if, Expression}
use Rattle.lazy_dfa.specs.Expression.{OneOf, Sequence, Choice, Star, Plus, Optional, size}
use Rattle.lazy_dfa.specs.Positions.{first, last, follow, reads}
use Rattle.lazy_dfa.specs.Sets.{has}
use Rattle.lazy_dfa.specs.Compiled.{range_reads, atom_reads, Sums, IsFresh, Adds, Linked, ranges_of}
use Rattle.lazy_dfa.specs.Compiled.{AddsRanges}
use Rattle.lazy_dfa.proofs.Ranges.{Within, first_within, last_within, follow_within, reads_within}
use Rattle.lazy_dfa.proofs.Sets.{has-none, has-only}

-- ---- places out of an expression

-- an atom of no place has none behind it
not_follow : (e : Expression) (n p q : ℕ) → (Within e n p → ⊥) → follow e n p q ≡ false
not_follow e n p q out = false_from_ne_true (follow e n p q) (λ h. out (follow_within e n p q h).0)

-- an atom of no place reads nothing
not_reads : (e : Expression) (n p c : ℕ) → (Within e n p → ⊥) → reads e n p c ≡ false
not_reads e n p c out = false_from_ne_true (reads e n p c) (λ h. out (reads_within e n p c h))

-- an atom of no place is no last one
not_last : (end : Bool) (e : Expression) (n p : ℕ) → (Within e n p → ⊥) → last end e n p ≡ false
not_last end e n p out = false_from_ne_true (last end e n p) (λ h. out (last_within end e n p h))

-- an atom of no place is no first one
not_first : (e : Expression) (n p : ℕ) → (Within e n p → ⊥) → first e n p ≡ false
not_first e n p out = false_from_ne_true (first e n p) (λ h. out (first_within e n p h))

-- a place below the first one
below : (e : Expression) (n p : ℕ) → p < n → Within e n p → ⊥
below e n p lt w = omega (arith, w.low)

-- a place above the last one
above : (e : Expression) (n p : ℕ) → n + size e ≤ p → Within e n p → ⊥
above e n p le w = omega (arith, w.high)

-- or with false
or-false : (b : Bool) → (b || false) ≡ b
or-false true = refl
or-false false = refl

-- and with false
and-false : (b : Bool) → (b && false) ≡ false
and-false true = refl
and-false false = refl

-- ---- no atom

-- empty sets have nothing
pub zeros_have : (n p q : ℕ) → has (slice_index (replicate n 0) p) q ≡ false
zeros_have zero p q = has-none q
zeros_have (suc n) zero q = has-none q
zeros_have (suc n) (suc p) q = zeros_have n p q

-- an expression without atoms adds nothing
pub adds_none : (old : Automaton) (e : Expression) → size e ≡ 0 → IsFresh old
    → ((p q : ℕ) → follow e old.size p q ≡ false) → ((p c : ℕ) → reads e old.size p c ≡ false)
    → Adds old e old
adds_none old e none fresh follows atoms = record {
  sized = omega arith;
  kept_follows = λ p q lt. refl;
  kept_reads = λ p c lt. refl;
  follows = λ p q le. fresh.follows p q le ∙ sym (follows p q);
  atoms = λ p c le. ap (λ b. negated_if b (list_any (range_reads p c) old.ranges.items))
      (fresh.negations p le) ∙ fresh.ranges p c le ∙ sym (atoms p c);
  fresh = fresh;
}

-- ---- parts one behind the other

module _ (old mid new : Automaton) (a b : Expression) (x : Adds old a mid)
    (y : Adds mid b new) where
  both_sized : new.size ≡ old.size + (size a + size b)
  both_sized = omega (arith, x.sized, y.sized)

  places : (p : ℕ) → (p < mid.size) ⊎ (mid.size ≤ p)
  places p = cases_lt p mid.size

  both_follows : (p q : ℕ) → old.size ≤ p
      → has (slice_index new.follow p) q ≡
      (follow a old.size p q || follow b (old.size + size a) p q)
  both_follows p q le = elim (places p) [
    | inl lt ↦
        let none =
        not_follow b (old.size + size a) p q
        (below b (old.size + size a) p (omega (arith, x.sized))) in
        y.kept_follows p q lt ∙ x.follows p q le
        ∙ sym (ap (λ z. follow a old.size p q || z) none ∙ or-false (follow a old.size p q))
    | inr ge ↦
        let none = not_follow a old.size p q (above a old.size p (omega (arith, x.sized))) in
        y.follows p q ge ∙ ap (λ n. follow b n p q) x.sized
        ∙ sym (ap (λ z. z || follow b (old.size + size a) p q) none)
  ]

  both_atoms : (p c : ℕ) → old.size ≤ p
      → atom_reads new.ranges.items new.negated p c ≡
      (reads a old.size p c || reads b (old.size + size a) p c)
  both_atoms p c le = elim (places p) [
    | inl lt ↦
        let none =
        not_reads b (old.size + size a) p c
        (below b (old.size + size a) p (omega (arith, x.sized))) in
        y.kept_reads p c lt ∙ x.atoms p c le
        ∙ sym (ap (λ z. reads a old.size p c || z) none ∙ or-false (reads a old.size p c))
    | inr ge ↦
        let none = not_reads a old.size p c (above a old.size p (omega (arith, x.sized))) in
        y.atoms p c ge ∙ ap (λ n. reads b n p c) x.sized
        ∙ sym (ap (λ z. z || reads b (old.size + size a) p c) none)
  ]

  both_kept_follows : (p q : ℕ) → p < old.size
      → has (slice_index new.follow p) q ≡ has (slice_index old.follow p) q
  both_kept_follows p q lt = y.kept_follows p q (omega (arith, x.sized)) ∙ x.kept_follows p q lt

  both_kept_reads : (p c : ℕ) → p < old.size
      → atom_reads new.ranges.items new.negated p c ≡ atom_reads old.ranges.items old.negated p c
  both_kept_reads p c lt = y.kept_reads p c (omega (arith, x.sized)) ∙ x.kept_reads p c lt

  pub adds_choice : Adds old (Choice a b) new
  adds_choice = record {
    sized = both_sized;
    kept_follows = both_kept_follows;
    kept_reads = both_kept_reads;
    follows = both_follows;
    atoms = both_atoms;
    fresh = y.fresh;
  }

-- ---- a link

-- the link of an expression's last atoms with first ones, where all of them are among the places
module _ (old new : Automaton) (set_last set_first : ℕ) (l : Linked old set_last set_first new)
    (last_low : (p : ℕ) → has set_last p ≡ true → p < old.size) where
  linked_follows : (p q : ℕ)
      → has (slice_index new.follow p) q ≡
      (has (slice_index old.follow p) q || (has set_last p && has set_first q))
  linked_follows p q = elim (cases_lt p old.size) [
    | inl lt ↦ l.joined p q lt
    | inr le ↦
        let none : has set_last p ≡ false =
        false_from_ne_true (has set_last p) (λ h. let lt = last_low p h in omega arith) in
        ap (λ set. has set q) (l.others p le)
        ∙ sym (ap (λ z. has (slice_index old.follow p) q || (z && has set_first q)) none
        ∙ or-false (has (slice_index old.follow p) q))
  ]

  linked_atoms : (p c : ℕ) → atom_reads new.ranges.items new.negated p c ≡ atom_reads
      old.ranges.items old.negated p c
  linked_atoms p c = ap (λ rs. atom_reads rs new.negated p c) l.ranges
      ∙ ap (λ m. atom_reads old.ranges.items m p c) l.negated

  linked_fresh : IsFresh old → IsFresh new
  linked_fresh fresh = record {
    follows = λ p q le. let ge : old.size ≤ p = omega (arith, l.sized) in
        ap (λ set. has set q) (l.others p ge) ∙ fresh.follows p q ge;
    negations = λ p le. ap (λ m. has m p) l.negated ∙ fresh.negations p (omega (arith, l.sized));
    ranges = λ p c le. ap (λ rs. list_any (range_reads p c) rs) l.ranges
        ∙ fresh.ranges p c (omega (arith, l.sized));
  }

-- a part that was added, and then linked: its own atoms only
module _ (before old new : Automaton) (e f : Expression) (set_last set_first : ℕ)
    (added : Adds before e old) (l : Linked old set_last set_first new)
    (same : size f ≡ size e) (last_in : (p : ℕ) → has set_last p ≡ true
    → Within e before.size p) where
  inside : (p : ℕ) → has set_last p ≡ true → p < old.size
  inside p h = omega (arith, (last_in p h).high, added.sized)

  pub adds_linked : ((p q : ℕ)
      → follow f before.size p q ≡
      (follow e before.size p q || (has set_last p && has set_first q)))
      → ((p c : ℕ) → reads f before.size p c ≡ reads e before.size p c) → Adds before f new
  adds_linked follows atoms = record {
    sized = omega (arith, l.sized, added.sized);
    kept_follows = λ p q lt.
        let none : has set_last p ≡ false =
        false_from_ne_true (has set_last p) (λ h. let w = last_in p h in
        omega (arith, w.low)) in
        linked_follows old new set_last set_first l inside p q
        ∙ ap (λ z. has (slice_index old.follow p) q || (z && has set_first q)) none
        ∙ or-false (has (slice_index old.follow p) q) ∙ added.kept_follows p q lt;
    kept_reads = λ p c lt. linked_atoms old new set_last set_first l inside p c
        ∙ added.kept_reads p c lt;
    follows = λ p q le. linked_follows old new set_last set_first l inside p q
        ∙ ap (λ z. z || (has set_last p && has set_first q)) (added.follows p q le)
        ∙ sym (follows p q);
    atoms = λ p c le. linked_atoms old new set_last set_first l inside p c ∙ added.atoms p c le
        ∙ sym (atoms p c);
    fresh = linked_fresh old new set_last set_first l inside added.fresh;
  }

-- two parts and the link between them add their sequence
pub adds_sequence : (old mid before new : Automaton) (a b : Expression) (pa pb : Part)
    → Adds old a mid → Adds mid b before → Sums pa a old.size → Sums pb b mid.size
    → Linked before pa.last pb.first new → Adds old (Sequence a b) new
adds_sequence old mid before new a b pa pb x y sa sb l =
    adds_linked old before new (Choice a b) (Sequence a b) pa.last pb.first
    (adds_choice old mid before a b x y) l refl
    (λ p h. let w = last_within false a old.size p (sym (sa.lasts p) ∙ h) in
    record { low = w.low; high = omega (arith, w.high) })
    (λ p q. ap (λ z. (follow a old.size p q || follow b (old.size + size a) p q) ||
    (z && first b (old.size + size a) q)) (sym (sa.lasts p))
    ∙ ap (λ z. (follow a old.size p q || follow b (old.size + size a) p q) || (has pa.last p && z))
    (sym (sb.firsts q ∙ ap (λ n. first b n q) x.sized)))
    (λ p c. refl)

module _ (old before new : Automaton) (a : Expression) (part : Part) (x : Adds old a before)
    (s : Sums part a old.size) (l : Linked before part.last part.first new) where
  repeats : (p q : ℕ) → (follow a old.size p q || (last false a old.size p && first a old.size q)) ≡
      (follow a old.size p q || (has part.last p && has part.first q))
  repeats p q = ap (λ z. follow a old.size p q || (z && first a old.size q)) (sym (s.lasts p))
      ∙ ap (λ z. follow a old.size p q || (has part.last p && z)) (sym (s.firsts q))

  last_is : (p : ℕ) → has part.last p ≡ true → Within a old.size p
  last_is p h = last_within false a old.size p (sym (s.lasts p) ∙ h)

  pub adds_star : Adds old (Star a) new
  adds_star =
      adds_linked old before new a (Star a) part.last part.first x l refl last_is repeats
      (λ p c. refl)

  pub adds_plus : Adds old (Plus a) new
  adds_plus =
      adds_linked old before new a (Plus a) part.last part.first x l refl last_is repeats
      (λ p c. refl)

-- a part adds what it adds as an optional one
pub adds_optional : (old new : Automaton) (a : Expression) → Adds old a new
    → Adds old (Optional a) new
adds_optional old new a x = record {
  sized = x.sized;
  kept_follows = x.kept_follows;
  kept_reads = x.kept_reads;
  follows = x.follows;
  atoms = x.atoms;
  fresh = x.fresh;
}

-- a part begins and ends as its repetition does
pub sums_plus : (part : Part) (a : Expression) (n : ℕ) → Sums part a n → Sums part (Plus a) n
sums_plus part a n s = record {
  empties = s.empties;
  empties_at_end = s.empties_at_end;
  firsts = s.firsts;
  lasts = s.lasts;
  lasts_at_end = s.lasts_at_end;
}

-- ---- an atom

-- the ranges of one atom are read at its place alone
any_of : (n p c : ℕ) (rs : List (ℕ × ℕ))
    → list_any (range_reads p c) (ranges_of (2 ^ n) rs) ≡ ((p == n) && list_any (in_range c) rs)
any_of n p c [] = sym (and-false (p == n))
any_of n p c (r ∷ rs) =
    ap (λ z. (z && in_range c r) || list_any (range_reads p c) (ranges_of (2 ^ n) rs))
    (has-only n p)
    ∙ ap (λ z. ((p == n) && in_range c r) || z) (any_of n p c rs)
    ∙ shared (p == n) (in_range c r) (list_any (in_range c) rs) where
      shared : (x y z : Bool) → ((x && y) || (x && z)) ≡ (x && (y || z))
      shared true y z = refl
      shared false y z = refl

module _ (old ranged new : Automaton) (negated : Bool) (rs : List (ℕ × ℕ)) (fresh : IsFresh old)
    (added : AddsRanges old (2 ^ old.size) rs ranged)
    (same_ranges : new.ranges ≡ ranged.ranges) (same_follow : new.follow ≡ ranged.follow)
    (one : new.size ≡ ranged.size + 1)
    (negates : (p : ℕ) → has new.negated p ≡
    (has ranged.negated p || (negated && (p == ranged.size)))) where
  abbrev set : CharacterSet
  set = record { negated = negated; ranges = rs }

  here : ranged.size ≡ old.size
  here = added.sized

  items : (p c : ℕ) → list_any (range_reads p c) new.ranges.items ≡
      (list_any (range_reads p c) old.ranges.items || ((p == old.size) && list_any (in_range c) rs))
  items p c = ap (λ v. list_any (range_reads p c) v.items) same_ranges
      ∙ ap (list_any (range_reads p c)) added.ranges
      ∙ list_any-append (range_reads p c) old.ranges.items (ranges_of (2 ^ old.size) rs)
      ∙ ap (λ z. list_any (range_reads p c) old.ranges.items || z) (any_of old.size p c rs)

  negation : (p : ℕ) → has new.negated p ≡ (has old.negated p || (negated && (p == old.size)))
  negation p = negates p ∙ ap (λ m. has m p || (negated && (p == ranged.size))) added.negated
      ∙ ap (λ n. has old.negated p || (negated && (p == n))) here

  other : (p : ℕ) → (p ≡ old.size → ⊥) → (p == old.size) ≡ false
  other p ne = ne_eqb p old.size ne

  other_items : (p c : ℕ) → (p ≡ old.size → ⊥)
      → list_any (range_reads p c) new.ranges.items ≡ list_any (range_reads p c) old.ranges.items
  other_items p c ne =
      items p c ∙ ap (λ z. list_any (range_reads p c) old.ranges.items ||
      (z && list_any (in_range c) rs)) (other p ne)
      ∙ or-false (list_any (range_reads p c) old.ranges.items)

  other_negation : (p : ℕ) → (p ≡ old.size → ⊥) → has new.negated p ≡ has old.negated p
  other_negation p ne = negation p ∙ ap (λ z. has old.negated p || (negated && z)) (other p ne)
      ∙ ap (λ z. has old.negated p || z) (and-false negated) ∙ or-false (has old.negated p)

  other_reads : (p c : ℕ) → (p ≡ old.size → ⊥)
      → atom_reads new.ranges.items new.negated p c ≡ atom_reads old.ranges.items old.negated p c
  other_reads p c ne =
      ap (λ z. negated_if z (list_any (range_reads p c) new.ranges.items)) (other_negation p ne)
      ∙ ap (negated_if (has old.negated p)) (other_items p c ne)

  and-true : (b : Bool) → (b && true) ≡ b
  and-true true = refl
  and-true false = refl

  this_reads : (c : ℕ) → atom_reads new.ranges.items new.negated old.size c ≡ contains set c
  this_reads c =
      let self : (old.size == old.size) ≡ true = eq-eqb old.size old.size refl in
      let sign : has new.negated old.size ≡ negated =
      negation old.size ∙ ap (λ z. has old.negated old.size || (negated && z)) self
      ∙ ap (λ z. z || (negated && true)) (fresh.negations old.size (omega arith))
      ∙ and-true negated in
      let inner : list_any (range_reads old.size c) new.ranges.items ≡ list_any (in_range c) rs =
      items old.size c ∙ ap (λ z. list_any (range_reads old.size c) old.ranges.items ||
      (z && list_any (in_range c) rs)) self
      ∙ ap (λ z. z || list_any (in_range c) rs) (fresh.ranges old.size c (omega arith)) in
      ap (λ z. negated_if z (list_any (range_reads old.size c) new.ranges.items)) sign
      ∙ ap (negated_if negated) inner

  follows_same : (p q : ℕ) → has (slice_index new.follow p) q ≡ has (slice_index old.follow p) q
  follows_same p q = ap (λ f. has (slice_index f p) q) (same_follow ∙ added.follow)

  reads_none : (p c : ℕ) → old.size ≤ p → atom_reads old.ranges.items old.negated p c ≡ false
  reads_none p c le =
      ap (λ z. negated_if z (list_any (range_reads p c) old.ranges.items)) (fresh.negations p le)
      ∙ fresh.ranges p c le

  pub adds_atom : Adds old (OneOf set) new
  adds_atom = record {
    sized = omega (arith, one, here);
    kept_follows = λ p q lt. follows_same p q;
    kept_reads = λ p c lt. other_reads p c (λ e. omega arith);
    follows = λ p q le. follows_same p q ∙ fresh.follows p q le;
    atoms = λ p c le. elim (cases_eq p old.size) [
      | inl e ↦
          rw e (this_reads c ∙ ap (λ z. z && contains set c) (sym (eq-eqb old.size old.size refl)))
      | inr ne ↦
          other_reads p c ne ∙ reads_none p c le ∙ ap (λ z. z && contains set c) (sym (other p ne))
    ];
    fresh = record {
      follows = λ p q le. follows_same p q ∙ fresh.follows p q (omega (arith, one, here));
      negations = λ p le. other_negation p (λ e. omega (arith, one, here))
          ∙ fresh.negations p (omega (arith, one, here));
      ranges = λ p c le. other_items p c (λ e. omega (arith, one, here))
          ∙ fresh.ranges p c (omega (arith, one, here));
    };
  }
