-- Sets of places as bits.
use Rattle.std.proofs.Common.{◌≡◌, ◌≢◌, ℕ, zero, suc, ◌+◌, ◌/◌, ◌%◌, ◌^◌, ◌<◌, min, max, Bool, true}
use Rattle.std.proofs.Common.{false, ◌⊎◌, inl, inr, refl, sym, ap, ◌∙◌, arith, bit_and, bit_or}
use Rattle.std.specs.Prelude.{◌==◌, ◌&&◌, ◌||◌}
use Rattle.std.specs.Int.{bit_at}
use Rattle.std.specs.Int.Bits.{bit_xor}
use Rattle.std.proofs.lemmas.Bool.{cases_eq, cases_lt, eq-eqb, ne_eqb, eqb-true, and_parts}
use Rattle.std.proofs.lemmas.Bool.{and_from, or_cases, or_left, or_right, true≢false}
use Rattle.std.proofs.lemmas.Nat.Bits.{bit_at-zero, bit_at-lt, bit_at-pow_same, bit_at-pow_other}
use Rattle.std.proofs.lemmas.Nat.Bits.{bit_at_or, bit_at_and, bit_at_xor, bit_at-suc, bit_at_lowest}
use Rattle.std.proofs.lemmas.Nat.Bits.{bit_at_above}
use Rattle.std.proofs.lemmas.Nat.{and_le_l}
use Rattle.std.proofs.Math.Numerals.{add-one}
use Rattle.std.proofs.Math.Nat.{pow-suc}
use Rattle.lazy_dfa.specs.Expression.{negated_if}
use Rattle.lazy_dfa.specs.Sets.{has, any_below, Meet}

-- a bit is 0 or 1
pub bit_cases : (n i : ℕ) → (bit_at n i ≡ 0) ⊎ (bit_at n i ≡ 1)
bit_cases n i = elim (cases_eq (bit_at n i) 0) [
  | inl x ↦ inl x
  | inr x ↦ inr (let lt = bit_at-lt n i in omega arith)
]

-- equal numbers pass the same test
same_tests : (a b : ℕ) → a ≡ b → (a == 1) ≡ (b == 1)
same_tests a b e = ap (λ (n : ℕ). n == 1) e

-- the empty set has nothing
pub has-none : (p : ℕ) → has 0 p ≡ false
has-none p = same_tests (bit_at 0 p) 0 (bit_at-zero p)

-- the set of one place has that place
pub has-only : (k p : ℕ) → has (2 ^ k) p ≡ (p == k)
has-only k p = elim (cases_eq p k) [
  | inl same ↦ rw same (same_tests (bit_at (2 ^ k) k) 1 (bit_at-pow_same k) ∙ sym (eq-eqb k k refl))
  | inr other ↦
      same_tests (bit_at (2 ^ k) p) 0 (bit_at-pow_other k p other) ∙ sym (ne_eqb p k other)
]

-- the or of two bits
or_bits : (a b : ℕ) → (a ≡ 0) ⊎ (a ≡ 1) → (b ≡ 0) ⊎ (b ≡ 1)
    → (max a b == 1) ≡ ((a == 1) || (b == 1))
or_bits a b (inl x) (inl y) = rw (x, y) refl
or_bits a b (inl x) (inr y) = rw (x, y) refl
or_bits a b (inr x) (inl y) = rw (x, y) refl
or_bits a b (inr x) (inr y) = rw (x, y) refl

-- the and of two bits
and_bits : (a b : ℕ) → (a ≡ 0) ⊎ (a ≡ 1) → (b ≡ 0) ⊎ (b ≡ 1)
    → (min a b == 1) ≡ ((a == 1) && (b == 1))
and_bits a b (inl x) (inl y) = rw (x, y) refl
and_bits a b (inl x) (inr y) = rw (x, y) refl
and_bits a b (inr x) (inl y) = rw (x, y) refl
and_bits a b (inr x) (inr y) = rw (x, y) refl

-- the xor of two bits
xor_bits : (a b : ℕ) → (a ≡ 0) ⊎ (a ≡ 1) → (b ≡ 0) ⊎ (b ≡ 1)
    → ((a + b) % 2 == 1) ≡ negated_if (b == 1) (a == 1)
xor_bits a b (inl x) (inl y) = rw (x, y) refl
xor_bits a b (inl x) (inr y) = rw (x, y) refl
xor_bits a b (inr x) (inl y) = rw (x, y) refl
xor_bits a b (inr x) (inr y) = rw (x, y) refl

-- the or of two sets
pub has-or : (a b p : ℕ) → has (bit_or a b) p ≡ (has a p || has b p)
has-or a b p = same_tests (bit_at (bit_or a b) p) (max (bit_at a p) (bit_at b p)) (bit_at_or a b p)
    ∙ or_bits (bit_at a p) (bit_at b p) (bit_cases a p) (bit_cases b p)

-- the and of two sets
pub has-and : (a b p : ℕ) → has (bit_and a b) p ≡ (has a p && has b p)
has-and a b p =
    same_tests (bit_at (bit_and a b) p) (min (bit_at a p) (bit_at b p)) (bit_at_and a b p)
    ∙ and_bits (bit_at a p) (bit_at b p) (bit_cases a p) (bit_cases b p)

-- the xor of two sets
pub has-xor : (a b p : ℕ) → has (bit_xor a b) p ≡ negated_if (has b p) (has a p)
has-xor a b p =
    same_tests (bit_at (bit_xor a b) p) ((bit_at a p + bit_at b p) % 2) (bit_at_xor a b p)
    ∙ xor_bits (bit_at a p) (bit_at b p) (bit_cases a p) (bit_cases b p)

-- a set of places below 64 that has none is 0
pub some_place : (k n : ℕ) → n < 2 ^ k → n ≢ 0 → (p : ℕ) × (p < k) × (has n p ≡ true)
some_place zero n lt some = absurd (some (omega arith))
some_place (suc k) n lt some = elim (bit_cases n 0) [
  | inr one ↦ (0, omega arith, eq-eqb (bit_at n 0) 1 one)
  | inl even ↦
      let low : n % 2 ≡ 0 = sym (bit_at_lowest n) ∙ even in
      let half : n / 2 < 2 ^ k = omega (arith, pow-suc 2 k) in
      let more : n / 2 ≢ 0 = λ z. some (omega arith) in
      let x = some_place k (n / 2) half more in (
        suc x.0,
        omega (arith, x.1),
        same_tests (bit_at n (suc x.0)) (bit_at (n / 2) x.0) (bit_at-suc n x.0) ∙ x.2,
      )
]

-- the places of 64 bits
pub has_below : (n p : ℕ) → n < 2 ^ 64 → has n p ≡ true → p < 64
has_below n p lt h = elim (cases_lt p 64) [
  | inl x ↦ x
  | inr le ↦ let none = bit_at_above n 64 p lt le in let one = eqb-true (bit_at n p) 1 h in
      absurd (omega arith)
]

-- sets whose and isn't 0 meet
pub meets : (a b : ℕ) → a < 2 ^ 64 → b < 2 ^ 64 → bit_and a b ≢ 0 → Meet a b
meets a b la lb some =
    let x = some_place 64 (bit_and a b) (let le = and_le_l a b in omega arith) some in
    let both = and_parts (has a x.0) (has b x.0) (sym (has-and a b x.0) ∙ x.2) in
    record { place = x.0; in_left = both.0; in_right = both.1 }

-- sets that meet have an and that isn't 0
pub meet_some : (a b : ℕ) → Meet a b → bit_and a b ≢ 0
meet_some a b m z =
    let there : has (bit_and a b) m.place ≡ true =
    has-and a b m.place ∙ and_from (has a m.place) (has b m.place) m.in_left m.in_right in
    true≢false (sym there ∙ ap (λ (n : ℕ). has n m.place) z ∙ has-none m.place)

-- ---- a test below a number

-- below 0 nothing passes
pub any_below-zero : (f : ℕ → Bool) → any_below 0 f ≡ false
unfolding any_below
any_below-zero f = refl

-- one number more
pub any_below-more : (n : ℕ) (f : ℕ → Bool) → any_below (n + 1) f ≡ (any_below n f || f n)
unfolding any_below
any_below-more n f = rw add-one refl

-- what passes, where some does
pub any_below-some : (n : ℕ) (f : ℕ → Bool) → any_below n f ≡ true → (p : ℕ) × (p < n)
    × (f p ≡ true)
unfolding any_below
any_below-some zero f h = absurd cc
any_below-some (suc n) f h = elim (or_cases (any_below n f) (f n) h) [
  | inl x ↦ let y = any_below-some n f x in (y.0, omega (arith, y.1), y.2)
  | inr x ↦ (n, omega arith, x)
]

-- something passes, where this does
pub any_below-from : (n : ℕ) (f : ℕ → Bool) (p : ℕ) → p < n → f p ≡ true → any_below n f ≡ true
unfolding any_below
any_below-from zero f p lt h = absurd (omega arith)
any_below-from (suc n) f p lt h = elim (cases_eq p n) [
  | inl same ↦ or_right (any_below n f) (f n) (ap f (sym same) ∙ h)
  | inr other ↦ or_left (any_below n f) (f n) (any_below-from n f p (omega arith) h)
]

-- or with false
or-false : (b : Bool) → (b || false) ≡ b
or-false true = refl
or-false false = refl

-- a loop over the places: the place n passes, or doesn't
pub any_below-grows : (n : ℕ) (test : ℕ → Bool) (old now more : Bool) → old ≡ any_below n test
    → now ≡ (old || more) → test n ≡ more → now ≡ any_below (n + 1) test
any_below-grows n test old now more before grown here =
    rw (any_below-more n test, ← before, here) grown

-- the same, where the place n doesn't pass
pub any_below-stays : (n : ℕ) (test : ℕ → Bool) (old now : Bool) → old ≡ any_below n test
    → now ≡ old → test n ≡ false → now ≡ any_below (n + 1) test
any_below-stays n test old now before same here =
    any_below-grows n test old now false before (same ∙ sym (or-false old)) here

-- a number is below its power of 2
below_power : (n : ℕ) → n < 2 ^ n
below_power zero = omega arith
below_power (suc n) = omega (arith, below_power n, pow-suc 2 n)

-- a set that isn't 0 has a place
pub some_in : (n : ℕ) → n ≢ 0 → (p : ℕ) × (has n p ≡ true)
some_in n some = let x = some_place n n (below_power n) some in (x.0, x.2)
