-- What an expression reads lies in the text, and depends on no more than what it reads.
use Rattle.std.proofs.Common.{◌≡◌, ℕ, ◌+◌, ◌≤◌, ◌<◌, List, length, Option, None, inl, inr, sym, ◌∙◌}
use Rattle.std.proofs.Common.{arith}
use Rattle.std.specs.Prelude.{slice_get}
use Rattle.std.proofs.lemmas.Option.{slice_get_within}
use Rattle.lazy_dfa.specs.Expression.{CharacterSet, Expression, Nothing, OneOf, End, Sequence}
use Rattle.lazy_dfa.specs.Expression.{Choice, Star, Plus, Optional, size}
use Rattle.lazy_dfa.specs.Meaning.{Chain, done, step, ReadsAt, Reading, Reaches}

-- ---- chains

-- steps that go up make chains that do
pub chain_le : {R : ℕ → ℕ → Type 0} (up : (i j : ℕ) → R i j → i ≤ j) (i j : ℕ) → Chain R i j → i ≤ j
chain_le up i j done = omega arith
chain_le up i j (step {k = k} r c) = let a = up i k r in let b = chain_le up k j c in omega arith

-- a chain whose steps up to n are steps of another kind
pub chain_mapped : {R S : ℕ → ℕ → Type 0} (n : ℕ) (up : (i j : ℕ) → R i j → i ≤ j) (f : (i j : ℕ)
    → j ≤ n → R i j → S i j)
    (i j : ℕ) → j ≤ n → Chain R i j → Chain S i j
chain_mapped n up f i j le done = done
chain_mapped n up f i j le (step {k = k} r c) =
    let below : k ≤ n = let b = chain_le up k j c in omega arith in
    step (f i k below r) (chain_mapped n up f k j le c)

-- a chain whose steps are all of another kind
pub chain_every : {R S : ℕ → ℕ → Type 0} (f : (i j : ℕ) → R i j → S i j) (i j : ℕ) → Chain R i j
    → Chain S i j
chain_every f i j done = done
chain_every f i j (step {k = k} r c) = step (f i k r) (chain_every f k j c)

-- one step more at the end of a chain
pub chain_end : {R : ℕ → ℕ → Type 0} (i k j : ℕ) → Chain R i k → R k j → Chain R i j
chain_end i k j done r = step r done
chain_end i k j (step {k = m} q c) r = step q (chain_end m k j c r)

-- ---- reading goes forward

-- reading goes up
pub Reading_le : (s : List ℕ) (end : Option ℕ) (e : Expression) (i j : ℕ) → Reading s end e i j
    → i ≤ j
Reading_le s end Nothing i j h = omega (arith, h)
Reading_le s end (OneOf set) i j h = omega (arith, h.0)
Reading_le s end End i j h = omega (arith, h.0)
Reading_le s end (Sequence a b) i j h = let x = Reading_le s end a i h.0 h.1 in
    let y = Reading_le s end b h.0 j h.2 in omega arith
Reading_le s end (Choice a b) i j (inl h) = Reading_le s end a i j h
Reading_le s end (Choice a b) i j (inr h) = Reading_le s end b i j h
Reading_le s end (Star a) i j h = chain_le (Reading_le s end a) i j h
Reading_le s end (Plus a) i j h = let x = Reading_le s end a i h.0 h.1 in
    let y = chain_le (Reading_le s end a) h.0 j h.2 in omega arith
Reading_le s end (Optional a) i j (inl h) = omega arith
Reading_le s end (Optional a) i j (inr h) = Reading_le s end a i j h

-- what is reached lies in the text, and the atom is the expression's
pub record IsReach (s : List ℕ) (e : Expression) (n i j p : ℕ) : Type 0 where
  pub some : i < j
  pub inside : j ≤ length s
  pub low : n ≤ p
  pub high : p < n + size e

-- what is reached in the first part
reach_left : (s : List ℕ) (a b : Expression) (n i j p : ℕ) → IsReach s a n i j p
    → IsReach s (Choice a b) n i j p
reach_left s a b n i j p r =
    record { some = r.some; inside = r.inside; low = r.low; high = omega (arith, r.high) }

-- what is reached in the second part
reach_right : (s : List ℕ) (a b : Expression) (n i j p : ℕ) → IsReach s b (n + size a) i j p
    → IsReach s (Choice a b) n i j p
reach_right s a b n i j p r =
    record {
      some = r.some;
      inside = r.inside;
      low = omega (arith, r.low);
      high = omega (arith, r.high);
    }

-- what is reached from a later place on
reach_later : (s : List ℕ) (a : Expression) (n i k j p : ℕ) → i ≤ k → IsReach s a n k j p
    → IsReach s a n i j p
reach_later s a n i k j p le r =
    record { some = omega (arith, r.some); inside = r.inside; low = r.low; high = r.high }

-- what is reached lies within the text and among the atoms
pub Reaches_is : (s : List ℕ) (e : Expression) (n i j p : ℕ) → Reaches s e n i j p
    → IsReach s e n i j p
Reaches_is s Nothing n i j p h = absurd h
Reaches_is s (OneOf set) n i j p h =
    let within = slice_get_within s i h.2.character h.2.there in
    record {
      some = omega (arith, h.1);
      inside = omega (arith, h.1, within);
      low = omega (arith, h.0);
      high = omega (arith, h.0);
    }
Reaches_is s End n i j p h = absurd h
Reaches_is s (Sequence a b) n i j p (inl h) =
    let r = reach_left s a b n i j p (Reaches_is s a n i j p h) in
    record { some = r.some; inside = r.inside; low = r.low; high = r.high }
Reaches_is s (Sequence a b) n i j p (inr h) =
    let le = Reading_le s None a i h.0 h.1 in
    let r = reach_right s a b n i j p
    (reach_later s b (n + size a) i h.0 j p le (Reaches_is s b (n + size a) h.0 j p h.2)) in
    record { some = r.some; inside = r.inside; low = r.low; high = r.high }
Reaches_is s (Choice a b) n i j p (inl h) = reach_left s a b n i j p (Reaches_is s a n i j p h)
Reaches_is s (Choice a b) n i j p (inr h) =
    reach_right s a b n i j p (Reaches_is s b (n + size a) i j p h)
Reaches_is s (Star a) n i j p h =
    let le = chain_le (Reading_le s None a) i h.0 h.1 in
    let r = reach_later s a n i h.0 j p le (Reaches_is s a n h.0 j p h.2) in
    record { some = r.some; inside = r.inside; low = r.low; high = r.high }
Reaches_is s (Plus a) n i j p h =
    let le = chain_le (Reading_le s None a) i h.0 h.1 in
    let r = reach_later s a n i h.0 j p le (Reaches_is s a n h.0 j p h.2) in
    record { some = r.some; inside = r.inside; low = r.low; high = r.high }
Reaches_is s (Optional a) n i j p h =
    let r = Reaches_is s a n i j p h in record {
      some = r.some;
      inside = r.inside;
      low = r.low;
      high = r.high;
    }

-- ---- two texts that agree below a place

pub record Agree (s t : List ℕ) (n : ℕ) : Type 0 where
  pub same : (k : ℕ) → k < n → slice_get s k ≡ slice_get t k

-- a set reads the same in texts that agree
pub ReadsAt_agree : (s t : List ℕ) (n : ℕ) → Agree s t n → (set : CharacterSet) (i : ℕ) → i < n
    → ReadsAt s set i → ReadsAt t set i
ReadsAt_agree s t n agree set i lt r =
    record { character = r.character; there = sym (agree.same i lt) ∙ r.there; inside = r.inside }

-- an expression reads the same in texts that agree
pub Reading_agree : (s t : List ℕ) (n : ℕ) → Agree s t n → (e : Expression) (i j : ℕ) → j ≤ n
    → Reading s None e i j → Reading t None e i j
Reading_agree s t n agree Nothing i j le h = h
Reading_agree s t n agree (OneOf set) i j le h =
    (h.0, ReadsAt_agree s t n agree set i (omega (arith, h.0)) h.1)
Reading_agree s t n agree End i j le h = h
Reading_agree s t n agree (Sequence a b) i j le h =
    let below : h.0 ≤ n = let x = Reading_le s None b h.0 j h.2 in omega arith in
    (h.0, Reading_agree s t n agree a i h.0 below h.1, Reading_agree s t n agree b h.0 j le h.2)
Reading_agree s t n agree (Choice a b) i j le (inl h) = inl (Reading_agree s t n agree a i j le h)
Reading_agree s t n agree (Choice a b) i j le (inr h) = inr (Reading_agree s t n agree b i j le h)
Reading_agree s t n agree (Star a) i j le h =
    chain_mapped n (Reading_le s None a) (λ i j le r. Reading_agree s t n agree a i j le r) i j le h
Reading_agree s t n agree (Plus a) i j le h =
    let below : h.0 ≤ n = let x = chain_le (Reading_le s None a) h.0 j h.2 in omega arith in (
      h.0,
      Reading_agree s t n agree a i h.0 below h.1,
      chain_mapped n (Reading_le s None a) (λ i j le r. Reading_agree s t n agree a i j le r) h.0
          j le h.2,
    )
Reading_agree s t n agree (Optional a) i j le (inl h) = inl h
Reading_agree s t n agree (Optional a) i j le (inr h) = inr (Reading_agree s t n agree a i j le h)

-- an expression reaches the same in texts that agree
pub Reaches_agree : (s t : List ℕ) (m : ℕ) → Agree s t m → (e : Expression) (n i j p : ℕ) → j ≤ m
    → Reaches s e n i j p → Reaches t e n i j p
Reaches_agree s t m agree Nothing n i j p le h = h
Reaches_agree s t m agree (OneOf set) n i j p le h =
    (h.0, h.1, ReadsAt_agree s t m agree set i (omega (arith, h.1)) h.2)
Reaches_agree s t m agree End n i j p le h = h
Reaches_agree s t m agree (Sequence a b) n i j p le (inl h) =
    inl (Reaches_agree s t m agree a n i j p le h)
Reaches_agree s t m agree (Sequence a b) n i j p le (inr h) =
    let below : h.0 ≤ m = let x = (Reaches_is s b (n + size a) h.0 j p h.2).some in omega arith in
    inr (
      h.0,
      Reading_agree s t m agree a i h.0 below h.1,
      Reaches_agree s t m agree b (n + size a) h.0 j p le h.2,
    )
Reaches_agree s t m agree (Choice a b) n i j p le (inl h) =
    inl (Reaches_agree s t m agree a n i j p le h)
Reaches_agree s t m agree (Choice a b) n i j p le (inr h) =
    inr (Reaches_agree s t m agree b (n + size a) i j p le h)
Reaches_agree s t m agree (Star a) n i j p le h =
    let below : h.0 ≤ m = let x = (Reaches_is s a n h.0 j p h.2).some in omega arith in (
      h.0,
      chain_mapped m (Reading_le s None a) (λ i j le r. Reading_agree s t m agree a i j le r) i
          h.0 below h.1,
      Reaches_agree s t m agree a n h.0 j p le h.2,
    )
Reaches_agree s t m agree (Plus a) n i j p le h =
    let below : h.0 ≤ m = let x = (Reaches_is s a n h.0 j p h.2).some in omega arith in (
      h.0,
      chain_mapped m (Reading_le s None a) (λ i j le r. Reading_agree s t m agree a i j le r) i
          h.0 below h.1,
      Reaches_agree s t m agree a n h.0 j p le h.2,
    )
Reaches_agree s t m agree (Optional a) n i j p le h = Reaches_agree s t m agree a n i j p le h
