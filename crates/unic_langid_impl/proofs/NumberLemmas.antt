-- A search in numbers that ascend, and the number of a text's bytes.
use Rattle.std.proofs.Common.{◌≡◌, ℕ, zero, suc, ◌+◌, ◌-◌, ◌<◌, ◌≤◌, Bool, true, false, nat_lt}
use Rattle.std.proofs.Common.{List, [], ◌∷◌, ◌++◌, length, get_or, drop, replicate, length-append}
use Rattle.std.proofs.Common.{Result, Ok, Err, is_ok, refl, sym, ap, ◌∙◌, arith}
use Rattle.std.specs.Prelude.{IsTrue}
use Rattle.std.specs.Cmp.{first_so, nat_eq_equiv, second_so}
use Rattle.std.specs.Int.{byte_worth, from_le_bytes, sum_through, to_le_bytes, w32, w64}
use Rattle.std.specs.List.{All}
use Rattle.std.specs.List.Sorted.{IsBinarySearchResult}
use Rattle.std.specs.Ordering.{nat_cmp}
use Rattle.std.proofs.lemmas.Bool.Decides.{nat_tests}
use Rattle.std.proofs.lemmas.List.{drop-replicate, get_or_default, length-replicate}
use Rattle.std.proofs.lemmas.List.Elements.{All-head, All-tail}
use Rattle.std.proofs.lemmas.Nat.{le_bytes_4, le_bytes_8}
use Rattle.tinystr.specs.Text.{IsTextByte, unpadded}
use Rattle.std.proofs.lemmas.List.Sorted.{searched}
use Rattle.std.proofs.lemmas.Map.Views.{Contains-from_any, list_any-from_Contains}
use Rattle.unic_langid_impl.specs.Direction.{is_in}
use Rattle.unic_langid_impl.specs.Numbers.{ascends, is_below_first}
use borrow.Author.Tests.{eqb-true}

head-below : (x : ℕ) (xs : List ℕ) → ascends (x ∷ xs) ≡ true → (k : ℕ) → k < length xs
    → x ≤ get_or xs k 0
head-below x [] h k lt = absurd (omega (arith, lt))
head-below x (y ∷ ys) h zero lt = let e : nat_lt x y ≡ true =
    first_so (nat_lt x y) (ascends (y ∷ ys)) h in grind (arith, nat_tests)
head-below x (y ∷ ys) h (suc k) lt =
    let e : nat_lt x y ≡ true = first_so (nat_lt x y) (ascends (y ∷ ys)) h in
    let le : x ≤ y = grind (arith, nat_tests) in
    let rest =
    head-below y ys (second_so (nat_lt x y) (ascends (y ∷ ys)) h) k (omega (arith, lt)) in
    omega (arith, le, rest)

ascends-far : (xs : List ℕ) → ascends xs ≡ true → (i j : ℕ) → i ≤ j → j < length xs
    → get_or xs i 0 ≤ get_or xs j 0
ascends-far [] h i j le lt = absurd (omega (arith, lt))
ascends-far (x ∷ xs) h zero zero le lt = omega arith
ascends-far (x ∷ xs) h zero (suc j) le lt = head-below x xs h j (omega (arith, lt))
ascends-far (x ∷ xs) h (suc i) zero le lt = absurd (omega (arith, le))
ascends-far (x ∷ xs) h (suc i) (suc j) le lt =
    ascends-far xs (second_so (is_below_first x xs) (ascends xs) h) i j (omega (arith, le))
    (omega (arith, lt))

by_answer : (b : Bool) → (b ≡ true → ⊥) → b ≡ false
by_answer true no_way = absurd (no_way refl)
by_answer false no_way = refl

pub searched-is_in : (xs : List ℕ) (x : ℕ) (r : Result ℕ ℕ) (b : Bool) → b ≡ is_ok r
    → IsTrue (ascends xs)
    → IsBinarySearchResult (λ y. nat_cmp y x) xs r → b ≡ is_in xs x
searched-is_in xs x (Ok i) b is h found =
    let (lt, at) = searched xs x (Ok i) found (ascends-far xs h) in
    is ∙ sym (list_any-from_Contains nat_eq_equiv x xs (i, lt, get_or_default xs i x 0 lt ∙ at))
searched-is_in xs x (Err i) b is h missing =
    let (within, below, above) = searched xs x (Err i) missing (ascends-far xs h) in
    is ∙ sym (by_answer (is_in xs x) (λ one.
    let (k, lt, at) = Contains-from_any (λ p q e. eqb-true p q e) x xs one in
    let at_zero : get_or xs k 0 ≡ x = get_or_default xs k 0 x lt ∙ at in
    by_place (nat_lt k i) k refl lt at_zero below above))
  where
    by_place : (before : Bool) (k : ℕ) → nat_lt k i ≡ before → k < length xs → get_or xs k 0 ≡ x
        → ((k : ℕ) → k < i → get_or xs k 0 < x)
        → ((k : ℕ) → i ≤ k → k < length xs → x < get_or xs k 0) → ⊥
    by_place true k e lt at below above =
        let less : k < i = grind (arith, nat_tests) in absurd (omega (arith, below k less, at))
    by_place false k e lt at below above =
        let more : i ≤ k = grind (arith, nat_tests) in absurd (omega (arith, above k more lt, at))

-- ---- a text's bytes, and zeros behind them

abbrev nought : ℕ
nought = 0

get_or-zeros : (n i : ℕ) → get_or (replicate n nought) i 0 ≡ nought
get_or-zeros zero i = refl
get_or-zeros (suc n) zero = refl
get_or-zeros (suc n) (suc i) = get_or-zeros n i

get_or-padded : (text : List ℕ) (n i : ℕ)
    → get_or (text ++ replicate n nought) i 0 ≡ get_or text i 0
get_or-padded [] n i = get_or-zeros n i
get_or-padded (c ∷ text) n zero = refl
get_or-padded (c ∷ text) n (suc i) = get_or-padded text n i

sum-same : (f g : ℕ → ℕ) → ((i : ℕ) → f i ≡ g i) → (k : ℕ) → sum_through f k ≡ sum_through g k
sum-same f g same zero = same 0
sum-same f g same (suc k) = λ n. sum-same f g same k n + same (suc k) n

module _ (text : List ℕ) (n : ℕ) where
  pub raw-padded_64 : from_le_bytes w64 (text ++ replicate n nought) ≡ from_le_bytes w64 text
  raw-padded_64 = sum-same _ _ (λ i. ap (byte_worth i) (get_or-padded text n i)) 7

  pub raw-padded_32 : from_le_bytes w32 (text ++ replicate n nought) ≡ from_le_bytes w32 text
  raw-padded_32 = sum-same _ _ (λ i. ap (byte_worth i) (get_or-padded text n i)) 3

-- a text that is copied to the front of zeros
module _ (front text : List ℕ) (k : ℕ) (same : front ≡ text) where
  pub number-filled_32 : from_le_bytes w32 (front ++ drop k (replicate 4 nought))
      ≡ from_le_bytes w32 text
  number-filled_32 =
      (λ i. from_le_bytes w32 (same i ++ drop-replicate {X = ℕ} k 4 nought i))
      ∙ raw-padded_32 text (4 - k)

  pub number-filled_64 : from_le_bytes w64 (front ++ drop k (replicate 8 nought))
      ≡ from_le_bytes w64 text
  number-filled_64 =
      (λ i. from_le_bytes w64 (same i ++ drop-replicate {X = ℕ} k 8 nought i))
      ∙ raw-padded_64 text (8 - k)

-- ---- and found again

found-plain : (c : ℕ) (text : List ℕ) → 0 < c → unpadded (c ∷ text) ≡ c ∷ unpadded text
found-plain c text h = grind (arith, nat_tests)

unpadded-zeros : (n : ℕ) → unpadded (replicate n nought) ≡ []
unpadded-zeros zero = refl
unpadded-zeros (suc n) = refl

unpadded-text : (n : ℕ) (text : List ℕ) → All IsTextByte text
    → unpadded (text ++ replicate n nought) ≡ text
unpadded-text n [] h = unpadded-zeros n
unpadded-text n (c ∷ text) h =
    found-plain c (text ++ replicate n nought) (All-head IsTextByte c text h).0
    ∙ ap (λ rest. c ∷ rest) (unpadded-text n text (All-tail IsTextByte c text h))

small-byte : (text : List ℕ) (n i : ℕ) → All IsTextByte text
    → get_or (text ++ replicate n nought) i 0 < 256
small-byte text n i h = rw (get_or-padded text n i) (go text h i)
  where
    go : (l : List ℕ) → All IsTextByte l → (i : ℕ) → get_or l i 0 < 256
    go [] h i = omega arith
    go (c ∷ l) h zero = let b = All-head IsTextByte c l h in omega (arith, b.1)
    go (c ∷ l) h (suc i) = go l (All-tail IsTextByte c l h) i

module _ (text : List ℕ) (number : ℕ) (h : All IsTextByte text) where
  pub bytes-text_32 : length text ≤ 4 → from_le_bytes w32 text ≡ number
      → unpadded (to_le_bytes w32 number) ≡ text
  bytes-text_32 fits is =
      let zeros = 4 - length text in
      ap unpadded (le_bytes_4 (text ++ replicate zeros nought) number
      (length-append text (replicate zeros nought)
      ∙ ap (λ n. length text + n) (length-replicate zeros nought) ∙ omega arith)
      (λ i. small-byte text zeros i h) (sym is ∙ sym (raw-padded_32 text zeros)))
      ∙ unpadded-text zeros text h

  pub bytes-text_64 : length text ≤ 8 → from_le_bytes w64 text ≡ number
      → unpadded (to_le_bytes w64 number) ≡ text
  bytes-text_64 fits is =
      let zeros = 8 - length text in
      ap unpadded (le_bytes_8 (text ++ replicate zeros nought) number
      (length-append text (replicate zeros nought)
      ∙ ap (λ n. length text + n) (length-replicate zeros nought) ∙ omega arith)
      (λ i. small-byte text zeros i h) (sym is ∙ sym (raw-padded_64 text zeros)))
      ∙ unpadded-text zeros text h
