-- Conditions in order, and what the readers of a file say of them.
use Rattle.std.proofs.Common.{◌≡◌, ℕ, suc, ◌+◌, ◌≤◌, ◌<◌, Bool, true, false, cond, not, ◌||◌, ltb}
use Rattle.std.proofs.Common.{List, [], ◌∷◌, length, get_or, take, drop, Option, Some, None, refl}
use Rattle.std.proofs.Common.{sym, ◌∙◌, arith, lit<, inl, inr}
use Rattle.std.specs.Int.{w32, from_le_bytes, from_be_bytes}
use Rattle.std.specs.Option.{unwrap_or}
use Rattle.std.specs.List.{list_any, position_or_len}
use Rattle.std.specs.Prelude.{◌==◌}
use Rattle.std.proofs.lemmas.Bool.{cases_lt, lt-ltb, le-ltb, ne_eqb, false_from_ne_true}
use Rattle.std.proofs.lemmas.List.Folds.{length-prefix_len}
use Rattle.std.proofs.lemmas.List.Sums.{position_or_len_is, prefix_len-le-length}
use Rattle.memchr.specs.Find.{IsFirst, Passes}
use Rattle.std.proofs.lemmas.List.{get_or-take, get_or-drop}
use Rattle.writeable_core.specs.FirstFailure.{Condition, first_failure}
use Rattle.writeable_core.specs.FirstFailureLaws.{failed_first, passed_first, head_passes}
use Rattle.gettext.specs.declared.error.Error.{Error}
use Rattle.std.specs.List.{AllByRecursion}
use Rattle.std.proofs.lemmas.Bool.Decides.{Decides-eqb, Decides-like, same_from_decides}
use Rattle.gettext.specs.declared.error.Error.TheVariants.{DecodingError, Eof, MisplacedMetadata}
use Rattle.gettext.specs.declared.encoding.Encoding.{Encoding}
use Rattle.gettext.specs.Encoding.{is_valid}
use Rattle.gettext.specs.Messages.{has_id, ends_context}
use Rattle.gettext.specs.Layout.{is_big_endian, number, is_nul, head_of}
use Rattle.gettext.specs.Faults.{head_conditions}

-- conditions behind others
pub ruleset by_parts = (failed_first, passed_first)

-- conditions without a fault all hold
pub all_hold : (cs : List (Condition Error)) → first_failure cs ≡ None
    → AllByRecursion (λ c. c.0 ≡ true) cs
all_hold [] h = tt
all_hold (c ∷ cs) h = let both = head_passes c cs h in (both.0, all_hold cs both.1)

-- a number, read byte by byte
module _ (b : List ℕ) (at : ℕ) where
  -- the bytes of a number stand one behind the other
  place : (i : ℕ) → i < 4 → get_or (take 4 (drop at b)) i 0 ≡ get_or b (at + i) 0
  place i h = get_or-take 4 (drop at b) i 0 h ∙ get_or-drop at b i 0

  -- four bytes, the least significant first, are the number of a little-endian file
  pub little_read : (big : Bool) → big ≡ is_big_endian b → big ≡ false
      → from_le_bytes w32
      (get_or b at 0 ∷ get_or b (at + 1) 0 ∷ get_or b (at + 2) 0 ∷ get_or b (at + 3) 0 ∷ [])
      ≡ number b at
  unfolding number
  little_read big e f = rw (← e, f)
      (grind (arith, place 0 (lit< tt), place 1 (lit< tt), place 2 (lit< tt), place 3 (lit< tt)))

  -- four bytes, the most significant first, are that of a big-endian one
  pub big_read : (big : Bool) → big ≡ is_big_endian b → big ≡ true
      → from_be_bytes w32
      (get_or b at 0 ∷ get_or b (at + 1) 0 ∷ get_or b (at + 2) 0 ∷ get_or b (at + 3) 0 ∷ [])
      ≡ number b at
  unfolding number
  big_read big e f = rw (← e, f)
      (grind (arith, place 0 (lit< tt), place 1 (lit< tt), place 2 (lit< tt), place 3 (lit< tt)))

-- a number in the order that the file names
pub ruleset numbers_read = (little_read, big_read)

-- ---- an original

-- one more on both sides leaves a comparison as it is
ltb_suc : (k n : ℕ) → ltb k n ≡ ltb (1 + k) (suc n)
ltb_suc k n =
    elim (cases_lt k n) [
      | inl lt ↦ rw (lt-ltb k n lt, lt-ltb (1 + k) (suc n) (omega arith)) refl
      | inr le ↦ rw (le-ltb k n le, le-ltb (1 + k) (suc n) (omega arith)) refl
    ]

-- some element passes exactly where the first that does stands inside
list_any_is : {X : Type 0} (p : X → Bool) (xs : List X)
    → list_any p xs ≡ ltb (position_or_len p xs) (length xs)
list_any_is p [] = refl
list_any_is p (x ∷ xs) =
    at_head (p x) (list_any p xs) (position_or_len p xs) (length xs) (list_any_is p xs) where
      at_head : (b r : Bool) (k n : ℕ) → r ≡ ltb k n
          → (b || r) ≡ ltb (cond (not b) (1 + k) 0) (suc n)
      at_head true r k n e = sym (lt-ltb 0 (suc n) (omega arith))
      at_head false r k n e = e ∙ ltb_suc k n

module _ (e : Encoding) (i : ℕ) (o : List ℕ) where
  -- what stands before the first NUL
  abbrev head : List ℕ
  head = take (position_or_len is_nul o) o

  -- how the conditions of an original go
  head_failure : first_failure (head_conditions e i o)
      ≡ cond (ltb (position_or_len is_nul o) (length o))
      (cond (is_valid e head) (cond ((i == 0) || has_id head) None (Some MisplacedMetadata))
      (Some DecodingError)) (Some Eof)
  unfolding head_conditions head_of
  head_failure = rw (list_any_is is_nul o) refl

  module _ (len : ℕ) (place : len ≡ position_or_len is_nul o) where
    -- an original without a NUL is too short
    pub has_no_nul : len ≡ length o → first_failure (head_conditions e i o) ≡ Some Eof
    has_no_nul all =
        rw (head_failure, le-ltb (position_or_len is_nul o) (length o) (omega arith)) refl

    module _ (inside : len ≡ length o → ⊥) where
      -- with a NUL its head ends before it does
      pub is_inside : len < length o
      is_inside = let short = prefix_len-le-length (λ x. not (is_nul x)) o in omega arith

      -- then the head is a text
      pub is_not_text : is_valid e (take len o) ≡ false
          → first_failure (head_conditions e i o) ≡ Some DecodingError
      is_not_text h =
          rw (
            head_failure,
            lt-ltb (position_or_len is_nul o) (length o) (rw (← place) is_inside),
            ← place,
            h,
          ) refl

      -- then it has an id past row 0
      pub has_no_id : is_valid e (take len o) ≡ true → (i ≡ 0 → ⊥) → has_id (take len o) ≡ false
          → first_failure (head_conditions e i o) ≡ Some MisplacedMetadata
      has_no_id p ne h =
          rw (
            head_failure,
            lt-ltb (position_or_len is_nul o) (length o) (rw (← place) is_inside),
            ← place,
            p,
            ne_eqb i 0 ne,
            h,
          ) refl

      -- then the original passes, and its key is the head
      pub is_key : is_valid e (take len o) ≡ true → ((i == 0) || has_id (take len o)) ≡ true
          → (len ≡ length (head_of o)) × (first_failure (head_conditions e i o) ≡ None)
      unfolding head_of
      is_key p h = (
        place ∙ sym (length-prefix_len (λ x. not (is_nul x)) o),
        rw (
          head_failure,
          lt-ltb (position_or_len is_nul o) (length o) (rw (← place) is_inside),
          ← place,
          p,
          h,
        ) refl,
      )

-- ---- an id

-- two equalities that follow from each other are one test
same_test : (a b c d : ℕ) → (a ≡ b → c ≡ d) → (c ≡ d → a ≡ b) → (a == b) ≡ (c == d)
same_test a b c d f g =
    same_from_decides (a == b) (c == d) (Decides-eqb a b)
    (Decides-like (c == d) g f (Decides-eqb c d))

-- where a context may end
pub ends-place : (key : List ℕ)
    → (position_or_len (λ byte. byte == 4) key + 1 == length key) ≡ ends_context key
ends-place [] = ne_eqb (0 + 1) 0 (λ e. omega (arith, e))
ends-place (c ∷ cs) = by_test (c == 4) (ends-place cs) where
  by_test : (t : Bool) → (position_or_len (λ byte. byte == 4) cs + 1 == length cs) ≡ ends_context cs
      → (cond (not t) (1 + position_or_len (λ byte. byte == 4) cs) 0 + 1 == suc (length cs))
      ≡ cond t (length cs == 0) (ends_context cs)
  by_test true rest = same_test (0 + 1) (suc (length cs)) (length cs) 0 (λ e. omega (arith, e))
      (λ e. omega (arith, e))
  by_test false rest = same_test (1 + position_or_len (λ byte. byte == 4) cs + 1) (suc (length cs))
      (position_or_len (λ byte. byte == 4) cs + 1) (length cs) (λ e. omega (arith, e))
      (λ e. omega (arith, e)) ∙ rest

-- ---- the first byte of a kind

module _ (p : ℕ → Bool) (text : List ℕ) where
  -- its place, or the length where there is none, as `memchr` and `unwrap_or` give it
  pub first_place : (r : Option ℕ) → IsFirst (Passes p text) 0 (length text) r
      → unwrap_or r (length text) ≡ position_or_len p text
  first_place None none =
      sym (position_or_len_is p text (length text) 0 (omega arith)
      (λ k lt. false_from_ne_true _ (none k (omega arith) lt)) (λ lt. absurd (omega arith)))
  first_place (Some k) found =
      sym (position_or_len_is p text k 0 (omega (arith, found.0.high))
      (λ i lt. false_from_ne_true _ (found.0.before i (omega arith) lt)) (λ lt. found.1))

  -- it stands within the text
  pub place_inside : (n : ℕ) → n ≡ position_or_len p text → n ≤ length text
  place_inside n is = rw is (prefix_len-le-length (λ x. not (p x)) text)
