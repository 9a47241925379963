-- The words and the tokens of plural expressions.
use Rattle.std.proofs.Common.{◌≡◌, ℕ, suc, ◌+◌, ◌-◌, ◌*◌, ◌^◌, ◌<◌, ◌≤◌, Bool, true, false, cond}
use Rattle.std.proofs.Common.{ltb, leb, List, [], ◌∷◌, ◌++◌, length, take, drop, get_or, map}
use Rattle.std.proofs.Common.{Option, Some, None, refl, sym, ap, subst, ◌∙◌, arith, lit≤}
use Rattle.std.proofs.Common.{append_assoc}
use Rattle.std.specs.Prelude.{find, nat_eq, ◌==◌}
use Rattle.std.specs.Option.{option_map, option_map_or}
use Rattle.std.specs.List.{starts_with, list_all, prefix_len, take_while}
use Rattle.std.specs.Char.{is_ascii_digit, digit_value}
use Rattle.std.specs.Str.Parse.{digits_value, AllDigits}
use Rattle.std.specs.Borrow.{Bor}
use Rattle.std.proofs.lemmas.Bool.{and_parts, leb-true, ltb-true, lt-ltb, le-ltb}
use Rattle.std.proofs.lemmas.List.{length-take, append-nil}
use Rattle.std.proofs.lemmas.Slice.Eq.{bytes_eq-Decides}
use Rattle.std.proofs.lemmas.Str.{digit_value_digit}
use Rattle.std.proofs.lemmas.Str.Parse.{digit_at, digits_value-take-le}
use Rattle.std.proofs.lemmas.Int.Digits.{digits_value_more}
use Rattle.gettext.specs.declared.plurals.tokens.Token.{Token}
use Rattle.gettext.specs.declared.plurals.tokens.Token.TheVariants.{Numeral}
use Rattle.gettext.specs.Tokens.{words, word_at, measured, numeral_at, token_at, is_space, Reads}
use Rattle.gettext.specs.Tokens.{ends, space, token, IsUnreadable}

-- what isn't less fails the test
ge_ltb : (a b : ℕ) → (a < b → ⊥) → ltb a b ≡ false
ge_ltb a b ne = le-ltb a b (omega arith)

-- a borrowed word as a word
abbrev pub shown : Bor (List ℕ) × Token → List ℕ × Token
shown w = (w.0.now, w.1)

-- what is found among what is made of elements is made of the one that is found
find-map : {X Y : Type 0} (p : Y → Bool) (f : X → Y) (xs : List X)
    → find p (map f xs) ≡ option_map f (find (λ x. p (f x)) xs)
find-map p f [] = refl
find-map p f (x ∷ xs) = by_test (p (f x)) (find-map p f xs) where
  by_test : (b : Bool) → find p (map f xs) ≡ option_map f (find (λ x. p (f x)) xs)
      → cond b (Some (f x)) (find p (map f xs))
      ≡ option_map f (cond b (Some x) (find (λ x. p (f x)) xs))
  by_test true e = refl
  by_test false e = e

-- the word that the code finds is the one at the front
pub word_found : (text : List ℕ) (all : List (Bor (List ℕ) × Token))
    (r : Option (Bor (Bor (List ℕ) × Token))) → map shown all ≡ words
    → option_map (λ x. x.now) r ≡ find (λ w. starts_with nat_eq text w.0.now) all
    → option_map measured (word_at text) ≡ option_map (λ x. measured (shown x.now)) r
unfolding word_at
word_found text all r same e =
    ap (λ (ws : List (List ℕ × Token)).
    option_map measured (find (λ w. starts_with nat_eq text w.0) ws)) (sym same)
    ∙ ap (option_map measured)
    (find-map (λ w. starts_with nat_eq text w.0) shown all ∙ ap (option_map shown) (sym e))
    ∙ both r where
      both : (r : Option (Bor (Bor (List ℕ) × Token)))
          → option_map measured (option_map shown (option_map (λ x. x.now) r))
          ≡ option_map (λ x. measured (shown x.now)) r
      both None = refl
      both (Some x) = refl

-- ---- what is found

-- what a search finds passes its test, and any test that all pass
pub find_passes : {X : Type 0} (p q : X → Bool) (xs : List X) (x : X) → list_all q xs ≡ true
    → find p xs ≡ Some x → (p x ≡ true) × (q x ≡ true)
find_passes p q [] x all e = absurd cc
find_passes p q (y ∷ ys) x all e =
    let parts = and_parts (q y) (list_all q ys) all in
    by_test (p y) refl parts.0 (λ e. find_passes p q ys x parts.1 e) e where
      by_test : (b : Bool) → p y ≡ b → q y ≡ true
          → (find p ys ≡ Some x → (p x ≡ true) × (q x ≡ true))
          → cond b (Some y) (find p ys) ≡ Some x → (p x ≡ true) × (q x ≡ true)
      by_test true h first rest e = let same : y ≡ x = cc in (rw (← same) h, rw (← same) first)
      by_test false h first rest e = rest e

-- a text that begins with a word has it as its front
pub starts-prefix : (text w : List ℕ) → starts_with nat_eq text w ≡ true → w ≡ take (length w) text
starts-prefix text w e = (bytes_eq-Decides w (take (length w) text)).0 e

-- a word that is found is not empty and lies in the text
pub measured_inside : (text : List ℕ) (p : Token × ℕ) → option_map measured (word_at text) ≡ Some p
    → (0 < p.1) × (p.1 ≤ length text)
unfolding word_at
measured_inside text p e = by_word (find (λ w. starts_with nat_eq text w.0) words) refl e where
  by_word : (o : Option (List ℕ × Token)) → find (λ w. starts_with nat_eq text w.0) words ≡ o
      → option_map measured o ≡ Some p → (0 < p.1) × (p.1 ≤ length text)
  by_word None h e = absurd cc
  by_word (Some w) h e =
      let passes =
      find_passes (λ w. starts_with nat_eq text w.0) (λ w. ltb 0 (length w.0)) words w refl h in
      let front = starts-prefix text w.0 passes.0 in
      let len : length w.0 ≡ p.1 =
      ap (λ (o : Option (Token × ℕ)). option_map_or (λ q. q.1) o 0) e in
      let long : 0 < length w.0 = ltb-true 0 (length w.0) passes.1 in
      (omega arith, omega (arith, ap length front, length-take (length w.0) text))

-- ---- numerals

-- the digits at the front are digits
pub digits_front : (text : List ℕ) → AllDigits 10 (take (prefix_len is_ascii_digit text) text)
digits_front [] = tt
digits_front (c ∷ text) = by_test (is_ascii_digit c) refl (digits_front text) where
  by_test : (b : Bool) → is_ascii_digit c ≡ b
      → AllDigits 10 (take (prefix_len is_ascii_digit text) text)
      → AllDigits 10 (take (cond b (1 + prefix_len is_ascii_digit text) 0) (c ∷ text))
  by_test true h rest =
      let range = and_parts (leb 48 c) (leb c 57) h in
      let low : 48 ≤ c = leb-true 48 c range.0 in
      let high : c ≤ 57 = leb-true c 57 range.1 in
      let k : 1 + prefix_len is_ascii_digit text ≡ suc (prefix_len is_ascii_digit text) =
      omega arith in
      rw k (omega (arith, digit_value_digit c (low, high)), rest)
  by_test false h rest = tt

module _ (ds : List ℕ) (i n : ℕ) (digits : AllDigits 10 ds) (lt : i < length ds)
    (so_far : n ≡ digits_value 10 (take i ds)) where
  -- a digit is no less than `0`
  pub is_digit : 48 ≤ get_or ds i 0
  is_digit = (digit_at ds i digits lt).0

  -- a digit more: ten times the number, and the digit
  value_next : digits_value 10 (take (i + 1) ds) ≡ n * 10 + (get_or ds i 0 - 48)
  value_next =
      let range = digit_at ds i digits lt in
      let d = digit_value_digit (get_or ds i 0) range in
      let k : digit_value (get_or ds i 0) ≡ get_or ds i 0 - 48 = omega (arith, range.0, d) in
      rw (digits_value_more 10 ds i lt, k, so_far) refl

  -- a number that passes 64 bits on the way passes them
  pub too_large : (n * 10 + (get_or ds i 0 - 48) < 2 ^ 64 → ⊥) → digits_value 10 ds < 2 ^ 64 → ⊥
  too_large over small =
      over (omega (arith, digits_value-take-le 10 ds (i + 1) (lit≤ tt), value_next))

  -- so does one whose tenfold does
  pub too_large_before : (n * 10 < 2 ^ 64 → ⊥) → digits_value 10 ds < 2 ^ 64 → ⊥
  too_large_before over small =
      over (omega (arith, digits_value-take-le 10 ds (i + 1) (lit≤ tt), value_next))

  -- the number goes on with the digit
  pub goes_on : n * 10 + (get_or ds i 0 - 48) ≡ digits_value 10 (take (i + 1) ds)
  goes_on = sym value_next

-- ---- tokens

module _ (text ds : List ℕ) (is : ds ≡ take_while is_ascii_digit text) where
  -- a text without a digit in front begins with a word, if with a token
  pub is_word : (length ds == 0) ≡ true → option_map measured (word_at text) ≡ token_at text
  unfolding token_at
  is_word e = rw (← is, e) refl

  -- digits that pass 64 bits are no token
  pub is_no_token : (length ds == 0) ≡ false → (digits_value 10 ds < 2 ^ 64 → ⊥)
      → None ≡ token_at text
  unfolding token_at numeral_at
  is_no_token e large = rw (← is, e, ge_ltb (digits_value 10 ds) (2 ^ 64) large) refl

  -- digits that don't are a number
  pub is_numeral : (v : ℕ) → (length ds == 0) ≡ false → digits_value 10 ds < 2 ^ 64
      → v ≡ digits_value 10 ds → Some (Numeral v, length ds) ≡ token_at text
  unfolding token_at numeral_at
  is_numeral v e small same = rw (← is, e, lt-ltb (digits_value 10 ds) (2 ^ 64) small, same) refl

-- ---- reading

-- tokens were read of a text, and what is left goes on with them
pub record IsReading (text : List ℕ) (tokens : List Token) (rest : List ℕ) : Type 0 where
  pub on : (ts : List Token) → Reads rest ts → Reads text (tokens ++ ts)
  pub back : (us : List Token) → Reads text us
      → (ts : List Token) × Reads rest ts × (us ≡ tokens ++ ts)

-- behind white space the tokens are the same
pub unspace : (c : ℕ) (t : List ℕ) (ts : List Token) → is_space c ≡ true → Reads (c ∷ t) ts
    → Reads t ts
unspace c t ts h (space e r) = r
unspace c t ts h (token e at r) = absurd cc

-- white space is passed over
pub passes_space : (text : List ℕ) (tokens : List Token) (rest : List ℕ) (c : ℕ) (t : List ℕ)
    → rest ≡ c ∷ t → is_space c ≡ true → IsReading text tokens rest → IsReading text tokens t
passes_space text tokens rest c t e h r =
    let r' = rw e at r in
    record {
      on = λ ts q. r'.on ts (space h q);
      back = λ us q. let b = r'.back us q in (b.0, unspace c t b.0 h b.1, b.2);
    }

-- behind a token the tokens are the rest
pub untoken : (c : ℕ) (t : List ℕ) (us : List Token) (k : Token) (len : ℕ) → is_space c ≡ false
    → token_at (c ∷ t) ≡ Some (k, len) → Reads (c ∷ t) us
    → (ts : List Token) × Reads (drop len (c ∷ t)) ts × (us ≡ k ∷ ts)
untoken c t us k len h at (space e r) = absurd cc
untoken c t us k len h at (token {t = t'} {len = len'} {tokens = ts} e at' r) =
    let same : (t', len') ≡ (k, len) = cc in
    subst (λ (p : Token × ℕ). (us : List Token) × Reads (drop p.1 (c ∷ t)) us
    × (t' ∷ ts ≡ p.0 ∷ us)) same (ts, r, refl)

-- a token is read
pub passes_token : (text : List ℕ) (tokens : List Token) (rest : List ℕ) (c : ℕ) (t : List ℕ)
    (k : Token) (len : ℕ) → rest ≡ c ∷ t → is_space c ≡ false → token_at rest ≡ Some (k, len)
    → IsReading text tokens rest → IsReading text (tokens ++ k ∷ []) (drop len rest)
passes_token text tokens rest c t k len e h at r =
    let at' = rw e at at in
    record {
      on = λ ts q. let q' : Reads (drop len (c ∷ t)) ts = rw (← e) q in
          let whole : Reads text (tokens ++ k ∷ ts) = r.on (k ∷ ts) (rw e (token h at' q')) in
          rw append_assoc whole;
      back = λ us q.
          let b = r.back us q in
          let first : Reads (c ∷ t) b.0 = rw (← e) b.1 in
          let u = untoken c t b.0 k len h at' first in (
            u.0,
            rw e u.1,
            b.2 ∙ ap (λ (ts : List Token). tokens ++ ts) u.2
                ∙ sym (append_assoc tokens (k ∷ []) u.0),
          );
    }

-- with nothing left, the tokens are those of the text
pub all_read : (text : List ℕ) (tokens : List Token) (rest : List ℕ) → rest ≡ []
    → IsReading text tokens rest → Reads text tokens
all_read text tokens rest e r =
    let r' = rw e at r in
    let q : Reads text (tokens ++ []) = r'.on [] ends in
    rw append-nil at q
