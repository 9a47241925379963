-- Reading a pattern by its cuts.
use Rattle.std.proofs.Common.{◌≡◌, ℕ, ◌+◌, ◌-◌, ◌≤◌, ◌<◌, Bool, true, false, ◌||◌, List, [], ◌∷◌}
use Rattle.std.proofs.Common.{◌++◌, length, take, drop, Some, None, Ok, Err, Result, refl, sym, ap}
use Rattle.std.proofs.Common.{◌∙◌, arith, codes, length-append}
use Rattle.std.specs.Prelude.{nat_le, nat_eq, ◌&&◌, IfOk, IfErr}
use Rattle.std.specs.Str.{chars, IsUtf8}
use Rattle.std.proofs.lemmas.Str.{chars-append, IsUtf8-append, encodes-chars, length-le-encodes}
use lib.Utf8.{encodes}
use Rattle.std.specs.List.{starts_with, ends_with}
use Rattle.std.proofs.lemmas.Slice.Eq.{bytes_eq-Decides}
use Rattle.std.proofs.Math.Seq.{take-append_seam, drop-append_seam}
use Rattle.std.proofs.lemmas.List.{length-drop, take-append-drop, drop-drop}
use Rattle.icu_list.proofs.Cuts.{begins, begun}
use Rattle.writeable_core.specs.Hint.{byte_length}
use Rattle.writeable_core.specs.TextLaws.{byte_length-chars}
use Rattle.icu_list.specs.Pattern.{Pattern, pattern}
use Rattle.icu_list.specs.PatternTexts.{cut, first_item, second_item, pattern_by, pattern_behind}
use Rattle.icu_list.specs.PatternTexts.{pattern_of, is_empty, joiner_by, most_bytes, joiner, middle}
use Rattle.icu_list.specs.PatternTexts.{is_middle, IsFaultOf, IsFaultStoring}
use Rattle.icu_list.specs.declared.error.DataError.TheVariants.{InvalidPattern, CannotStore}
use Rattle.icu_list.specs.declared.error.DataError.TheVariants.{Condition, MissingLocale}
use Rattle.icu_list.specs.declared.error.DataError.TheVariants.{NotJsonForm, NoMemory}
use Rattle.icu_list.specs.declared.error.DataError.{DataError}
use Rattle.std.proofs.lemmas.Bool.{leb-true, leb-false}

-- the characters of `{0}`
pub first_characters : chars (codes "{0}") ≡ first_item
unfolding chars
first_characters = refl

-- the characters of `{1}`
pub second_characters : chars (codes "{1}") ≡ second_item
unfolding chars
second_characters = refl

-- a text without first place has no pattern
pub no_first : (text : List ℕ) → cut (chars (codes "{0}")) text ≡ None → pattern_of text ≡ None
no_first text h = ap (λ (w : List ℕ). pattern_behind (cut w text)) (sym first_characters)
    ∙ ap pattern_behind h

-- past the first cut
behind_first : (text prefix rest : List ℕ) → cut (chars (codes "{0}")) text ≡ Some (prefix, rest)
    → pattern_of text
    ≡ pattern_by prefix (cut (chars (codes "{1}")) prefix) (cut (chars (codes "{1}")) rest)
behind_first text prefix rest h =
    ap (λ (w : List ℕ). pattern_behind (cut w text)) (sym first_characters) ∙ ap pattern_behind h
    ∙ ap (λ (w : List ℕ). pattern_by prefix (cut w prefix) (cut w rest)) (sym second_characters)

-- nor has one whose second place stands before the first
pub early_second : (text prefix rest : List ℕ) (x : List ℕ × List ℕ)
    → cut (chars (codes "{0}")) text ≡ Some (prefix, rest)
    → cut (chars (codes "{1}")) prefix ≡ Some x → pattern_of text ≡ None
early_second text prefix rest x h e =
    behind_first text prefix rest h
    ∙ ap (λ o. pattern_by prefix o (cut (chars (codes "{1}")) rest)) e

-- nor has one without second place
pub no_second : (text prefix rest : List ℕ) → cut (chars (codes "{0}")) text ≡ Some (prefix, rest)
    → cut (chars (codes "{1}")) prefix ≡ None → cut (chars (codes "{1}")) rest ≡ None
    → pattern_of text ≡ None
no_second text prefix rest h e f =
    behind_first text prefix rest h
    ∙ ap (λ o. pattern_by prefix o (cut (chars (codes "{1}")) rest)) e
    ∙ ap (pattern_by prefix None) f

-- a text with both places has a pattern
pub all_parts : (text prefix rest between suffix : List ℕ)
    → cut (chars (codes "{0}")) text ≡ Some (prefix, rest)
    → cut (chars (codes "{1}")) prefix ≡ None
    → cut (chars (codes "{1}")) rest ≡ Some (between, suffix)
    → pattern_of text ≡ Some (pattern prefix between suffix)
all_parts text prefix rest between suffix h e f =
    behind_first text prefix rest h
    ∙ ap (λ o. pattern_by prefix o (cut (chars (codes "{1}")) rest)) e
    ∙ ap (pattern_by prefix None) f

-- ---- what is asked of a pattern

-- a prefix that isn't allowed is refused
pub not_allowed_prefix : (a b : Bool) (p : Pattern) → (a || is_empty p.prefix) ≡ false
    → joiner_by a b (Some p) ≡ Err InvalidPattern
not_allowed_prefix a b p h = rw h refl

-- a suffix that isn't allowed is refused
pub not_allowed_suffix : (a b : Bool) (p : Pattern) → (a || is_empty p.prefix) ≡ true
    → (b || is_empty p.suffix) ≡ false → joiner_by a b (Some p) ≡ Err InvalidPattern
not_allowed_suffix a b p h k = rw (h, k) refl

-- too many bytes are refused
pub not_stored : (a b : Bool) (p : Pattern) → (a || is_empty p.prefix) ≡ true
    → (b || is_empty p.suffix) ≡ true
    → nat_le (byte_length (p.prefix ++ p.between)) most_bytes ≡ false
    → joiner_by a b (Some p) ≡ Err CannotStore
not_stored a b p h k l = rw (h, k, l) refl

-- a pattern that is allowed and small enough is accepted
pub stored : (a b : Bool) (p : Pattern) → (a || is_empty p.prefix) ≡ true
    → (b || is_empty p.suffix) ≡ true
    → nat_le (byte_length (p.prefix ++ p.between)) most_bytes ≡ true → joiner_by a b (Some p) ≡ Ok p
stored a b p h k l = rw (h, k, l) refl

-- the bytes before the second place
pub bytes_before : (p b : List ℕ) → IsUtf8 p → IsUtf8 b
    → byte_length (chars p ++ chars b) ≡ length p + length b
bytes_before p b up ub =
    ap byte_length (sym (chars-append p b up))
    ∙ byte_length-chars (p ++ b) (IsUtf8-append p b up ub) ∙ length-append p b

-- the characters of no byte
pub is_empty-chars : (text : List ℕ) → IsUtf8 text → (b : Bool) → (b ≡ true → length text ≡ 0)
    → (b ≡ false → 0 < length text) → b ≡ is_empty (chars text)
is_empty-chars text utf8 b none some = by (chars text) (encodes-chars text utf8) b none some where
  by : (cs : List ℕ) → encodes cs ≡ text → (b : Bool) → (b ≡ true → length text ≡ 0)
      → (b ≡ false → 0 < length text) → b ≡ is_empty cs
  by [] e true none some = refl
  by [] e false none some = let l = ap length e in absurd (omega (arith, some refl))
  by (c ∷ cs) e true none some = let l = ap length e in let m = length-le-encodes (c ∷ cs) in
      absurd (omega (arith, none refl))
  by (c ∷ cs) e false none some = refl

-- ---- what storing a pattern gives

-- the test of a number that is no greater
pub nat_le_true : (a b : ℕ) → a ≤ b → nat_le a b ≡ true
nat_le_true a b h = by (nat_le a b) refl where
  by : (t : Bool) → nat_le a b ≡ t → nat_le a b ≡ true
  by true e = e
  by false e = absurd (omega (arith, leb-false a b e))

-- the test of a number that is greater
nat_le_false : (a b : ℕ) → b < a → nat_le a b ≡ false
nat_le_false a b h = by (nat_le a b) refl where
  by : (t : Bool) → nat_le a b ≡ t → nat_le a b ≡ false
  by true e = absurd (omega (arith, leb-true a b e))
  by false e = e

module _ (a b : Bool) (text : List ℕ) (p : Pattern) (n : ℕ) (of : pattern_of text ≡ Some p)
    (before : (a || is_empty p.prefix) ≡ true) (behind : (b || is_empty p.suffix) ≡ true)
    (size : byte_length (p.prefix ++ p.between) ≡ n) where
  -- the pattern that is read
  pub read_ok : (r : Result Pattern DataError) → IfOk r (λ q. q ≡ p) → IfOk r (λ q. n ≤ 255)
      → IfOk r (λ q. joiner a b text ≡ Ok q)
  read_ok (Ok q) same fits =
      ap (joiner_by a b) of ∙ stored a b p before behind
      (nat_le_true (byte_length (p.prefix ++ p.between)) 255 (omega (arith, size, fits)))
      ∙ ap (λ (x : Pattern). Ok x) (sym same)
  read_ok (Err e) same fits = tt

  -- the fault that is answered
  pub read_err : (r : Result Pattern DataError) → IfErr r (IsFaultStoring n)
      → IfErr r (IsFaultOf (joiner a b text))
  read_err (Ok q) h = tt
  read_err (Err InvalidPattern) h = absurd (let e = h.0 in cc)
  read_err (Err CannotStore) h =
      ap (joiner_by a b) of ∙ not_stored a b p before behind
      (nat_le_false (byte_length (p.prefix ++ p.between)) 255 (omega (arith, size, h.1)))
  read_err (Err (Condition x)) h = absurd (let e = h.0 in cc)
  read_err (Err MissingLocale) h = absurd (let e = h.0 in cc)
  read_err (Err NotJsonForm) h = absurd (let e = h.0 in cc)
  read_err (Err NoMemory) h = tt

-- ---- middle patterns

-- both parts of a test
and_both : (a b : Bool) → (a && b) ≡ true → (a ≡ true) × (b ≡ true)
and_both true true h = (refl, refl)
and_both true false h = absurd cc
and_both false b h = absurd cc

-- a middle pattern
middle_yes : (text : List ℕ) → is_middle text ≡ true
    → middle text ≡ Ok (take (length text - 6) (drop 3 text))
middle_yes text h = rw h refl

-- a text that is no middle pattern
pub middle_no : (text : List ℕ) → is_middle text ≡ false → middle text ≡ Err InvalidPattern
middle_no text h = rw h refl

-- `{0}`, a text and `{1}` are a middle pattern
pub middle_is : (m : List ℕ) → middle (first_item ++ (m ++ second_item)) ≡ Ok m
middle_is m =
    let text : List ℕ = first_item ++ (m ++ second_item) in
    let size : length (m ++ second_item) ≡ length m + 3 = length-append m second_item in
    let long : nat_le 6 (length text) ≡ true = nat_le_true 6 (length text) (omega arith) in
    let front : starts_with nat_eq text first_item ≡ true = begins first_item (m ++ second_item) in
    let split : text ≡ (first_item ++ m) ++ second_item = refl in
    let gap : length text - 3 ≡ length (first_item ++ m) = omega arith in
    let back : ends_with nat_eq text second_item ≡ true =
    (bytes_eq-Decides second_item (drop (length text - 3) text)).1
    (sym (ap (λ n. drop n text) gap ∙ drop-append_seam (first_item ++ m) second_item)) in
    let yes : is_middle text ≡ true = rw (long, front, back) refl in
    let inner : length text - 6 ≡ length m = omega arith in
    middle_yes text yes ∙ ap (λ n. Ok (take n (m ++ second_item))) inner
    ∙ ap (λ (x : List ℕ). Ok x) (take-append_seam m second_item)

-- and each middle pattern is of that shape
pub middle_shape : (text : List ℕ) → is_middle text ≡ true
    → (m : List ℕ) × (text ≡ first_item ++ (m ++ second_item))
middle_shape text h =
    let parts =
    and_both (nat_le 6 (length text))
    (starts_with nat_eq text first_item && ends_with nat_eq text second_item) h in
    let ends =
    and_both (starts_with nat_eq text first_item) (ends_with nat_eq text second_item) parts.1 in
    let long = leb-true 6 (length text) parts.0 in
    let front = begun text first_item ends.0 in
    let last : second_item ≡ drop (length text - 3) text =
    (bytes_eq-Decides second_item (drop (length text - 3) text)).0 ends.1 in
    let tail : List ℕ = drop 3 text in
    let size : length tail ≡ length text - 3 = length-drop 3 text in
    let inner : drop (length tail - 3) tail ≡ second_item =
    drop-drop (length tail - 3) 3 text ∙ ap (λ n. drop n text) (omega arith) ∙ sym last in (
      take (length tail - 3) tail,
      front ∙ ap (λ x. first_item ++ x)
          (sym (take-append-drop (length tail - 3) tail)
          ∙ ap (λ x. take (length tail - 3) tail ++ x) inner),
    )
