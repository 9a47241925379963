-- A pattern as one text and two places.
use Rattle.std.proofs.Common.{◌≡◌, ℕ, ◌+◌, ◌-◌, ◌≤◌, List, ◌++◌, length, take, drop, refl, sym, ap}
use Rattle.std.proofs.Common.{subst, ◌∙◌, arith, append_assoc, length-append, chars}
use Rattle.std.specs.Str.{IsUtf8, IsCharBoundary}
use Rattle.std.proofs.lemmas.Str.{encodes-chars, chars-append, IsUtf8-append, IsUtf8-take}
use Rattle.std.proofs.lemmas.Str.{IsUtf8-between, IsCharBoundary-at_seam}
use Rattle.std.proofs.lemmas.List.{take-append-drop, drop-drop}
use Rattle.std.proofs.Math.Seq.{take-append_seam, drop-append_seam}
use Rattle.icu_list.specs.Pattern.{IsPlace, pattern, pattern_at, texts}
use lib.Utf8.{encodes}

-- the bytes of a text by its characters
pub bytes_of : (text bytes : List ℕ) → IsUtf8 bytes → chars bytes ≡ text → encodes text ≡ bytes
bytes_of text bytes utf8 e = ap encodes (sym e) ∙ encodes-chars bytes utf8

-- a place in a text is one in its bytes
pub place_in : (text bytes : List ℕ) (n : ℕ) → IsUtf8 bytes → chars bytes ≡ text → IsPlace text n
    → IsCharBoundary bytes n
place_in text bytes n utf8 e h =
    subst (λ (b : List ℕ). IsCharBoundary b n) (bytes_of text bytes utf8 e) h

-- three texts, one behind the other
pub record Three (text p b s : List ℕ) : Type 0 where
  pub bytes : encodes text ≡ p ++ (b ++ s)
  pub utf8_between : IsUtf8 b
  pub utf8_suffix : IsUtf8 s

-- the first of three texts ends at a place
pub first_place : (text p b s : List ℕ) → Three text p b s → IsPlace text (length p)
first_place text p b s t =
    IsCharBoundary-at_seam (encodes text) p (b ++ s) t.bytes
    (IsUtf8-append b s t.utf8_between t.utf8_suffix)

-- the second of three texts ends at a place
pub second_place : (text p b s : List ℕ) (j : ℕ) → Three text p b s → j ≡ length p + length b
    → IsPlace text j
second_place text p b s j t e =
    subst (λ (n : ℕ). IsPlace text n) (length-append p b ∙ sym e)
    (IsCharBoundary-at_seam (encodes text) (p ++ b) s
    (t.bytes ∙ sym (append_assoc p b s)) t.utf8_suffix)

-- the pattern at these places is that of the three texts
pub pattern_is : (text p b s : List ℕ) (j : ℕ) → Three text p b s → j ≡ length p + length b
    → pattern_at text (length p) j ≡ pattern (chars p) (chars b) (chars s)
pattern_is text p b s j t e =
    let one : take (length p) (encodes text) ≡ p =
    ap (take (length p)) t.bytes ∙ take-append_seam p (b ++ s) in
    let rest : drop (length p) (encodes text) ≡ b ++ s =
    ap (drop (length p)) t.bytes ∙ drop-append_seam p (b ++ s) in
    let size : j - length p ≡ length b = omega arith in
    let two : take (j - length p) (drop (length p) (encodes text)) ≡ b =
    rw (size, rest) (take-append_seam b s) in
    let both : encodes text ≡ (p ++ b) ++ s = t.bytes ∙ sym (append_assoc p b s) in
    let all : j ≡ length (p ++ b) = e ∙ sym (length-append p b) in
    let three : drop j (encodes text) ≡ s = rw (all, both) (drop-append_seam (p ++ b) s) in
    rw (one, two, three) refl

-- ---- the parts, read from the bytes

module _ (text bytes : List ℕ) (i j : ℕ) (utf8 : IsUtf8 bytes) (e : chars bytes ≡ text) where
  -- what stands before the first place
  pub prefix_is : chars (take i bytes) ≡ (pattern_at text i j).prefix
  prefix_is = ap (λ (b : List ℕ). chars (take i b)) (sym (bytes_of text bytes utf8 e))

  -- what stands between the places
  pub between_is : chars (take (j - i) (drop i bytes)) ≡ (pattern_at text i j).between
  between_is =
      ap (λ (b : List ℕ). chars (take (j - i) (drop i b))) (sym (bytes_of text bytes utf8 e))

  -- what stands behind the second place
  pub suffix_is : chars (drop j bytes) ≡ (pattern_at text i j).suffix
  suffix_is = ap (λ (b : List ℕ). chars (drop j b)) (sym (bytes_of text bytes utf8 e))

-- the parts, one behind the other, are the text
pub texts_are : (text bytes : List ℕ) (i j : ℕ) → IsUtf8 bytes → chars bytes ≡ text → i ≤ j
    → IsPlace text i → IsPlace text j → texts (pattern_at text i j) ≡ chars bytes
texts_are text bytes i j utf8 e le first second =
    let b = bytes_of text bytes utf8 e in
    let at_first = place_in text bytes i utf8 e first in
    let at_second = place_in text bytes j utf8 e second in
    let one : IsUtf8 (take i bytes) = IsUtf8-take bytes i utf8 at_first in
    let two : IsUtf8 (take (j - i) (drop i bytes)) =
    IsUtf8-between bytes i j utf8 le at_first at_second in
    let rest : drop (j - i) (drop i bytes) ≡ drop j bytes =
    drop-drop (j - i) i bytes ∙ ap (λ n. drop n bytes) (omega arith) in
    let inner : take (j - i) (drop i bytes) ++ drop j bytes ≡ drop i bytes =
    ap (λ x. take (j - i) (drop i bytes) ++ x) (sym rest)
    ∙ take-append-drop (j - i) (drop i bytes) in
    ap (λ (x : List ℕ). chars (take i x) ++ (chars (take (j - i) (drop i x)) ++ chars (drop j x))) b
    ∙ ap (λ x. chars (take i bytes) ++ x)
    (sym (chars-append (take (j - i) (drop i bytes)) (drop j bytes) two) ∙ ap chars inner)
    ∙ sym (chars-append (take i bytes) (drop i bytes) one)
    ∙ ap chars (take-append-drop i bytes)

-- a place in the bytes is one in their text
pub place_from : (text bytes : List ℕ) (n : ℕ) → IsUtf8 bytes → chars bytes ≡ text
    → IsCharBoundary bytes n → IsPlace text n
place_from text bytes n utf8 e h =
    subst (λ (b : List ℕ). IsCharBoundary b n) (sym (bytes_of text bytes utf8 e)) h
