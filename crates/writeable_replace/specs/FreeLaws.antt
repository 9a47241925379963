-- Text in which no occurrence begins.
use Rattle.std.specs.Prelude.{nat_eq, chars, IsUtf8, IsCharBoundary, slice_index}
use Rattle.std.specs.List.{starts_with}
use Rattle.std.proofs.Common.{◌≡◌, ℕ, ◌≤◌, ◌<◌, List, [], ◌∷◌, ◌++◌, length, take, drop, get_or}
use Rattle.std.proofs.Common.{refl, sym, ap, ◌∙◌, subst, arith, length-append}
use Rattle.std.proofs.lemmas.List.{get_or-append-add, get_or_append_left, get_or-take}
use Rattle.std.proofs.lemmas.List.{length-take-le}
use Rattle.std.proofs.lemmas.Bool.Decides.{Decides-eqb}
use Rattle.std.proofs.lemmas.Slice.Eq.{starts_is}
use Rattle.std.proofs.lemmas.Str.{chars-nil, encodes-chars, encodes-append, IsUtf8-take}
use Rattle.std.proofs.lemmas.Str.{IsCharBoundary-start, IsCharBoundary-end, length-encode}
use Rattle.std.proofs.lemmas.Str.{len_utf8_bounds}
use Rattle.writeable_replace.specs.Passed.{so_far, Came}
use Rattle.writeable_replace.specs.PassedLaws.{Run, done, more, run_came, nothing_came}
use Rattle.writeable_replace.specs.Position.{position, IsPosition, GoesOn, IsFree}
use Rattle.writeable_replace.specs.PositionLaws.{next_bytes, position_none}
use Rattle.writeable_replace.specs.TriedLaws.{tried_start, tried_none}
use lib.Utf8.{encode, encodes}

-- a text with no character that begins p passes as it is
run_free : (p r t : List ℕ) → ((x y : List ℕ) (c : ℕ) → x ++ (c ∷ y) ≡ t → GoesOn p 0 c → ⊥)
    → Run p r 0 t 0 t
run_free p r [] free = done 0
run_free p r (c ∷ t) free =
    more 0 c t 0 0 (c ∷ []) t
    (tried_none p r 0 c (omega arith) (tried_start p 0 c) (free [] t c refl))
    (run_free p r t (λ x y d e. free (c ∷ x) y d (ap (λ l. c ∷ l) e)))

-- nothing of the text
pub free_none : (needle text : List ℕ) (matched : ℕ) → IsUtf8 text → IsPosition needle matched
    → IsFree needle matched text 0
free_none needle text matched utf8 at = record {
  boundary = IsCharBoundary-start text utf8;
  came =
      λ r.
      subst
      (λ t. Came (chars needle) r (so_far (chars needle) (position needle matched) t)
      (position needle matched) t) (sym chars-nil)
      (nothing_came (chars needle) r (position needle matched) at.proper);
}

-- at the start of the needle, a text with no character that begins it
free_start : (needle text : List ℕ) (matched n : ℕ) → matched ≡ 0 → IsCharBoundary text n
    → ((x y : List ℕ) (c : ℕ) → x ++ (c ∷ y) ≡ chars (take n text) → GoesOn (chars needle) 0 c → ⊥)
    → IsFree needle matched text n
free_start needle text matched n start at free = record {
  boundary = at;
  came = λ r.
      let t = chars (take n text) in
      let k : 0 ≡ position needle matched =
      sym (ap (position needle) start ∙ position_none needle) in
      subst (λ k. Came (chars needle) r (so_far (chars needle) k t) k t) k
      (run_came (chars needle) r (run_free (chars needle) r t free) (omega arith));
}

-- an empty needle begins nowhere
pub free_all : (needle text : List ℕ) (matched : ℕ) → matched ≡ 0 → needle ≡ []
    → IsFree needle matched text (length text)
free_all needle text matched start none =
    free_start needle text matched (length text) start (IsCharBoundary-end text)
    (λ x y c e on.
    let empty : chars needle ≡ [] = ap chars none ∙ chars-nil in
    let no : [] ≡ c ∷ [] = ap (take 1) (sym empty) ∙ on ∙ refl in
    cc)

-- the first byte of a text that begins with a character's bytes
first_byte : (c : ℕ) (z : List ℕ) → get_or (encode c ++ z) 0 0 ≡ get_or (encode c) 0 0
first_byte c z = let bounds = len_utf8_bounds c in
    get_or_append_left (encode c) z 0 0 (omega (arith, length-encode c, bounds.0))

-- a character that begins the needle has its first byte
begins_with_byte : (needle t x y : List ℕ) (c : ℕ) → IsUtf8 needle → t ≡ encodes (x ++ (c ∷ y))
    → GoesOn (chars needle) 0 c
    → (get_or t (length (encodes x)) 0 ≡ get_or needle 0 0) × (length (encodes x) < length t)
begins_with_byte needle t x y c utf8 is on =
    let k = length (encodes x) in
    let there = next_bytes needle 0 c utf8 (IsCharBoundary-start needle utf8)
    (subst (λ i. GoesOn (chars needle) i c) (sym (position_none needle)) on) in
    let begins =
    (starts_is Decides-eqb needle (encode c) (starts_with nat_eq needle (encode c)) refl).0
    there in
    let parts : t ≡ encodes x ++ (encode c ++ encodes y) = is ∙ encodes-append x (c ∷ y) in
    let bounds = len_utf8_bounds c in
    let sum = ap length parts ∙ length-append (encodes x) (encode c ++ encodes y) in (
      ap (λ s. get_or s k 0) parts
          ∙ ap (λ i. get_or (encodes x ++ (encode c ++ encodes y)) i 0) (omega arith)
          ∙ get_or-append-add (encodes x) (encode c ++ encodes y) 0 0 ∙ first_byte c (encodes y)
          ∙ sym (ap (λ s. get_or s 0 0) begins ∙ first_byte c (drop (length (encode c)) needle)),
      omega (arith, length-append (encode c) (encodes y), length-encode c, bounds.0),
    )

-- up to the first byte of the needle no character begins it
pub free_to : (needle text : List ℕ) (matched n : ℕ) → IsUtf8 needle → IsUtf8 text → matched ≡ 0
    → 1 ≤ length needle → n ≤ length text
    → ((k : ℕ) → k < n → slice_index text k ≡ get_or needle 0 0 → ⊥)
    → (n < length text → slice_index text n ≡ get_or needle 0 0)
    → IsFree needle matched text n
free_to needle text matched n utf8 text_utf8 start some within before found =
    let lead = IsCharBoundary-start needle utf8 in
    let at : IsCharBoundary text n = (
      within,
      λ less high. subst (λ b. 192 ≤ b) (sym (found less))
          (lead.1 (omega arith) (subst (λ b. 128 ≤ b) (found less) high)),
    ) in
    free_start needle text matched n start at
    (λ x y c e on.
    let front = IsUtf8-take text n text_utf8 at in
    let byte =
    begins_with_byte needle (take n text) x y c utf8
    (sym (encodes-chars (take n text) front) ∙ ap encodes (sym e)) on in
    let less : length (encodes x) < n = omega (arith, byte.1, length-take-le n text within) in
    before (length (encodes x)) less
    (sym (get_or-take n text (length (encodes x)) 0 less) ∙ byte.0))
