-- Positions in a text, in bytes and in characters.
use Rattle.std.specs.Prelude.{nat_eq, IsUtf8, IsCharBoundary, chars, slice_index}
use Rattle.std.specs.List.{starts_with}
use Rattle.std.specs.Char.{len_utf8}
use Rattle.std.proofs.Common.{◌≡◌, ℕ, ◌+◌, ◌-◌, ◌≤◌, ◌<◌, suc, true, List, [], ◌∷◌, ◌++◌, length}
use Rattle.std.proofs.Common.{take, drop, get_or, refl, sym, ap, ◌∙◌, subst, arith, append_assoc}
use Rattle.std.proofs.Common.{length-append, ◌⊎◌, inl, inr}
use Rattle.std.proofs.lemmas.List.{length-take-le, length-drop, take_at, take-append-drop}
use Rattle.std.proofs.lemmas.List.{append_cancel_left, append_cancel_right, get_or-drop}
use Rattle.std.proofs.lemmas.List.{get_or-take}
use Rattle.std.proofs.lemmas.Bool.{cases_lt}
use Rattle.std.proofs.lemmas.Bool.Decides.{Decides-eqb}
use Rattle.std.proofs.lemmas.Slice.Eq.{starts_is}
use Rattle.std.proofs.lemmas.Str.{chars-nil, chars-append, chars_past_char, encodes-chars}
use Rattle.std.proofs.lemmas.Str.{encodes-append, length-le-encodes, IsUtf8-take, IsUtf8-drop}
use Rattle.std.proofs.lemmas.Str.{IsCharBoundary-start, IsCharBoundary-from_take}
use Rattle.std.proofs.lemmas.Str.{IsCharBoundary-past_char, drop_past_char}
use Rattle.std.proofs.Math.Seq.{take-add, take-append_seam, drop-append_seam}
use Rattle.writeable_replace.specs.Overlap.{Ends}
use Rattle.writeable_replace.specs.Position.{position, GoesOn, Next, Border}
use lib.Utf8.{encode, encodes}

-- ---- fronts

-- a text is its front and what is behind it, in characters too
pub cut_chars : (bytes : List ℕ) (n : ℕ) → IsUtf8 bytes → IsCharBoundary bytes n
    → chars bytes ≡ chars (take n bytes) ++ chars (drop n bytes)
cut_chars bytes n utf8 at =
    ap chars (sym (take-append-drop n bytes))
    ∙ chars-append (take n bytes) (drop n bytes) (IsUtf8-take bytes n utf8 at)

-- the first n bytes are the first characters
pub front_chars : (bytes : List ℕ) (n : ℕ) → IsUtf8 bytes → IsCharBoundary bytes n
    → chars (take n bytes) ≡ take (position bytes n) (chars bytes)
front_chars bytes n utf8 at =
    sym (ap (take (position bytes n)) (cut_chars bytes n utf8 at)
    ∙ take-append_seam (chars (take n bytes)) (chars (drop n bytes)))

pub rest_chars : (bytes : List ℕ) (n : ℕ) → IsUtf8 bytes → IsCharBoundary bytes n
    → chars (drop n bytes) ≡ drop (position bytes n) (chars bytes)
rest_chars bytes n utf8 at =
    sym (ap (drop (position bytes n)) (cut_chars bytes n utf8 at)
    ∙ drop-append_seam (chars (take n bytes)) (chars (drop n bytes)))

-- no byte, no character
pub position_none : (bytes : List ℕ) → position bytes 0 ≡ 0
position_none bytes = ap length chars-nil

-- ---- the next character

pub next_there : (bytes rest : List ℕ) (n c : ℕ) → IsUtf8 bytes → IsCharBoundary bytes n
    → drop n bytes ≡ encode c ++ rest → Next bytes n c
next_there bytes rest n c utf8 at is =
    let p = chars bytes in
    let i = position bytes n in
    let behind : IsUtf8 (drop n bytes) = IsUtf8-drop bytes n utf8 at in
    let chars_behind : chars (drop n bytes) ≡ c ∷ chars rest =
    chars_past_char (drop n bytes) rest c behind is in
    let front = front_chars bytes n utf8 at in
    let all : p ≡ (take i p ++ c ∷ []) ++ chars rest =
    cut_chars bytes n utf8 at ∙ ap (λ l. l ++ chars (drop n bytes)) front
    ∙ ap (λ l. take i p ++ l) chars_behind
    ∙ sym (append_assoc (take i p) (c ∷ []) (chars rest)) in
    let len : length (take i p) ≡ i = ap length (sym front) in
    let more : length (take i p ++ c ∷ []) ≡ suc i =
    omega (arith, length-append (take i p) (c ∷ []), len) in
    let on : take (suc i) p ≡ take i p ++ c ∷ [] =
    ap (take (suc i)) all ∙ take_at (take i p ++ c ∷ []) (chars rest) (suc i) more in
    let boundary = IsCharBoundary-past_char bytes rest n c at.0 behind is in
    let past : p ≡ chars (take (n + len_utf8 c) bytes) ++ chars rest =
    cut_chars bytes (n + len_utf8 c) utf8 boundary
    ∙ ap (λ l. chars (take (n + len_utf8 c) bytes) ++ chars l) (drop_past_char bytes rest n c is) in
    let front_now : chars (take (n + len_utf8 c) bytes) ≡ take i p ++ c ∷ [] =
    append_cancel_right (chars (take (n + len_utf8 c) bytes)) (take i p ++ c ∷ []) (chars rest)
    (sym past ∙ all) in
    record { goes_on = on; boundary = boundary; position = ap length front_now ∙ more }

-- where the text goes on with c, the bytes behind the position begin with those of c
pub next_bytes : (bytes : List ℕ) (n c : ℕ) → IsUtf8 bytes → IsCharBoundary bytes n
    → GoesOn (chars bytes) (position bytes n) c
    → starts_with nat_eq (drop n bytes) (encode c) ≡ true
next_bytes bytes n c utf8 at on =
    let p = chars bytes in
    let i = position bytes n in
    let all : take i p ++ drop i p ≡ take i p ++ (c ∷ drop (suc i) p) =
    take-append-drop i p ∙ sym (take-append-drop (suc i) p) ∙ ap (λ l. l ++ drop (suc i) p) on
    ∙ append_assoc (take i p) (c ∷ []) (drop (suc i) p) in
    let behind : chars (drop n bytes) ≡ c ∷ drop (suc i) p =
    rest_chars bytes n utf8 at
    ∙ append_cancel_left (take i p) (drop i p) (c ∷ drop (suc i) p) all in
    let is : drop n bytes ≡ encode c ++ encodes (drop (suc i) p) =
    sym (encodes-chars (drop n bytes) (IsUtf8-drop bytes n utf8 at)) ∙ ap encodes behind in
    (starts_is Decides-eqb (drop n bytes) (encode c)
    (starts_with nat_eq (drop n bytes) (encode c)) refl).1 (encodes (drop (suc i) p)) is

-- and where they do, the text goes on with c
pub next_tested : (bytes : List ℕ) (n c : ℕ) → IsUtf8 bytes → IsCharBoundary bytes n
    → starts_with nat_eq (drop n bytes) (encode c) ≡ true → Next bytes n c
next_tested bytes n c utf8 at e =
    next_there bytes (drop (length (encode c)) (drop n bytes)) n c utf8 at
    ((starts_is Decides-eqb (drop n bytes) (encode c)
    (starts_with nat_eq (drop n bytes) (encode c)) refl).0 e)

-- ---- the longest front, by bytes

-- longer texts have more bytes
longer_bytes : (p : List ℕ) (i l : ℕ) → i < l → l ≤ length p
    → length (encodes (take i p)) < length (encodes (take l p))
longer_bytes p i l less le =
    let m : l ≡ i + (l - i) = omega arith in
    let parts : take l p ≡ take i p ++ take (l - i) (drop i p) =
    ap (λ n. take n p) m ∙ take-add i (l - i) p in
    let some = length-le-encodes (take (l - i) (drop i p)) in
    let long : length (take (l - i) (drop i p)) ≡ l - i =
    length-take-le (l - i) (drop i p) (omega (arith, length-drop i p)) in
    let sum : length (encodes (take l p)) ≡ length (encodes (take i p))
    + length (encodes (take (l - i) (drop i p))) =
    ap (λ s. length (encodes s)) parts
    ∙ ap length (encodes-append (take i p) (take (l - i) (drop i p)))
    ∙ length-append (encodes (take i p)) (encodes (take (l - i) (drop i p))) in
    omega arith

-- the first place, from one on, from which the bytes of a text are a front of it
pub record IsShift (bytes : List ℕ) (shift : ℕ) : Type 0 where
  pub some : 1 ≤ shift
  pub within : shift ≤ length bytes
  pub front : starts_with nat_eq bytes (drop shift bytes) ≡ true
  pub first : (s : ℕ) → 1 ≤ s → s < shift → starts_with nat_eq bytes (drop s bytes) ≡ true → ⊥

shift_boundary : (bytes : List ℕ) (shift : ℕ) → IsUtf8 bytes → IsShift bytes shift
    → take (length bytes - shift) bytes ≡ drop shift bytes → IsCharBoundary bytes shift
shift_boundary bytes shift utf8 is same = (is.within, λ less high. lead less high) where
  lead : shift < length bytes → 128 ≤ slice_index bytes shift → 192 ≤ slice_index bytes shift
  lead less high =
      let first : get_or bytes 0 0 ≡ get_or bytes shift 0 =
      sym (get_or-take (length bytes - shift) bytes 0 0 (omega arith)) ∙ ap (λ l. get_or l 0 0) same
      ∙ get_or-drop shift bytes 0 0
      ∙ ap (λ n. get_or bytes n 0) (omega arith) in
      let start = IsCharBoundary-start bytes utf8 in
      subst (λ b. 192 ≤ b) first (start.1 (omega arith) (subst (λ b. 128 ≤ b) (sym first) high))

pub some_chars : (cs : List ℕ) (n : ℕ) → length (encodes cs) ≡ n → 1 ≤ n → 1 ≤ length cs
some_chars [] n e some = absurd (omega arith)
some_chars (c ∷ cs) n e some = omega arith

-- a front that ends the text and is longer begins at an earlier place
no_longer : (bytes : List ℕ) (shift i l : ℕ) → IsUtf8 bytes → IsShift bytes shift
    → length (encodes (take i (chars bytes))) ≡ length bytes - shift
    → i < l → l ≤ length (chars bytes) - 1 → Ends (take l (chars bytes)) (chars bytes) → ⊥
no_longer bytes shift i l utf8 is len less le ends =
    let p = chars bytes in
    let x = take l p in
    let s = length (encodes ends.before) in
    let back : bytes ≡ encodes ends.before ++ encodes x =
    sym (encodes-chars bytes utf8) ∙ ap encodes (sym ends.parts) ∙ encodes-append ends.before x in
    let forth : bytes ≡ encodes x ++ encodes (drop l p) =
    sym (encodes-chars bytes utf8) ∙ ap encodes (sym (take-append-drop l p))
    ∙ encodes-append x (drop l p) in
    let rest : drop s bytes ≡ encodes x =
    ap (drop s) back ∙ drop-append_seam (encodes ends.before) (encodes x) in
    let starts =
    (starts_is Decides-eqb bytes (drop s bytes)
    (starts_with nat_eq bytes (drop s bytes)) refl).1 (encodes (drop l p))
    (forth ∙ ap (λ f. f ++ encodes (drop l p)) (sym rest)) in
    let chars_of : length p ≡ length ends.before + l =
    ap length (sym ends.parts) ∙ length-append ends.before x
    ∙ ap (λ n. length ends.before + n) (length-take-le l p (omega arith)) in
    let total : length bytes ≡ s + length (encodes x) =
    ap length back ∙ length-append (encodes ends.before) (encodes x) in
    let more = longer_bytes p i l less (omega arith) in
    let some = length-le-encodes ends.before in
    is.first s (omega arith) (omega (arith, is.within)) starts

pub border_of : (bytes : List ℕ) (shift : ℕ) → IsUtf8 bytes → IsShift bytes shift
    → Border bytes (length bytes - shift)
border_of bytes shift utf8 is =
    let p = chars bytes in
    let b = length bytes - shift in
    let i = position bytes b in
    let parts =
    (starts_is Decides-eqb bytes (drop shift bytes)
    (starts_with nat_eq bytes (drop shift bytes)) refl).0 is.front in
    let same : take b bytes ≡ drop shift bytes =
    ap (take b) parts ∙ take_at (drop shift bytes) _ b (length-drop shift bytes) in
    let at = shift_boundary bytes shift utf8 is same in
    let front_utf8 : IsUtf8 (take b bytes) =
    subst IsUtf8 (sym same) (IsUtf8-drop bytes shift utf8 at) in
    let boundary = IsCharBoundary-from_take bytes b utf8 (omega arith) front_utf8 in
    let front = front_chars bytes b utf8 boundary in
    let whole : chars (take shift bytes) ++ take i p ≡ p =
    sym (cut_chars bytes shift utf8 at
    ∙ ap (λ l. chars (take shift bytes) ++ l) (ap chars (sym same) ∙ front)) in
    let len : length (take i p) ≡ i = ap length (sym front) in
    let len_bytes : length (encodes (take i p)) ≡ b =
    ap (λ l. length (encodes l)) (sym front) ∙ ap length (encodes-chars (take b bytes) front_utf8)
    ∙ length-take-le b bytes (omega arith) in
    let some = some_chars (chars (take shift bytes)) shift
    (ap length (encodes-chars (take shift bytes) (IsUtf8-take bytes shift utf8 at))
    ∙ length-take-le shift bytes is.within) is.some in
    let total = ap length whole in
    let sum = length-append (chars (take shift bytes)) (take i p) in
    record {
      boundary = boundary;
      overlap = record {
        proper = omega arith;
        ends = record { before = chars (take shift bytes); parts = whole };
        longest = λ l le ends. longest l le ends (cases_lt i l) len_bytes;
      };
    }
  where
    longest : (l : ℕ) → l ≤ length (chars bytes) - 1 → Ends (take l (chars bytes)) (chars bytes)
        → (position bytes (length bytes - shift) < l) ⊎ (l ≤ position bytes (length bytes - shift))
        → length (encodes (take (position bytes (length bytes - shift)) (chars bytes)))
        ≡ length bytes - shift → l ≤ position bytes (length bytes - shift)
    longest l le ends (inl less) len =
        absurd
        (no_longer bytes shift (position bytes (length bytes - shift)) l utf8 is len less le ends)
    longest l le ends (inr short) len = short
