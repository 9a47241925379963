-- The texts of the encodings: their bytes, and their UTF-8.
use Rattle.std.proofs.Common.{◌≡◌, ℕ, zero, suc, ◌+◌, ◌-◌, ◌≤◌, ◌<◌, Bool, true, false, cond, not}
use Rattle.std.proofs.Common.{◌&&◌, ◌≢◌, List, [], ◌∷◌, ◌++◌, length, take, drop, map, get_or}
use Rattle.std.proofs.Common.{Result, Ok, Err, refl, sym, ap, ◌∙◌, append_assoc, arith, Fits, w8}
use Rattle.std.specs.Char.{is_ascii_whitespace}
use Rattle.std.specs.List.{slice_split, onto_first, list_all, list_any, AllByRecursion, prefix_len}
use Rattle.std.specs.Prelude.{nat_le, encode_utf8, encode_utf8_all}
use Rattle.std.specs.Result.{MatchResult, is_ok}
use Rattle.std.specs.Str.{is_utf8, IsUtf8, all_scalars, chars, IsTrimAscii}
use Rattle.std.proofs.Math.Utf8.{scalar, low_scalar}
use Rattle.std.proofs.lemmas.Bool.{and_parts, or_parts, le-leb, lt-leb, eqb-true, eqb-false}
use Rattle.std.proofs.lemmas.Bool.{false_from_ne_true}
use Rattle.std.proofs.lemmas.List.{map-id, get_or-drop, get_or_default, append-nil, take_more}
use Rattle.std.proofs.lemmas.List.Splits.{slice_split-cons_no}
use Rattle.std.proofs.lemmas.Str.{IsUtf8-from_is_utf8, is_utf8-from_IsUtf8, scalars-chars}
use Rattle.std.proofs.lemmas.Str.{encodes-chars, chars_from_encodes, chars-encodes, encode_ascii}
use Rattle.std.proofs.lemmas.Str.{inside_one}
use Rattle.std.proofs.lemmas.Str.Ascii.{trim_ascii_is}
use Rattle.gettext.specs.declared.encoding.Encoding.{Encoding}
use Rattle.gettext.specs.declared.encoding.Encoding.TheVariants.{Utf8, Latin1, Windows1252}
use Rattle.gettext.specs.Layout.{is_nul}
use Rattle.gettext.specs.Encoding.{high_characters, windows_1252, IsText, is_valid, text_in}
use Rattle.gettext.specs.Encoding.{utf8_in, trimmed}

-- ---- bytes

-- each element is a byte, as the check knows it of what a `&[u8]` points to
abbrev pub AreBytes : List ℕ → Type 0
AreBytes bytes = (i : ℕ) → Fits w8 (get_or bytes i 0)

-- no bytes are bytes
AreBytes-nil : AreBytes []
AreBytes-nil i = record { fits = omega arith }

-- so is a byte before bytes
AreBytes-cons : (x : ℕ) (xs : List ℕ) → Fits w8 x → AreBytes xs → AreBytes (x ∷ xs)
AreBytes-cons x xs h hs zero = h
AreBytes-cons x xs h hs (suc i) = hs i

-- and what is behind a place of bytes
pub AreBytes-drop : (n : ℕ) (bytes : List ℕ) → AreBytes bytes → AreBytes (drop n bytes)
AreBytes-drop n bytes h i = rw (get_or-drop n bytes i 0) (h (n + i))

-- and what is before it
pub AreBytes-take : (n : ℕ) (bytes : List ℕ) → AreBytes bytes → AreBytes (take n bytes)
AreBytes-take zero bytes h = AreBytes-nil
AreBytes-take (suc n) [] h = AreBytes-nil
AreBytes-take (suc n) (x ∷ xs) h =
    AreBytes-cons x (take n xs) (h 0) (AreBytes-take n xs (λ i. h (suc i)))

-- and a range
pub AreBytes-range : (n m : ℕ) (bytes : List ℕ) → AreBytes bytes → AreBytes (take n (drop m bytes))
AreBytes-range n m bytes h = AreBytes-take n (drop m bytes) (AreBytes-drop m bytes h)

-- a byte before the first piece of bytes
all_onto_first : (x : ℕ) (pieces : List (List ℕ)) → Fits w8 x → AllByRecursion AreBytes pieces
    → AllByRecursion AreBytes (onto_first x pieces)
all_onto_first x [] h all = (AreBytes-cons x [] h AreBytes-nil, tt)
all_onto_first x (piece ∷ pieces) h all = (AreBytes-cons x piece h all.0, all.1)

-- the pieces between the NULs
pub AreBytes-slice_split : (bytes : List ℕ) → AreBytes bytes
    → AllByRecursion AreBytes (slice_split is_nul bytes)
AreBytes-slice_split [] h = (AreBytes-nil, tt)
AreBytes-slice_split (x ∷ xs) h =
    at_head (is_nul x) (AreBytes-slice_split xs (λ i. h (suc i))) where
      at_head : (b : Bool) → AllByRecursion AreBytes (slice_split is_nul xs)
          → AllByRecursion AreBytes
          (cond b ([] ∷ slice_split is_nul xs) (onto_first x (slice_split is_nul xs)))
      at_head true all = (AreBytes-nil, all)
      at_head false all = all_onto_first x (slice_split is_nul xs) (h 0) all

-- ---- windows-1252

-- what all elements and the default pass, the one at a place passes
passes_at : (p : ℕ → Bool) (xs : List ℕ) (i d : ℕ) → list_all p xs ≡ true → p d ≡ true
    → p (get_or xs i d) ≡ true
passes_at p [] i d all h = h
passes_at p (x ∷ xs) zero d all h = (and_parts (p x) (list_all p xs) all).0
passes_at p (x ∷ xs) (suc i) d all h = passes_at p xs i d (and_parts (p x) (list_all p xs) all).1 h

-- what holds of the high characters and of the byte holds of the byte's character
pub windows_1252_passes : (p : ℕ → Bool) (byte : ℕ) → list_all p high_characters ≡ true
    → p byte ≡ true → p (windows_1252 byte) ≡ true
unfolding windows_1252
windows_1252_passes p byte all h = at (nat_le 0x80 byte && nat_le byte 0x9F) where
  at : (b : Bool) → p (cond b (get_or high_characters (byte - 0x80) byte) byte) ≡ true
  at true = passes_at p high_characters (byte - 0x80) byte all h
  at false = h

-- the character of a byte of the table, and of any other
pub windows_1252-high : (byte i : ℕ) → 0x80 ≤ byte → byte ≤ 0x9F → i ≡ byte - 0x80
    → get_or high_characters i 0 ≡ windows_1252 byte
unfolding windows_1252
windows_1252-high byte i low high e = rw (le-leb 0x80 byte low, le-leb byte 0x9F high, e)
    (get_or_default high_characters (byte - 0x80) 0 byte (omega arith))

-- a byte of ASCII is its own character
pub windows_1252-low : (byte : ℕ) → byte < 0x80 → byte ≡ windows_1252 byte
unfolding windows_1252
windows_1252-low byte h = rw (lt-leb 0x80 byte h) refl

-- a test and a false one is false
and_false : (b : Bool) → (b && false) ≡ false
and_false true = refl
and_false false = refl

-- a byte from 0xA0 on is its own character
pub windows_1252-above : (byte : ℕ) → 0x9F < byte → byte ≡ windows_1252 byte
unfolding windows_1252
windows_1252-above byte h = rw (lt-leb byte 0x9F h, and_false (nat_le 0x80 byte)) refl

-- ---- texts

-- the number of a byte is a character
scalar_byte : (byte : ℕ) → Fits w8 byte → scalar byte ≡ true
scalar_byte byte h = low_scalar byte (omega (arith, h.fits))

-- bytes are characters, as ISO 8859-1 reads them
scalars-bytes : (bytes : List ℕ) → AreBytes bytes → all_scalars bytes ≡ true
scalars-bytes [] h = refl
scalars-bytes (x ∷ xs) h = rw (scalar_byte x (h 0)) (scalars-bytes xs (λ i. h (suc i)))

-- so are they as windows-1252 reads them
scalars-windows_1252 : (bytes : List ℕ) → AreBytes bytes
    → all_scalars (map windows_1252 bytes) ≡ true
scalars-windows_1252 [] h = refl
scalars-windows_1252 (x ∷ xs) h =
    rw (windows_1252_passes scalar x refl (scalar_byte x (h 0)))
    (scalars-windows_1252 xs (λ i. h (suc i)))

-- bytes that are a text are valid, and the text is the one that they stand for
pub IsText-is : (e : Encoding) (bytes text : List ℕ) → IsText e bytes text
    → (is_valid e bytes ≡ true) × (text ≡ text_in e bytes)
IsText-is Utf8 bytes text t =
    (is_utf8-from_IsUtf8 bytes (text, t), chars_from_encodes text bytes (text, t) t.1)
IsText-is Latin1 bytes text t = (refl, t)
IsText-is Windows1252 bytes text t = (refl, t)

-- valid bytes are a text
pub IsText-text_in : (e : Encoding) (bytes : List ℕ) → is_valid e bytes ≡ true
    → IsText e bytes (text_in e bytes)
IsText-text_in Utf8 bytes h = let u = IsUtf8-from_is_utf8 bytes h in
    (scalars-chars bytes u, encodes-chars bytes u)
IsText-text_in Latin1 bytes h = refl
IsText-text_in Windows1252 bytes h = refl

-- the text of valid bytes is characters
scalars-text_in : (e : Encoding) (bytes : List ℕ) → AreBytes bytes → is_valid e bytes ≡ true
    → all_scalars (text_in e bytes) ≡ true
scalars-text_in Utf8 bytes b h = (IsText-text_in Utf8 bytes h).0
scalars-text_in Latin1 bytes b h = scalars-bytes bytes b
scalars-text_in Windows1252 bytes b h = scalars-windows_1252 bytes b

-- that text in UTF-8
pub encodes-text_in : (e : Encoding) (bytes : List ℕ) → is_valid e bytes ≡ true
    → encode_utf8_all (text_in e bytes) ≡ utf8_in e bytes
encodes-text_in Utf8 bytes h = (IsText-text_in Utf8 bytes h).1
encodes-text_in Latin1 bytes h = refl
encodes-text_in Windows1252 bytes h = refl

-- the UTF-8 of valid bytes is UTF-8, of the text that they stand for
pub is_utf8-utf8_in : (e : Encoding) (bytes : List ℕ) → AreBytes bytes → is_valid e bytes ≡ true
    → is_utf8 (utf8_in e bytes) ≡ true
is_utf8-utf8_in e bytes b h = is_utf8-from_IsUtf8 (utf8_in e bytes)
    (text_in e bytes, (scalars-text_in e bytes b h, encodes-text_in e bytes h))

-- the characters of the UTF-8 are the text
pub chars-utf8_in : (e : Encoding) (bytes : List ℕ) → AreBytes bytes → is_valid e bytes ≡ true
    → chars (utf8_in e bytes) ≡ text_in e bytes
chars-utf8_in e bytes b h =
    rw (← encodes-text_in e bytes h) (chars-encodes (text_in e bytes) (scalars-text_in e bytes b h))

-- ---- pieces between NULs

-- a list put before the first of some pieces
abbrev onto_front : List ℕ → List (List ℕ) → List (List ℕ)
onto_front [] pieces = pieces
onto_front (x ∷ xs) pieces = onto_first x (onto_front xs pieces)

-- bytes put before some pieces stand before the first
onto_front-piece : (xs piece : List ℕ) (pieces : List (List ℕ))
    → onto_front xs (piece ∷ pieces) ≡ (xs ++ piece) ∷ pieces
onto_front-piece [] piece pieces = refl
onto_front-piece (x ∷ xs) piece pieces = ap (onto_first x) (onto_front-piece xs piece pieces)

-- with no NUL in front, there is no piece more
slice_split-append : (xs ys : List ℕ) → list_any is_nul xs ≡ false
    → slice_split is_nul (xs ++ ys) ≡ onto_front xs (slice_split is_nul ys)
slice_split-append [] ys h = refl
slice_split-append (x ∷ xs) ys h =
    let both = or_parts (is_nul x) (list_any is_nul xs) h in
    slice_split-cons_no is_nul x (xs ++ ys) both.0
    ∙ ap (onto_first x) (slice_split-append xs ys both.1)

-- there is at least one piece
first_piece : (bytes : List ℕ)
    → (piece : List ℕ) × (pieces : List (List ℕ)) × (slice_split is_nul bytes ≡ piece ∷ pieces)
first_piece [] = ([], [], refl)
first_piece (x ∷ xs) = at_head (is_nul x) (first_piece xs) where
  at_head : (b : Bool)
      → (piece : List ℕ) × (pieces : List (List ℕ)) × (slice_split is_nul xs ≡ piece ∷ pieces)
      → (piece : List ℕ) × (pieces : List (List ℕ))
      × (cond b ([] ∷ slice_split is_nul xs) (onto_first x (slice_split is_nul xs))
      ≡ piece ∷ pieces)
  at_head true parts = ([], slice_split is_nul xs, refl)
  at_head false parts = (x ∷ parts.0, parts.1, ap (onto_first x) parts.2)

-- each byte is spelled by itself, and only a NUL with a NUL
pub record Spells (one : ℕ → List ℕ) (all : List ℕ → List ℕ) : Type 0 where
  pub none : all [] ≡ []
  pub more : (x : ℕ) (xs : List ℕ) → all (x ∷ xs) ≡ one x ++ all xs
  pub nul : one 0 ≡ 0 ∷ []
  pub others : (x : ℕ) → is_nul x ≡ false → list_any is_nul (one x) ≡ false

-- a byte more is spelled behind the others
spelled-append : (one : ℕ → List ℕ) (all : List ℕ → List ℕ) → Spells one all → (xs : List ℕ) (y : ℕ)
    → all (xs ++ y ∷ []) ≡ all xs ++ one y
spelled-append one all s [] y = s.more y [] ∙ ap (λ rest. one y ++ rest) s.none ∙ append-nil (one y)
    ∙ ap (λ front. front ++ one y) (sym s.none)
spelled-append one all s (x ∷ xs) y =
    s.more x (xs ++ y ∷ [])
    ∙ ap (λ rest. one x ++ rest) (spelled-append one all s xs y)
    ∙ sym (append_assoc (one x) (all xs) (one y))
    ∙ ap (λ front. front ++ one y) (sym (s.more x xs))

-- one byte more is spelled
pub spelled-more : (one : ℕ → List ℕ) (all : List ℕ → List ℕ) → Spells one all
    → (bytes start before after : List ℕ) (i : ℕ) → i < length bytes
    → before ≡ start ++ all (take i bytes) → after ≡ before ++ one (get_or bytes i 0)
    → after ≡ start ++ all (take (i + 1) bytes)
spelled-more one all s bytes start before after i h known pushed =
    let longer : take (i + 1) bytes ≡ take i bytes ++ get_or bytes i 0 ∷ [] =
    take_more bytes i 0 h in
    pushed
    ∙ ap (λ front. front ++ one (get_or bytes i 0)) known
    ∙ append_assoc start (all (take i bytes)) (one (get_or bytes i 0))
    ∙ ap (λ rest. start ++ rest)
    (sym (ap all longer ∙ spelled-append one all s (take i bytes) (get_or bytes i 0)))

-- then the pieces are spelled one by one
slice_split-spelled : (one : ℕ → List ℕ) (all : List ℕ → List ℕ) → Spells one all → (bytes : List ℕ)
    → slice_split is_nul (all bytes) ≡ map all (slice_split is_nul bytes)
slice_split-spelled one all s [] = simp s.none
slice_split-spelled one all s (x ∷ xs) =
    at_head (is_nul x) refl (slice_split-spelled one all s xs) where
      at_head : (b : Bool) → is_nul x ≡ b
          → slice_split is_nul (all xs) ≡ map all (slice_split is_nul xs)
          → slice_split is_nul (all (x ∷ xs))
          ≡ map all (cond b ([] ∷ slice_split is_nul xs) (onto_first x (slice_split is_nul xs)))
      at_head true e rest =
          let here : one x ≡ 0 ∷ [] = ap one (eqb-true x 0 e) ∙ s.nul in
          let spelled : all (x ∷ xs) ≡ 0 ∷ all xs = s.more x xs
          ∙ ap (λ front. front ++ all xs) here in
          ap (slice_split is_nul) spelled ∙ ap (λ pieces. [] ∷ pieces) rest
          ∙ ap (λ piece. piece ∷ map all (slice_split is_nul xs)) (sym s.none)
      at_head false e rest =
          let parts = first_piece xs in
          let known : map all (slice_split is_nul xs) ≡ all parts.0 ∷ map all parts.1 =
          ap (map all) parts.2 in
          ap (slice_split is_nul) (s.more x xs)
          ∙ slice_split-append (one x) (all xs) (s.others x e)
          ∙ ap (onto_front (one x)) (rest ∙ known)
          ∙ onto_front-piece (one x) (all parts.0) (map all parts.1)
          ∙ ap (λ piece. piece ∷ map all parts.1) (sym (s.more x parts.0))
          ∙ ap (λ pieces. map all (onto_first x pieces)) (sym parts.2)

-- bytes none of which is 0 have no NUL
no_nul : (xs : List ℕ) → ((i : ℕ) → i < length xs → get_or xs i 0 ≢ 0) → list_any is_nul xs ≡ false
no_nul [] h = refl
no_nul (x ∷ xs) h =
    let first : is_nul x ≡ false =
    false_from_ne_true (is_nul x) (λ e. h 0 (omega arith) (eqb-true x 0 e)) in
    rw first (no_nul xs (λ i l. h (suc i) (omega arith)))

-- the bytes of another character than U+0000 have no NUL
encode-no_nul : (c : ℕ) → is_nul c ≡ false → list_any is_nul (encode_utf8 c) ≡ false
encode-no_nul c e = no_nul (encode_utf8 c)
    (λ i l z.
    eqb-false c 0 e
    (inside_one c [] (encode_utf8 c) i (sym (append-nil (encode_utf8 c))) l (omega (arith, z)) ∙ z))

-- windows-1252 reads no other byte as U+0000
windows_1252-no_nul : (byte : ℕ) → is_nul byte ≡ false → is_nul (windows_1252 byte) ≡ false
windows_1252-no_nul byte e =
    let passed : not (is_nul (windows_1252 byte)) ≡ true =
    windows_1252_passes (λ c. not (is_nul c)) byte refl (rw e refl) in
    false_from_ne_true (is_nul (windows_1252 byte)) (λ nul. cc)

-- ISO 8859-1 spells byte by byte
pub Latin1-spells : Spells encode_utf8 (utf8_in Latin1)
Latin1-spells = record {
  none = refl;
  more = λ x xs. refl;
  nul = encode_ascii 0 (omega arith);
  others = encode-no_nul;
}

-- so does windows-1252
pub Windows1252-spells : Spells (λ byte. encode_utf8 (windows_1252 byte)) (utf8_in Windows1252)
unfolding windows_1252
Windows1252-spells = record {
  none = refl;
  more = λ x xs. refl;
  nul = encode_ascii 0 (omega arith);
  others = λ byte e. encode-no_nul (windows_1252 byte) (windows_1252-no_nul byte e);
}

-- the pieces of the UTF-8 are the UTF-8 of the pieces
pub slice_split-utf8_in : (e : Encoding) (bytes : List ℕ)
    → slice_split is_nul (utf8_in e bytes) ≡ map (utf8_in e) (slice_split is_nul bytes)
slice_split-utf8_in Utf8 bytes = sym (map-id (slice_split is_nul bytes))
slice_split-utf8_in Latin1 bytes =
    slice_split-spelled encode_utf8 (utf8_in Latin1) Latin1-spells bytes
slice_split-utf8_in Windows1252 bytes = slice_split-spelled
    (λ byte. encode_utf8 (windows_1252 byte)) (utf8_in Windows1252) Windows1252-spells bytes

-- ---- what the code's calls answer

-- what `from_utf8` answers
pub is_ok-from_utf8 : {X Y : Type 0} (bytes : List ℕ) (r : Result X Y) (A : X → Type 0)
    (B : Y → Type 0) → MatchResult r (λ x. A x × IsUtf8 bytes) (λ e. ¬ (IsUtf8 bytes) × B e)
    → is_ok r ≡ is_utf8 bytes
is_ok-from_utf8 bytes (Ok x) A B h = sym (is_utf8-from_IsUtf8 bytes h.1)
is_ok-from_utf8 bytes (Err e) A B h =
    sym (false_from_ne_true (is_utf8 bytes) (λ e. h.0 (IsUtf8-from_is_utf8 bytes e)))

-- what `trim_ascii` gives is the label without white space around it
pub trimmed-is : (label name : List ℕ) → IsTrimAscii label name → name ≡ trimmed label
unfolding trimmed
trimmed-is label name h =
    trim_ascii_is label name (drop (prefix_len is_ascii_whitespace label) label) refl h
