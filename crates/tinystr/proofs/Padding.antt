-- A text that is filled up with NUL is found again, and stays so where each byte is changed.
use Rattle.std.proofs.Common.{◌≡◌, true, false, nat_eq, nat_lt, get_or, set, ℕ, zero, suc, ◌-◌, ◌<◌}
use Rattle.std.proofs.Common.{◌≤◌, not, List, [], ◌∷◌, ◌++◌, Option, map, length, drop, take}
use Rattle.std.proofs.Common.{replicate, refl, sym, ap, ◌∙◌, arith}
use Rattle.std.specs.Prelude.{◌==◌, position, unwrap_or}
use Rattle.std.specs.Char.{to_ascii_lowercase, to_ascii_uppercase}
use Rattle.std.specs.List.{All, AllWithin, prefix_len}
use Rattle.std.specs.Str.{IsAscii}
use Rattle.std.proofs.lemmas.Bool.Decides.{nat_tests}
use Rattle.std.proofs.lemmas.List.{drop-replicate, get_or_default, length-map, map-append}
use Rattle.std.proofs.lemmas.List.Folds.{length-prefix_len}
use Rattle.std.proofs.lemmas.List.Sums.{prefix_len-le-length}
use Rattle.std.proofs.lemmas.List.Elements.{All-nil, All-cons, All-head, All-tail, All-weaker}
use Rattle.std.proofs.lemmas.List.Elements.{All-map, All-append, All-replicate}
use Rattle.std.proofs.lemmas.Str.Ascii.{IsAscii-from_all, All-from_ascii}
use Rattle.tinystr.specs.Text.{HoldsText, IsTextByte, padded, titlecase, unpadded}

-- a byte that is no NUL belongs to the text
unpadded-cons : (byte : ℕ) (bytes : List ℕ) → 0 < byte
    → unpadded (byte ∷ bytes) ≡ byte ∷ unpadded bytes
unpadded-cons byte bytes positive = grind (arith, nat_tests)

-- NULs alone hold no text
unpadded-zeros : (n : ℕ) → unpadded (replicate n 0) ≡ []
unpadded-zeros zero = refl
unpadded-zeros (suc n) = refl

-- a text with NULs behind it
unpadded-append : (n : ℕ) (text : List ℕ) → All IsTextByte text
    → unpadded (text ++ replicate n 0) ≡ text
unpadded-append n [] h = unpadded-zeros n
unpadded-append n (byte ∷ text) h =
    let head = All-head IsTextByte byte text h in
    unpadded-cons byte (text ++ replicate n 0) head.0
    ∙ ap (λ rest. byte ∷ rest) (unpadded-append n text (All-tail IsTextByte byte text h))

-- the text before the first NUL holds none
unpadded-text : (bytes : List ℕ) → All (λ byte. byte < 128) bytes → All IsTextByte (unpadded bytes)
unpadded-text [] h = All-nil IsTextByte
unpadded-text (zero ∷ bytes) h = All-nil IsTextByte
unpadded-text (suc byte ∷ bytes) h =
    let head : suc byte < 128 = All-head (λ b. b < 128) (suc byte) bytes h in
    let positive : 0 < suc byte = omega arith in
    rw (unpadded-cons (suc byte) bytes positive)
    (All-cons IsTextByte (suc byte) (unpadded bytes) (positive, head)
    (unpadded-text bytes (All-tail (λ b. b < 128) (suc byte) bytes h)))

-- a text that is filled up is ASCII
padded-text : (n : ℕ) (text : List ℕ) → All IsTextByte text → IsAscii (padded n text)
padded-text n text h =
    IsAscii-from_all (padded n text)
    (All-append (λ b. b < 128) text (replicate (n - length text) 0)
    (All-weaker IsTextByte (λ b. b < 128) (λ b is. is.1) text h)
    (All-replicate (λ b. b < 128) (n - length text) 0 (omega arith)))

-- bytes that are a text, filled up
module _ (n : ℕ) (bytes text : List ℕ) (filled : bytes ≡ padded n text)
    (h : All IsTextByte text) where
  -- it is found again
  pub unpadded_is : unpadded bytes ≡ text
  unpadded_is = ap unpadded filled ∙ unpadded-append (n - length text) text h

  -- and they hold it
  pub holds_text : HoldsText n bytes
  holds_text =
      record {
        filled = filled ∙ ap (padded n) (sym unpadded_is);
        ascii = rw filled (padded-text n text h);
      }

-- what such bytes hold
module _ (n : ℕ) (bytes : List ℕ) (held : HoldsText n bytes) where
  -- their text has no NUL
  pub held-text : All IsTextByte (unpadded bytes)
  held-text = unpadded-text bytes (All-from_ascii bytes held.ascii)

module _ (bytes : List ℕ) where
  -- the text's length is the place of the first NUL
  length-unpadded : length (unpadded bytes) ≡ prefix_len (λ b. not (b == 0)) bytes
  length-unpadded = length-prefix_len (λ b. not (b == 0)) bytes

  -- which is at most that of the bytes
  pub length-unpadded-le : length (unpadded bytes) ≤ length bytes
  length-unpadded-le =
      omega (arith, length-unpadded, prefix_len-le-length (λ b. not (b == 0)) bytes)

  -- so many bytes are the text
  pub take-unpadded : (n : ℕ) → n ≡ length (unpadded bytes) → take n bytes ≡ unpadded bytes
  take-unpadded n is = ap (λ k. take k bytes) (is ∙ length-unpadded)

  -- the first NUL, or the end
  pub first_nul : (found : Option ℕ) (n : ℕ) → found ≡ position (λ b. b == 0) bytes
      → length bytes ≡ n
      → unwrap_or found n ≡ length (unpadded bytes)
  first_nul found n at whole =
      let here = length-unpadded in
      let le = prefix_len-le-length (λ b. not (b == 0)) bytes in grind (arith, nat_tests)

-- `f` changes each byte, NUL not and no other byte into NUL
module _ (f : ℕ → ℕ) (stays : f 0 ≡ 0)
    (keeps : (byte : ℕ) → IsTextByte byte → IsTextByte (f byte)) where
  -- NULs stay NULs
  map-replicate : (n : ℕ) → map f (replicate n 0) ≡ replicate n 0
  map-replicate zero = refl
  map-replicate (suc n) = cc (stays, map-replicate n)

  -- the text is changed, and filled up as before
  map-padded : (n : ℕ) (text : List ℕ) → map f (padded n text) ≡ padded n (map f text)
  map-padded n text =
      map-append f text (replicate (n - length text) 0)
      ∙ ap (λ zeros. map f text ++ zeros) (map-replicate (n - length text))
      ∙ ap (λ k. map f text ++ replicate (n - k) 0) (sym (length-map text f))

  -- a changed text is a text
  pub map-text : (text : List ℕ) → All IsTextByte text → All IsTextByte (map f text)
  map-text text h =
      All-map IsTextByte f text (All-weaker IsTextByte (λ b. IsTextByte (f b)) keeps text h)

  module _ (n : ℕ) (bytes : List ℕ) (held : HoldsText n bytes) where
    -- bytes that hold a text hold the changed one
    map-held : map f bytes ≡ padded n (map f (unpadded bytes))
    map-held = ap (map f) held.filled ∙ map-padded n (unpadded bytes)

    -- and so they hold a text
    pub holds_text-map : HoldsText n (map f bytes)
    holds_text-map =
        holds_text n (map f bytes) (map f (unpadded bytes)) map-held
        (map-text (unpadded bytes) (held-text n bytes held))

    -- which is the changed one
    pub unpadded-map : unpadded (map f bytes) ≡ map f (unpadded bytes)
    unpadded-map =
        unpadded_is n (map f bytes) (map f (unpadded bytes)) map-held
        (map-text (unpadded bytes) (held-text n bytes held))

-- lower case makes no NUL
pub lower_keeps : (byte : ℕ) → IsTextByte byte → IsTextByte (to_ascii_lowercase byte)
lower_keeps byte h = grind (arith, nat_tests)

-- nor does upper case
pub upper_keeps : (byte : ℕ) → IsTextByte byte → IsTextByte (to_ascii_uppercase byte)
upper_keeps byte h = grind (arith, nat_tests)

-- ASCII bytes, of which none is NUL
pub text_from : (bytes : List ℕ) → IsAscii bytes
    → AllWithin (λ b. nat_eq b 0 ≡ false) bytes 0 (length bytes)
    → All IsTextByte bytes
text_from bytes ascii whole k d lt =
    let at = get_or_default bytes k d 0 lt in
    let small = ascii k in
    let other = whole k d (omega arith) lt in grind (arith, nat_tests)

-- the bytes of a text, and NUL up to the end
pub filled-from : (n : ℕ) (front text : List ℕ) → front ≡ text
    → front ++ drop (length text) (replicate n 0) ≡ padded n text
filled-from n front text same = let zeros = drop-replicate {X = ℕ} (length text) n 0 in cc

-- upper case forgets lower case
upper_lower : (byte : ℕ) → to_ascii_uppercase (to_ascii_lowercase byte) ≡ to_ascii_uppercase byte
upper_lower byte = grind (arith, nat_tests)

-- the first byte in upper case
abbrev pub raised : List ℕ → List ℕ
raised [] = []
raised (first ∷ rest) = to_ascii_uppercase first ∷ rest

-- where there is a first byte it is raised in place
pub raised_some : (bytes : List ℕ) (first : ℕ) → true ≡ nat_lt 0 (length bytes)
    → first ≡ get_or bytes 0 first
    → set bytes 0 (to_ascii_uppercase first) ≡ raised bytes
raised_some [] first some at = cc
raised_some (byte ∷ bytes) first some at = ap (λ b. to_ascii_uppercase b ∷ bytes) at

-- where there is none nothing changes
pub raised_none : (bytes : List ℕ) → false ≡ nat_lt 0 (length bytes) → bytes ≡ raised bytes
raised_none [] none = refl
raised_none (byte ∷ bytes) none = absurd (grind (arith, nat_tests))

-- NULs stay NULs
raised-zeros : (n : ℕ) → raised (replicate n 0) ≡ replicate n 0
raised-zeros zero = refl
raised-zeros (suc n) = refl

-- the text is raised, and filled up as before
raised-padded : (n : ℕ) (text : List ℕ) → raised (padded n text) ≡ padded n (raised text)
raised-padded n [] = raised-zeros (n - 0)
raised-padded n (first ∷ rest) = refl

-- a raised text is a text
raised-text : (text : List ℕ) → All IsTextByte text → All IsTextByte (raised text)
raised-text [] h = h
raised-text (first ∷ rest) h =
    All-cons IsTextByte (to_ascii_uppercase first) rest
    (upper_keeps first (All-head IsTextByte first rest h))
    (All-tail IsTextByte first rest h)

-- a text in lower case, and then its first character in upper case
pub raised-map : (text : List ℕ) → raised (map to_ascii_lowercase text) ≡ titlecase text
raised-map [] = refl
raised-map (first ∷ rest) = ap (λ b. b ∷ map to_ascii_lowercase rest) (upper_lower first)

module _ (n : ℕ) (bytes new : List ℕ) (held : HoldsText n bytes) (is : new ≡ raised bytes) where
  -- bytes that held a text, raised
  new_is : new ≡ padded n (raised (unpadded bytes))
  new_is = is ∙ ap raised held.filled ∙ raised-padded n (unpadded bytes)

  -- they hold a text
  pub holds_text-raised : HoldsText n new
  holds_text-raised =
      holds_text n new (raised (unpadded bytes)) new_is
      (raised-text (unpadded bytes) (held-text n bytes held))

  -- which is the raised one
  pub unpadded-raised : unpadded new ≡ raised (unpadded bytes)
  unpadded-raised =
      unpadded_is n new (raised (unpadded bytes)) new_is
      (raised-text (unpadded bytes) (held-text n bytes held))
