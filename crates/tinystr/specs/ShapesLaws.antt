-- What the shapes of subtags say of a text's bytes: that it fits the type that holds it, in
-- canonical case and in any.
use Rattle.std.proofs.Common.{◌≡◌, ◌<◌, ℕ, Bool, true, List, [], ◌∷◌, length, map, ⊎_elim, arith}
use Rattle.std.specs.Prelude.{◌==◌, ◌&&◌}
use Rattle.std.specs.Char.{is_ascii_digit, is_ascii_lowercase, is_ascii_uppercase}
use Rattle.std.specs.Char.{to_ascii_lowercase, to_ascii_uppercase}
use Rattle.std.specs.List.{All, list_all}
use Rattle.std.specs.Str.{IsAscii}
use Rattle.std.proofs.lemmas.Bool.{or_cases}
use Rattle.std.proofs.lemmas.Bool.Decides.{nat_tests}
use Rattle.std.proofs.lemmas.List.{length-map}
use Rattle.std.proofs.lemmas.List.Elements.{All-nil, All-cons, All-head, All-tail, All-weaker}
use Rattle.std.proofs.lemmas.Str.Ascii.{IsAscii-from_all}
use Rattle.tinystr.specs.Text.{IsTextByte, IsTinyText, titlecase}
use Rattle.tinystr.specs.Shapes.{is_small, IsScript, IsRegion, IsVariant}

-- a letter or a digit is a byte of a text
module _ (test : ℕ → Bool) (is : (c : ℕ) → test c ≡ true → IsTextByte c) where
  text_bytes : (text : List ℕ) → list_all test text ≡ true → All IsTextByte text
  text_bytes [] h = All-nil IsTextByte
  text_bytes (c ∷ text) h =
      let head : test c ≡ true = grind (arith, nat_tests) in
      let tail : list_all test text ≡ true = grind (arith, nat_tests) in
      All-cons IsTextByte c text (is c head) (text_bytes text tail)

small-text : (c : ℕ) → is_small c ≡ true → IsTextByte c
small-text c h = grind (arith, nat_tests)

lower-text : (c : ℕ) → is_ascii_lowercase c ≡ true → IsTextByte c
lower-text c h = grind (arith, nat_tests)

upper-text : (c : ℕ) → is_ascii_uppercase c ≡ true → IsTextByte c
upper-text c h = grind (arith, nat_tests)

digit-text : (c : ℕ) → is_ascii_digit c ≡ true → IsTextByte c
digit-text c h = grind (arith, nat_tests)

-- small letters, and small letters or digits
pub lowercase-bytes : (text : List ℕ) → list_all is_ascii_lowercase text ≡ true
    → All IsTextByte text
lowercase-bytes text h = text_bytes is_ascii_lowercase lower-text text h

pub small-bytes : (text : List ℕ) → list_all is_small text ≡ true → All IsTextByte text
small-bytes text h = text_bytes is_small small-text text h

-- a script is a text that a `TinyStr` holds
pub tiny_script : (text : List ℕ) → IsScript text → IsTinyText 4 text
tiny_script [] h = absurd (grind (arith, nat_tests))
tiny_script (first ∷ rest) h =
    let upper : is_ascii_uppercase first ≡ true = grind (arith, nat_tests) in
    let all : list_all is_ascii_lowercase rest ≡ true = grind (arith, nat_tests) in record {
      fits = grind (arith, nat_tests);
      bytes = All-cons IsTextByte first rest (upper-text first upper) (lowercase-bytes rest all);
    }

-- a region is a text that a `TinyStr` holds
pub tiny_region : (text : List ℕ) → IsRegion text → IsTinyText 3 text
tiny_region text h =
    ⊎_elim
    (λ (two : (length text == 2 && list_all is_ascii_uppercase text) ≡ true).
    let all : list_all is_ascii_uppercase text ≡ true = grind (arith, nat_tests) in
    record {
      fits = grind (arith, nat_tests);
      bytes = text_bytes is_ascii_uppercase upper-text text all;
    })
    (λ (three : (length text == 3 && list_all is_ascii_digit text) ≡ true).
    let all : list_all is_ascii_digit text ≡ true = grind (arith, nat_tests) in
    record {
      fits = grind (arith, nat_tests);
      bytes = text_bytes is_ascii_digit digit-text text all;
    })
    (or_cases (length text == 2 && list_all is_ascii_uppercase text)
    (length text == 3 && list_all is_ascii_digit text) h)

-- a variant is a text that a `TinyStr` holds
pub tiny_variant : (text : List ℕ) → IsVariant text → IsTinyText 8 text
tiny_variant text h =
    let all : list_all is_small text ≡ true = grind (arith, nat_tests) in
    record { fits = grind (arith, nat_tests); bytes = small-bytes text all }

-- ---- texts in any case

-- a byte is one of a text where it is one in another case
lower-from : (c : ℕ) → IsTextByte (to_ascii_lowercase c) → IsTextByte c
lower-from c h = grind (arith, nat_tests)

upper-from : (c : ℕ) → IsTextByte (to_ascii_uppercase c) → IsTextByte c
upper-from c h = grind (arith, nat_tests)

module _ (case : ℕ → ℕ) (from : (c : ℕ) → IsTextByte (case c) → IsTextByte c) where
  bytes_from : (text : List ℕ) → All IsTextByte (map case text) → All IsTextByte text
  bytes_from [] h = All-nil IsTextByte
  bytes_from (c ∷ text) h =
      All-cons IsTextByte c text (from c (All-head IsTextByte (case c) (map case text) h))
      (bytes_from text (All-tail IsTextByte (case c) (map case text) h))

  tiny_from : (n : ℕ) (text : List ℕ) → IsTinyText n (map case text) → IsTinyText n text
  tiny_from n text h =
      record { fits = omega (arith, h.fits, length-map text case); bytes = bytes_from text h.bytes }

pub tiny_lowercase : (n : ℕ) (text : List ℕ) → IsTinyText n (map to_ascii_lowercase text)
    → IsTinyText n text
tiny_lowercase n text h = tiny_from to_ascii_lowercase lower-from n text h

pub tiny_uppercase : (n : ℕ) (text : List ℕ) → IsTinyText n (map to_ascii_uppercase text)
    → IsTinyText n text
tiny_uppercase n text h = tiny_from to_ascii_uppercase upper-from n text h

pub tiny_titlecase : (n : ℕ) (text : List ℕ) → IsTinyText n (titlecase text) → IsTinyText n text
tiny_titlecase n [] h = h
tiny_titlecase n (first ∷ rest) h = record {
  fits = omega (arith, h.fits, length-map rest to_ascii_lowercase);
  bytes = All-cons IsTextByte first rest
      (upper-from first (All-head IsTextByte _ (map to_ascii_lowercase rest) h.bytes))
      (bytes_from to_ascii_lowercase lower-from rest
      (All-tail IsTextByte (to_ascii_uppercase first) _ h.bytes));
}

-- the text of a `TinyStr` is ASCII
pub tiny-IsAscii : (n : ℕ) (text : List ℕ) → IsTinyText n text → IsAscii text
tiny-IsAscii n text is =
    IsAscii-from_all text (All-weaker IsTextByte (λ byte. byte < 128) (λ byte b. b.1) text is.bytes)
