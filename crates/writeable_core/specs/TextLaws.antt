-- The characters of a text that grows, and texts that are one.
use Rattle.std.proofs.Common.{◌≡◌, ℕ, List, [], ◌∷◌, ◌++◌, sym, ap, ◌∙◌, append-nil, length, true}
use Rattle.std.proofs.Common.{subst, string_bytes, String}
use Rattle.std.specs.Char.{IsScalar}
use Rattle.std.specs.Cmp.{both_ways}
use Rattle.std.specs.Str.{bytes_eq, chars, IsUtf8, is_utf8}
use Rattle.std.proofs.lemmas.Str.{chars-nil, chars-append, chars_past_char, IsUtf8-append}
use Rattle.std.proofs.lemmas.Str.{IsUtf8-encode, IsUtf8-from_is_utf8, IsUtf8-string_bytes}
use Rattle.std.proofs.lemmas.Str.{is_utf8-from_IsUtf8, encodes-chars}
use Rattle.std.proofs.lemmas.Slice.Eq.{bytes_eq-Decides}
use Rattle.writeable_core.specs.Hint.{byte_length}
use Rattle.writeable_core.specs.Texts.{same_text}
use lib.Utf8.{encode, encodes}

-- no byte, no character
pub chars-none : (bytes : List ℕ) → bytes ≡ [] → chars bytes ≡ []
chars-none bytes e = ap chars e ∙ chars-nil

-- one character's bytes are that character
pub chars-encode : (c : ℕ) → IsScalar c → chars (encode c) ≡ c ∷ []
chars-encode c scalar =
    chars_past_char (encode c) [] c (IsUtf8-encode c scalar) (sym (append-nil (encode c)))
    ∙ ap (λ cs. c ∷ cs) chars-nil

-- a text is pushed to the end of a string
pub pushed_str : {Z : Type 0} (s t : String Z) (piece : List ℕ)
    → string_bytes t ≡ string_bytes s ++ piece
    → chars (string_bytes t) ≡ chars (string_bytes s) ++ chars piece
pushed_str s t piece e = ap chars e ∙ chars-append (string_bytes s) piece (IsUtf8-string_bytes s)

-- a character is pushed to the end of a string
pub pushed_char : {Z : Type 0} (s t : String Z) (c : ℕ) → IsScalar c
    → string_bytes t ≡ string_bytes s ++ encode c
    → chars (string_bytes t) ≡ chars (string_bytes s) ++ c ∷ []
pushed_char s t c scalar e =
    pushed_str s t (encode c) e ∙ ap (λ cs. chars (string_bytes s) ++ cs) (chars-encode c scalar)

-- a text's characters, encoded, are its bytes
pub encodes-chars_of : {Z : Type 0} (s : String Z)
    → encodes (chars (string_bytes s)) ≡ string_bytes s
encodes-chars_of s = encodes-chars (string_bytes s) (IsUtf8-string_bytes s)

-- a text has as many bytes in UTF-8 as the bytes that it was read from
pub byte_length-chars : (bytes : List ℕ) → IsUtf8 bytes → byte_length (chars bytes) ≡ length bytes
byte_length-chars bytes utf8 = ap length (encodes-chars bytes utf8)

-- a character has as many bytes in UTF-8 as it is encoded in
pub byte_length-char : (c : ℕ) → byte_length (c ∷ []) ≡ length (encode c)
byte_length-char c = ap length (append-nil (encode c))

-- a text and another are a text
pub is_utf8-append : (s piece t : List ℕ) → is_utf8 s ≡ true → IsUtf8 piece → t ≡ s ++ piece
    → is_utf8 t ≡ true
is_utf8-append s piece t held utf8 e =
    is_utf8-from_IsUtf8 t
    (subst IsUtf8 (sym e) (IsUtf8-append s piece (IsUtf8-from_is_utf8 s held) utf8))

-- texts of one list of characters are of one list of bytes
pub bytes_eq-chars : (a b : List ℕ) → IsUtf8 a → IsUtf8 b
    → bytes_eq a b ≡ same_text (chars a) (chars b)
bytes_eq-chars a b ua ub =
    both_ways (bytes_eq a b) (same_text (chars a) (chars b))
    (λ e. (bytes_eq-Decides (chars a) (chars b)).1 (ap chars ((bytes_eq-Decides a b).0 e)))
    (λ e. (bytes_eq-Decides a b).1
    (sym (encodes-chars a ua) ∙ ap encodes ((bytes_eq-Decides (chars a) (chars b)).0 e)
    ∙ encodes-chars b ub))
