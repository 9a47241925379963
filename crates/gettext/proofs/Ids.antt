-- Whether a key has an id, by its bytes and by its characters.
use Rattle.std.proofs.Common.{◌≡◌, ℕ, suc, ◌<◌, Bool, true, false, cond, not, List, [], ◌∷◌}
use Rattle.std.proofs.Common.{◌++◌, length, get_or, map, refl, sym, ap, ◌∙◌, arith}
use Rattle.std.specs.List.{list_any}
use Rattle.std.specs.Prelude.{encode_utf8, encode_utf8_all, ◌==◌}
use Rattle.std.specs.Str.{chars}
use Rattle.gettext.specs.MoLaws.{is_separator}
use Rattle.std.proofs.lemmas.Bool.{or_parts, ne_eqb, eqb-true, eqb-false, false_from_ne_true}
use Rattle.std.proofs.lemmas.List.{append-nil, length-map}
use Rattle.std.proofs.lemmas.Str.{encode_ascii, encodes-chars, IsUtf8-from_is_utf8, inside_one}
use Rattle.std.proofs.lemmas.Str.{length-le-encodes}
use Rattle.gettext.specs.declared.encoding.Encoding.{Encoding}
use Rattle.gettext.specs.declared.encoding.Encoding.TheVariants.{Utf8, Latin1, Windows1252}
use Rattle.gettext.specs.Encoding.{windows_1252, is_valid, text_in}
use Rattle.gettext.specs.Messages.{ends_context, has_id}
use Rattle.gettext.proofs.Encodings.{windows_1252_passes, windows_1252-low}

-- a context ends behind bytes without a byte 4 where it ends without them
ends-append : (xs ys : List ℕ) → list_any is_separator xs ≡ false
    → ends_context (xs ++ ys) ≡ ends_context ys
ends-append [] ys h = refl
ends-append (x ∷ xs) ys h =
    let both = or_parts (is_separator x) (list_any is_separator xs) h in
    rw both.0 (ends-append xs ys both.1)

-- bytes none of which is 4 have no byte 4
no_separator : (xs : List ℕ) → ((i : ℕ) → i < length xs → get_or xs i 0 ≡ 4 → ⊥)
    → list_any is_separator xs ≡ false
no_separator [] h = refl
no_separator (x ∷ xs) h =
    let first : is_separator x ≡ false = ne_eqb x 4 (λ e. h 0 (omega arith) e) in
    rw first (no_separator xs (λ i l. h (suc i) (omega arith)))

-- the bytes of another character than U+0004 have no byte 4
pub encode-no_separator : (c : ℕ) → (c ≡ 4 → ⊥) → list_any is_separator (encode_utf8 c) ≡ false
encode-no_separator c ne = no_separator (encode_utf8 c)
    (λ i l e.
    ne (inside_one c [] (encode_utf8 c) i (sym (append-nil (encode_utf8 c))) l (omega (arith, e))
    ∙ e))

-- a character has bytes
no_bytes : (c : ℕ) (t : List ℕ) → (length (encode_utf8_all (c ∷ t)) == 0) ≡ false
no_bytes c t =
    ne_eqb (length (encode_utf8_all (c ∷ t))) 0 (λ e. omega (arith, e, length-le-encodes (c ∷ t)))

-- a text is empty where its bytes are
none_alike : (t : List ℕ) → (length (encode_utf8_all t) == 0) ≡ (length t == 0)
none_alike [] = refl
none_alike (c ∷ t) = no_bytes c t ∙ sym (ne_eqb (suc (length t)) 0 (λ e. omega (arith, e)))

-- a text ends a context where its bytes do
ends-encoded : (t : List ℕ) → ends_context (encode_utf8_all t) ≡ ends_context t
ends-encoded [] = refl
ends-encoded (c ∷ t) = by_test (c == 4) refl (ends-encoded t) where
  by_test : (b : Bool) → (c == 4) ≡ b → ends_context (encode_utf8_all t) ≡ ends_context t
      → ends_context (encode_utf8 c ++ encode_utf8_all t) ≡ cond b (length t == 0) (ends_context t)
  by_test true e rest =
      let one : encode_utf8 c ≡ 4 ∷ [] = ap encode_utf8 (eqb-true c 4 e)
      ∙ encode_ascii 4 (omega arith) in
      rw one (none_alike t)
  by_test false e rest = ends-append (encode_utf8 c) (encode_utf8_all t)
      (encode-no_separator c (eqb-false c 4 e)) ∙ rest

-- a text has an id where its bytes have
has_id-encoded : (t : List ℕ) → has_id (encode_utf8_all t) ≡ has_id t
has_id-encoded t = rw (none_alike t, ends-encoded t) refl

-- windows-1252 reads byte 4 alone as U+0004
separator-windows_1252 : (c : ℕ) → (windows_1252 c == 4) ≡ (c == 4)
separator-windows_1252 c = by_test (c == 4) refl where
  by_test : (b : Bool) → (c == 4) ≡ b → (windows_1252 c == 4) ≡ b
  by_test true e = let is : c ≡ 4 = eqb-true c 4 e in
      rw (← windows_1252-low c (omega (arith, is))) e
  by_test false e =
      let passed : not (windows_1252 c == 4) ≡ true =
      windows_1252_passes (λ c. not (c == 4)) c refl (rw e refl) in
      false_from_ne_true (windows_1252 c == 4) (λ t. cc)

-- so a text in it ends a context where its bytes do
ends-windows_1252 : (b : List ℕ) → ends_context (map windows_1252 b) ≡ ends_context b
ends-windows_1252 [] = refl
ends-windows_1252 (c ∷ cs) =
    rw (separator-windows_1252 c, ends-windows_1252 cs, length-map cs windows_1252) refl

-- the bytes of a key tell whether it has an id
pub has_id-text_in : (e : Encoding) (bytes : List ℕ) → is_valid e bytes ≡ true
    → has_id (text_in e bytes) ≡ has_id bytes
has_id-text_in Utf8 bytes h = sym (has_id-encoded (chars bytes))
    ∙ ap has_id (encodes-chars bytes (IsUtf8-from_is_utf8 bytes h))
has_id-text_in Latin1 bytes h = refl
has_id-text_in Windows1252 bytes h =
    rw (length-map bytes windows_1252, ends-windows_1252 bytes) refl
