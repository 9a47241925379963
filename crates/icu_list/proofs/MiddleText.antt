-- A middle pattern in bytes.
use Rattle.std.proofs.Common.{◌≡◌, ℕ, ◌-◌, ◌++◌, List, ◌∷◌, None, Ok, Err, Bool, true, false, drop}
use Rattle.std.proofs.Common.{take, length, codes, refl, sym, ap, ◌∙◌, subst}
use Rattle.std.specs.Str.{chars, IsUtf8}
use Rattle.std.specs.Str.Pattern.{FindsTextPrefix, FindsTextSuffix, StripsPrefix, StripsSuffix}
use Rattle.std.proofs.lemmas.Str.{chars-append, encodes-chars, encodes-append, IsUtf8-take}
use Rattle.std.proofs.lemmas.Str.{IsUtf8-drop}
use Rattle.icu_list.specs.PatternTexts.{first_item, second_item, is_middle, middle}
use Rattle.icu_list.specs.declared.error.DataError.TheVariants.{InvalidPattern}
use Rattle.icu_list.proofs.Reading.{first_characters, second_characters, middle_is, middle_no}
use Rattle.icu_list.proofs.Reading.{middle_shape}
use lib.Utf8.{encodes, scalars}

-- the placeholders are text
pub first_text : IsUtf8 (codes "{0}")
unfolding lib.Utf8.encode
first_text = (codes "{0}", (refl, refl))

-- the place of the second item is UTF-8
pub second_text : IsUtf8 (codes "{1}")
unfolding lib.Utf8.encode
second_text = (codes "{1}", (refl, refl))

-- what stands behind the first place
pub stripped_front : (text rest : List ℕ) → StripsPrefix (FindsTextPrefix (codes "{0}")) text rest
    → text ≡ codes "{0}" ++ rest
stripped_front text rest h = h.1.1 ∙ ap (λ x. codes "{0}" ++ x) (sym h.2)

-- what stands before the second place
pub stripped_back : (rest between : List ℕ)
    → StripsSuffix (FindsTextSuffix (codes "{1}")) rest between → rest ≡ between ++ codes "{1}"
stripped_back rest between h = h.1.1 ∙ ap (λ x. x ++ codes "{1}") (sym h.2)

-- a middle pattern, by what stands between its places
pub middle_found : (text rest between : List ℕ) → text ≡ codes "{0}" ++ rest
    → rest ≡ between ++ codes "{1}" → IsUtf8 between → middle (chars text) ≡ Ok (chars between)
middle_found text rest between e f utf8 =
    let shape : chars text ≡ first_item ++ (chars between ++ second_item) =
    ap chars (e ∙ ap (λ x. codes "{0}" ++ x) f)
    ∙ chars-append (codes "{0}") (between ++ codes "{1}") first_text
    ∙ ap (λ x. x ++ chars (between ++ codes "{1}")) first_characters
    ∙ ap (λ x. first_item ++ x)
    (chars-append between (codes "{1}") utf8
    ∙ ap (λ x. chars between ++ x) second_characters) in
    ap middle shape ∙ middle_is (chars between)

-- a middle pattern in bytes
shaped : (text : List ℕ) → IsUtf8 text → (m : List ℕ)
    → chars text ≡ first_item ++ (m ++ second_item)
    → text ≡ codes "{0}" ++ (encodes m ++ codes "{1}")
unfolding lib.Utf8.encode
shaped text utf8 m e =
    sym (encodes-chars text utf8) ∙ ap encodes e ∙ encodes-append first_item (m ++ second_item)
    ∙ ap (λ x. codes "{0}" ++ x) (encodes-append m second_item)

-- what has no such places is refused
refused : (text : List ℕ) → ((m : List ℕ) → chars text ≡ first_item ++ (m ++ second_item) → ⊥)
    → middle (chars text) ≡ Err InvalidPattern
refused text never = by (is_middle (chars text)) refl where
  by : (b : Bool) → is_middle (chars text) ≡ b → middle (chars text) ≡ Err InvalidPattern
  by true h = let s = middle_shape (chars text) h in absurd (never s.0 s.1)
  by false h = middle_no (chars text) h

-- a text that doesn't begin with the first place is refused
pub lacks_front : (text : List ℕ) → IsUtf8 text → FindsTextPrefix (codes "{0}") text None
    → middle (chars text) ≡ Err InvalidPattern
lacks_front text utf8 lacks =
    refused text (λ m e. lacks (encodes m ++ codes "{1}") (shaped text utf8 m e))

-- what stands behind three equal characters
same_behind : (a b c : ℕ) (x y : List ℕ) → a ∷ (b ∷ (c ∷ x)) ≡ a ∷ (b ∷ (c ∷ y)) → x ≡ y
same_behind a b c x y e = cc

-- a text that doesn't end with the second place is refused
pub lacks_back : (text rest : List ℕ) → IsUtf8 text → text ≡ codes "{0}" ++ rest
    → FindsTextSuffix (codes "{1}") rest None → middle (chars text) ≡ Err InvalidPattern
lacks_back text rest utf8 e lacks =
    refused text
    (λ m shape. lacks (encodes m)
    (same_behind 123 48 125 rest (encodes m ++ codes "{1}")
    (sym e ∙ shaped text utf8 m shape)))

-- what stands behind the first place is UTF-8
pub utf8_rest : (text rest : List ℕ) → IsUtf8 text
    → StripsPrefix (FindsTextPrefix (codes "{0}")) text rest → IsUtf8 rest
utf8_rest text rest utf8 h =
    subst IsUtf8 (ap (λ n. drop n text) (sym h.1.0) ∙ sym h.2) (IsUtf8-drop text 3 utf8 h.1.2)

-- what stands between the places is UTF-8
pub utf8_between : (rest between : List ℕ) → IsUtf8 rest
    → StripsSuffix (FindsTextSuffix (codes "{1}")) rest between → IsUtf8 between
utf8_between rest between utf8 h =
    subst IsUtf8 (ap (λ n. take (length rest - n) rest) (sym h.1.0) ∙ sym h.2)
    (IsUtf8-take rest (length rest - 3) utf8 h.1.2)
