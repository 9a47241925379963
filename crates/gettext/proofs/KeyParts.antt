-- The parts of a head, decoded each by itself, make the key that the whole head says.
use Rattle.std.proofs.Common.{◌≡◌, ℕ, Bool, true, false, List, [], ◌∷◌, ◌++◌, length}
use Rattle.std.proofs.Common.{map, refl, sym, ap, ◌∙◌, ◌⊎◌, inl, inr, arith}
use Rattle.std.specs.List.{list_any}
use Rattle.std.specs.Prelude.{encode_utf8, encode_utf8_all, ◌==◌}
use Rattle.std.specs.Str.{all_scalars}
use Rattle.std.proofs.lemmas.Bool.{and_parts, or_parts, eqb-true, eqb-false}
use Rattle.std.proofs.lemmas.List.{map-append, length-append}
use Rattle.std.proofs.lemmas.Str.{encode_ascii}
use Rattle.gettext.specs.declared.encoding.Encoding.{Encoding}
use Rattle.gettext.specs.declared.encoding.Encoding.TheVariants.{Utf8, Latin1, Windows1252}
use Rattle.gettext.specs.Encoding.{IsText, windows_1252}
use Rattle.gettext.specs.MoLaws.{is_separator, IsKeyOf, alone, joined}
use Rattle.gettext.proofs.Encodings.{windows_1252-low}
use Rattle.gettext.proofs.Ids.{encode-no_separator}

-- what stands before the first byte 4, and what behind it
abbrev Cut : List ℕ → Type 0
Cut s = (front : List ℕ) × (back : List ℕ) × (list_any is_separator front ≡ false)
    × (s ≡ front ++ 4 ∷ back)

-- a text has no byte 4, or is cut at the first
cut : (s : List ℕ) → (list_any is_separator s ≡ false) ⊎ Cut s
cut [] = inl refl
cut (c ∷ cs) = by_test (c == 4) refl (cut cs) where
  by_test : (t : Bool) → (c == 4) ≡ t → (list_any is_separator cs ≡ false) ⊎ Cut cs
      → (list_any is_separator (c ∷ cs) ≡ false) ⊎ Cut (c ∷ cs)
  by_test true e rest = inr ([], cs, refl, ap (λ x. x ∷ cs) (eqb-true c 4 e))
  by_test false e (inl none) = inl (rw (e, none) refl)
  by_test false e (inr r) = inr (c ∷ r.0, r.1, rw (e, r.2) refl, ap (λ t. c ∷ t) r.3)

-- what stands behind a text without a byte 4, where another one ends before the first
strip : (xs ys front back : List ℕ) → list_any is_separator xs ≡ false
    → list_any is_separator front ≡ false → xs ++ ys ≡ front ++ 4 ∷ back
    → (rest : List ℕ) × (front ≡ xs ++ rest) × (list_any is_separator rest ≡ false)
    × (ys ≡ rest ++ 4 ∷ back)
strip [] ys front back h k e = (front, refl, k, e)
strip (x ∷ xs) ys [] back h k e = let four : x ≡ 4 = cc in let isnt =
    (or_parts (is_separator x) (list_any is_separator xs) h).0 in absurd (eqb-false x 4 isnt four)
strip (x ∷ xs) ys (f ∷ fs) back h k e =
    let same : x ≡ f = cc in
    let tail : xs ++ ys ≡ fs ++ 4 ∷ back = cc in
    let r = strip xs ys fs back (or_parts (is_separator x) (list_any is_separator xs) h).1
    (or_parts (is_separator f) (list_any is_separator fs) k).1 tail in
    let front : fs ≡ xs ++ r.0 = r.1 in
    let whole : f ∷ fs ≡ x ∷ (xs ++ r.0) = cc in
    (r.0, whole, r.2, r.3)

-- a text in UTF-8 is cut where its bytes are
abbrev Parts : List ℕ → List ℕ → List ℕ → Type 0
Parts text front back = (context : List ℕ) × (id : List ℕ) × (text ≡ context ++ 4 ∷ id)
    × IsText Utf8 front context × IsText Utf8 back id

-- the characters before a byte 4 and those behind it are the bytes before it and behind it
cut_utf8 : (text front back : List ℕ) → list_any is_separator front ≡ false
    → all_scalars text ≡ true → encode_utf8_all text ≡ front ++ 4 ∷ back → Parts text front back
cut_utf8 [] front back none s e =
    absurd (omega (arith, ap length e, length-append front (4 ∷ back)))
cut_utf8 (c ∷ t) front back none s e = by_test (c == 4) refl front none e
    (λ f n k. cut_utf8 t f back n (and_parts _ (all_scalars t) s).1 k) where
      by_test : (b : Bool) → (c == 4) ≡ b → (front : List ℕ) → list_any is_separator front ≡ false
          → encode_utf8_all (c ∷ t) ≡ front ++ 4 ∷ back
          → ((f : List ℕ) → list_any is_separator f ≡ false → encode_utf8_all t ≡ f ++ 4 ∷ back
          → Parts t f back) → Parts (c ∷ t) front back
      by_test true is [] none e later =
          let four = eqb-true c 4 is in
          let one : encode_utf8 c ≡ 4 ∷ [] = ap encode_utf8 four ∙ encode_ascii 4 (omega arith) in
          let k = rw one at e in (
            [],
            t,
            ap (λ x. x ∷ t) four,
            (refl, refl),
            ((and_parts _ (all_scalars t) s).1, (let same : encode_utf8_all t ≡ back = cc in same)),
          )
      by_test true is (f ∷ fs) none e later =
          let one : encode_utf8 c ≡ 4 ∷ [] = ap encode_utf8 (eqb-true c 4 is)
          ∙ encode_ascii 4 (omega arith) in
          let k = rw one at e in
          let four : f ≡ 4 = cc in
          absurd (eqb-false f 4 (or_parts (is_separator f) (list_any is_separator fs) none).0 four)
      by_test false isnt front none e later =
          let r = strip (encode_utf8 c) (encode_utf8_all t) front back
          (encode-no_separator c (eqb-false c 4 isnt)) none e in
          let p = later r.0 r.2 r.3 in
          let scalars = and_parts _ (all_scalars t) s in (
            c ∷ p.0,
            p.1,
            ap (λ x. c ∷ x) p.2,
            (rw (scalars.0, p.3.0) refl, rw (p.3.1) (sym r.1)),
            p.4,
          )

-- the key that a head says is that of its parts
pub key_parts : (e : Encoding) (head key : List ℕ) → IsText e head key → IsKeyOf e head key
key_parts e head key text = by_cut e text (cut head) where
  by_cut : (e : Encoding) → IsText e head key → (list_any is_separator head ≡ false) ⊎ Cut head
      → IsKeyOf e head key
  by_cut e text (inl none) = alone none text
  by_cut Utf8 text (inr c) =
      let p = cut_utf8 key c.0 c.1 c.2 text.0 (text.1 ∙ c.3) in
      joined c.0 c.1 p.0 p.1 c.2 c.3 p.3 p.4 p.2
  by_cut Latin1 text (inr c) = joined c.0 c.1 c.0 c.1 c.2 c.3 refl refl (text ∙ c.3)
  by_cut Windows1252 text (inr c) =
      let key_is : key ≡ map windows_1252 c.0 ++ 4 ∷ map windows_1252 c.1 = text
      ∙ ap (map windows_1252) c.3 ∙ map-append windows_1252 c.0 (4 ∷ c.1)
      ∙ ap (λ x. map windows_1252 c.0 ++ x ∷ map windows_1252 c.1)
      (sym (windows_1252-low 4 (omega arith))) in
      joined c.0 c.1 (map windows_1252 c.0) (map windows_1252 c.1) c.2 c.3 refl refl key_is
