-- The first occurrence of a word in a text, in bytes and in characters.
use Rattle.std.proofs.Common.{◌≡◌, ℕ, ◌+◌, ◌<◌, Bool, true, false, List, [], ◌∷◌, ◌++◌, length}
use Rattle.std.proofs.Common.{take, drop, Option, Some, None, refl, sym, ap, subst, ◌∙◌, arith}
use Rattle.std.proofs.Common.{append_assoc, length-append, chars}
use Rattle.std.specs.Prelude.{nat_eq, if◌then◌else◌}
use Rattle.std.specs.List.{starts_with}
use Rattle.std.specs.Option.{option_map}
use Rattle.std.specs.Str.{IsUtf8}
use Rattle.std.specs.Str.Pattern.{FindsText, LacksTextAt, SplitsAroundMatch}
use Rattle.std.proofs.lemmas.Slice.Eq.{bytes_eq-Decides}
use Rattle.std.proofs.lemmas.List.{take-append-drop}
use Rattle.std.proofs.lemmas.Str.{chars-append, encodes-append, encodes-chars, length-le-encodes}
use Rattle.std.proofs.lemmas.Str.{IsUtf8-append, IsUtf8-take, IsUtf8-drop, IsCharBoundary-from_drop}
use Rattle.std.proofs.Math.Seq.{take-append_seam, drop-append_seam}
use Rattle.icu_list.specs.PatternTexts.{cut}
use lib.Utf8.{encodes}

-- a text begins with a word
pub begins : (word rest : List ℕ) → starts_with nat_eq (word ++ rest) word ≡ true
begins word rest =
    (bytes_eq-Decides word (take (length word) (word ++ rest))).1 (sym (take-append_seam word rest))

-- where a text begins with a word, the rest is behind it
pub begun : (text word : List ℕ) → starts_with nat_eq text word ≡ true
    → text ≡ word ++ drop (length word) text
begun text word h =
    let same = (bytes_eq-Decides word (take (length word) text)).0 h in
    sym (take-append-drop (length word) text) ∙ ap (λ x. x ++ drop (length word) text) (sym same)

-- a test that passes
by_true : {X : Type 0} (b : Bool) (x y : X) → b ≡ true → (if b then x else y) ≡ x
by_true true x y e = refl
by_true false x y e = absurd cc

-- a test that fails
by_false : {X : Type 0} (b : Bool) (x y : X) → (b ≡ true → ⊥) → (if b then x else y) ≡ y
by_false true x y never = absurd (never refl)
by_false false x y never = refl

-- no text that ends the first one, and goes on with the other, begins with the word
abbrev pub FirstBehind : List ℕ → List ℕ → List ℕ → Type 0
FirstBehind word a b = (x y : List ℕ) → a ≡ x ++ y → 0 < length y → (r : List ℕ)
    → y ++ (word ++ b) ≡ word ++ r → ⊥

-- a cut behind one character
abbrev behind_one : ℕ → List ℕ × List ℕ → List ℕ × List ℕ
behind_one c x = (c ∷ x.0, x.1)

-- the word first stands behind a
pub cut_first : (word a b : List ℕ) → 0 < length word → FirstBehind word a b
    → cut word (a ++ (word ++ b)) ≡ Some (a, b)
cut_first [] a b some first = absurd (omega arith)
cut_first (w ∷ word) [] b some first =
    by_true (starts_with nat_eq ((w ∷ word) ++ b) (w ∷ word))
    (Some ([], drop (length (w ∷ word)) ((w ∷ word) ++ b)))
    (option_map (behind_one w) (cut (w ∷ word) (word ++ b))) (begins (w ∷ word) b)
    ∙ ap (λ (x : List ℕ). Some ([], x)) (drop-append_seam (w ∷ word) b)
cut_first (w ∷ word) (c ∷ a) b some first =
    by_false (starts_with nat_eq (c ∷ (a ++ ((w ∷ word) ++ b))) (w ∷ word))
    (Some ([], drop (length (w ∷ word)) (c ∷ (a ++ ((w ∷ word) ++ b)))))
    (option_map (behind_one c) (cut (w ∷ word) (a ++ ((w ∷ word) ++ b))))
    (λ h. first [] (c ∷ a) refl (omega arith)
    (drop (length (w ∷ word)) (c ∷ (a ++ ((w ∷ word) ++ b))))
    (begun (c ∷ (a ++ ((w ∷ word) ++ b))) (w ∷ word) h))
    ∙ ap (option_map (behind_one c))
    (cut_first (w ∷ word) a b some (λ x y e lt r. first (c ∷ x) y (ap (λ l. c ∷ l) e) lt r))

-- what is in equal options is equal
some_is : {X : Type 0} (x y : X) → Some x ≡ Some y → x ≡ y
some_is x y e = cc

-- the parts of a cut, by whether the word stands at the front
parts_by : (word text a b : List ℕ) (c : ℕ) (t : Bool) → starts_with nat_eq (c ∷ text) word ≡ t
    → (o : Option (List ℕ × List ℕ))
    → ((x y : List ℕ) → o ≡ Some (x, y) → text ≡ x ++ (word ++ y))
    → (if t then Some ([], drop (length word) (c ∷ text)) else option_map (behind_one c) o)
    ≡ Some (a, b) → c ∷ text ≡ a ++ (word ++ b)
parts_by word text a b c true h o more e =
    let same = some_is ([], drop (length word) (c ∷ text)) (a, b) e in
    let first = ap (λ (y : List ℕ × List ℕ). y.0) same in
    let second = ap (λ (y : List ℕ × List ℕ). y.1) same in
    begun (c ∷ text) word h ∙ ap (λ x. word ++ x) second ∙ ap (λ x. x ++ (word ++ b)) first
parts_by word text a b c false h None more e = absurd cc
parts_by word text a b c false h (Some x) more e =
    let same = some_is (c ∷ x.0, x.1) (a, b) e in
    let first = ap (λ (y : List ℕ × List ℕ). y.0) same in
    let second = ap (λ (y : List ℕ × List ℕ). y.1) same in
    ap (λ l. c ∷ l) (more x.0 x.1 refl) ∙ ap (λ y. (c ∷ x.0) ++ (word ++ y)) second
    ∙ ap (λ y. y ++ (word ++ b)) first

-- the text is what is before, the word, and what is behind
pub cut_parts : (word text a b : List ℕ) → cut word text ≡ Some (a, b) → text ≡ a ++ (word ++ b)
cut_parts word [] a b h = absurd cc
cut_parts word (c ∷ text) a b h =
    parts_by word text a b c (starts_with nat_eq (c ∷ text) word) refl (cut word text)
    (λ x y e. cut_parts word text x y e) h

-- ---- from bytes to characters

-- the bytes of three texts
encodes_three : (a b c : List ℕ) → encodes (a ++ (b ++ c)) ≡ encodes a ++ (encodes b ++ encodes c)
encodes_three a b c = encodes-append a (b ++ c) ∙ ap (λ x. encodes a ++ x) (encodes-append b c)

-- a word of some bytes has some characters
some_characters : (word : List ℕ) → IsUtf8 word → 0 < length word → 0 < length (chars word)
some_characters word utf8 some = by (chars word) (encodes-chars word utf8) where
  by : (cs : List ℕ) → encodes cs ≡ word → 0 < length cs
  by [] e = let l = ap length e in omega arith
  by (c ∷ cs) e = omega arith

-- the text begins with a text in characters, and then has the word
word_at : (word text x r : List ℕ) → IsUtf8 word → IsUtf8 text → chars text ≡ x ++ (chars word ++ r)
    → text ≡ encodes x ++ (word ++ encodes r)
word_at word text x r uw ut e =
    sym (encodes-chars text ut) ∙ ap encodes e ∙ encodes_three x (chars word) r
    ∙ ap (λ y. encodes x ++ (y ++ encodes r)) (encodes-chars word uw)

-- what stands behind the bytes of a front
drop_at : (word text x r : List ℕ) → text ≡ encodes x ++ (word ++ encodes r)
    → drop (length (encodes x)) text ≡ word ++ encodes r
drop_at word text x r e =
    ap (drop (length (encodes x))) e ∙ drop-append_seam (encodes x) (word ++ encodes r)

-- a text in which the word never begins has no cut
lacking : (word text front : List ℕ) (i : ℕ) → IsUtf8 word → IsUtf8 text → IsUtf8 front
    → length front ≡ i → (b : List ℕ)
    → chars text ≡ chars front ++ (chars word ++ b) → ((k : ℕ) → k < i → LacksTextAt word text k)
    → FirstBehind (chars word) (chars front) b
lacking word text front i uw ut uf len b e lacks = λ x y cut_e some r h.
    let whole : chars text ≡ x ++ (chars word ++ r) =
    e ∙ ap (λ l. l ++ (chars word ++ b)) cut_e ∙ append_assoc x y (chars word ++ b)
    ∙ ap (λ l. x ++ l) h in
    let bytes = word_at word text x r uw ut whole in
    let shape : front ≡ encodes x ++ encodes y =
    sym (encodes-chars front uf) ∙ ap encodes cut_e ∙ encodes-append x y in
    let longer = ap length shape in
    let lengths = length-append (encodes x) (encodes y) in
    let more = length-le-encodes y in
    lacks (length (encodes x)) (omega arith) (encodes r) (drop_at word text x r bytes)

-- what `split_once` gives is the cut at the first occurrence
pub cut_found : (word text front back : List ℕ) → IsUtf8 word → IsUtf8 text → 0 < length word
    → SplitsAroundMatch (FindsText word) text front back
    → cut (chars word) (chars text) ≡ Some (chars front, chars back)
cut_found word text front back uw ut some (i, j, finds, f, b, le, lf, lb) =
    let at = finds.1 in
    let ends = at.ends in
    let utf8_back : IsUtf8 back = rw b (rw ends (IsUtf8-drop text (i + length word) ut at.after)) in
    let rest : drop i text ≡ word ++ back = at.split ∙ ap (λ x. word ++ x) (sym b) in
    let utf8_rest : IsUtf8 (drop i text) =
    subst IsUtf8 (sym rest) (IsUtf8-append word back uw utf8_back) in
    let utf8_front : IsUtf8 front =
    subst IsUtf8 (sym f)
    (IsUtf8-take text i ut (IsCharBoundary-from_drop text i (omega arith) utf8_rest)) in
    let whole : text ≡ front ++ (word ++ back) =
    sym (take-append-drop i text) ∙ ap (λ x. x ++ drop i text) (sym f)
    ∙ ap (λ x. front ++ x) rest in
    let characters : chars text ≡ chars front ++ (chars word ++ chars back) =
    ap chars whole ∙ chars-append front (word ++ back) utf8_front
    ∙ ap (λ x. chars front ++ x) (chars-append word back uw) in
    ap (cut (chars word)) characters
    ∙ cut_first (chars word) (chars front) (chars back) (some_characters word uw some)
    (lacking word text front i uw ut utf8_front lf (chars back) characters finds.0)

-- and where it finds none there is none
pub cut_missing : (word text : List ℕ) → IsUtf8 word → IsUtf8 text → FindsText word text None
    → cut (chars word) (chars text) ≡ None
cut_missing word text uw ut lacks = by (cut (chars word) (chars text)) refl where
  by : (o : Option (List ℕ × List ℕ)) → cut (chars word) (chars text) ≡ o → o ≡ None
  by None e = refl
  by (Some x) e =
      let bytes = word_at word text x.0 x.1 uw ut (cut_parts (chars word) (chars text) x.0 x.1 e) in
      let lengths = ap length bytes ∙ length-append (encodes x.0) (word ++ encodes x.1) in
      absurd
      (lacks (length (encodes x.0)) (omega arith) (encodes x.1)
      (drop_at word text x.0 x.1 bytes))
