-- The words of a command line, one or two.
use Rattle.std.proofs.Common.{◌≡◌, ℕ, ◌<◌, ◌≤◌, List, [], ◌∷◌, length, get_or, map, String, Global}
use Rattle.std.proofs.Common.{string_bytes, Bool, IsTrue, sym, ap, ◌∙◌, arith}
use Rattle.std.proofs.lemmas.Slice.Eq.{bytes_eq-Decides}
use Rattle.std.specs.Str.{bytes_eq}

-- a word that equals a text is that text
pub is_word : (word text bytes : List ℕ) (b : Bool) → bytes ≡ word → b ≡ bytes_eq bytes text
    → IsTrue b → word ≡ text
is_word word text bytes b is same equal =
    sym is ∙ (bytes_eq-Decides bytes text).0 (sym same ∙ equal)

-- a list of one word
pub one_word : (words : List (String Global)) (word : String Global) (text : List ℕ)
    → 1 ≤ length words → length words < 2 → word ≡ get_or words 0 word → string_bytes word ≡ text
    → map string_bytes words ≡ text ∷ []
one_word [] word text some few is same = absurd (omega arith)
one_word (w ∷ []) word text some few is same = ap (λ t. t ∷ []) (ap string_bytes (sym is) ∙ same)
one_word (w ∷ x ∷ ws) word text some few is same = absurd (omega arith)

-- a list of two words
pub two_words : (words : List (String Global)) (first second : String Global) (text other : List ℕ)
    → 2 ≤ length words → length words < 3 → first ≡ get_or words 0 first
    → second ≡ get_or words 1 second
    → string_bytes first ≡ text → string_bytes second ≡ other
    → map string_bytes words ≡ text ∷ other ∷ []
two_words [] first second text other some few is so same also = absurd (omega arith)
two_words (w ∷ []) first second text other some few is so same also = absurd (omega arith)
two_words (w ∷ x ∷ []) first second text other some few is so same also =
    ap (λ t. t ∷ string_bytes x ∷ []) (ap string_bytes (sym is) ∙ same)
    ∙ ap (λ t. text ∷ t ∷ []) (ap string_bytes (sym so) ∙ also)
two_words (w ∷ x ∷ y ∷ ws) first second text other some few is so same also = absurd (omega arith)
