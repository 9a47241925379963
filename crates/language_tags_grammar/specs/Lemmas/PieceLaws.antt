-- Texts in pieces.
use Rattle.std.proofs.Common.{◌≡◌, ℕ, suc, ◌+◌, ◌<◌, Bool, true, false, not, List, [], ◌∷◌, Option}
use Rattle.std.proofs.Common.{Some, None, map, length, refl, sym, ap, ◌∙◌, cond, arith, lit<, Bor}
use Rattle.std.specs.Prelude.{MatchOption}
use Rattle.std.specs.Char.{to_ascii_lowercase}
use Rattle.std.specs.List.{onto_first, position_or_len}
use Rattle.std.proofs.lemmas.Bool.Decides.{nat_tests}
use Rattle.std.proofs.lemmas.List.Splits.{slice_split_first}
use Rattle.std.proofs.lemmas.Str.Pattern.{IsSplitOnceResult, split_once_first}
use Rattle.language_tags_grammar.specs.Pieces.{is_dash, pieces, dashed, lowercase}

-- a text without a dash is one piece
pub no_dash : (text : List ℕ) → position_or_len is_dash text ≡ length text → pieces text ≡ text ∷ []
no_dash [] e = refl
no_dash (c ∷ text) e = by (no_dash text) (is_dash c) e
  where
    by : (position_or_len is_dash text ≡ length text → pieces text ≡ text ∷ []) → (b : Bool)
        → cond (not b) (1 + position_or_len is_dash text) 0 ≡ suc (length text)
        → cond b ([] ∷ pieces text) (onto_first c (pieces text)) ≡ (c ∷ text) ∷ []
    by rest true e = absurd (omega arith)
    by rest false e = ap (onto_first c) (rest (omega arith))

-- what `split_once` gives at a dash
pub first_piece : (text : List ℕ) (r : Option (Bor (List ℕ) × Bor (List ℕ)))
    → IsSplitOnceResult 45 text r
    → MatchOption r (pieces text ≡ text ∷ []) (λ x. pieces text ≡ x.0.now ∷ pieces x.1.now)
first_piece text None h = no_dash text (split_once_first 45 text None h (lit< tt))
first_piece text (Some x) h =
    let cut = split_once_first 45 text (Some x) h (lit< tt) in
    slice_split_first is_dash text 0 cut.0
    ∙ (λ i. sym cut.1 i ∷ pieces (sym cut.2 i))

-- an iterator over pieces has fewer left behind each
pub fewer : {X : Type 0} (old : List X) (x : X) (new : List X) → old ≡ x ∷ new
    → length new < length old
fewer old x new e = rw e (omega arith)

-- with a dash before each piece, a text is one byte longer
length-dashed_onto : (c : ℕ) (ps : List (List ℕ)) → 0 < length ps
    → length (dashed (onto_first c ps)) ≡ length (dashed ps) + 1
length-dashed_onto c [] h = absurd (omega arith)
length-dashed_onto c (p ∷ ps) h = omega arith

pub some_piece : (text : List ℕ) → 0 < length (pieces text)
some_piece [] = omega arith
some_piece (c ∷ text) = by (is_dash c) (pieces text) (some_piece text)
  where
    by : (b : Bool) (ps : List (List ℕ)) → 0 < length ps
        → 0 < length (cond b ([] ∷ ps) (onto_first c ps))
    by true ps h = omega arith
    by false [] h = absurd (omega arith)
    by false (p ∷ ps) h = omega arith

pub length-dashed : (text : List ℕ) → length (dashed (pieces text)) ≡ length text + 1
length-dashed [] = refl
length-dashed (c ∷ text) = by (length-dashed text) (is_dash c)
  where
    by : length (dashed (pieces text)) ≡ length text + 1 → (b : Bool)
        → length (dashed (cond b ([] ∷ pieces text) (onto_first c (pieces text))))
        ≡ suc (length text) + 1
    by rest true = omega arith
    by rest false = omega (arith, length-dashed_onto c (pieces text) (some_piece text))

-- the pieces of a text in lower case
dash_lowercase : (c : ℕ) → is_dash (to_ascii_lowercase c) ≡ is_dash c
dash_lowercase c = grind (arith, nat_tests)

pub pieces-lowercase : (text : List ℕ) → pieces (lowercase text) ≡ map lowercase (pieces text)
pieces-lowercase [] = refl
pieces-lowercase (c ∷ text) =
    (λ i. cond (dash_lowercase c i) ([] ∷ pieces-lowercase text i)
    (onto_first (to_ascii_lowercase c) (pieces-lowercase text i)))
    ∙ by (is_dash c) (pieces text)
  where
    by : (b : Bool) (ps : List (List ℕ))
        → cond b ([] ∷ map lowercase ps) (onto_first (to_ascii_lowercase c) (map lowercase ps))
        ≡ map lowercase (cond b ([] ∷ ps) (onto_first c ps))
    by true ps = refl
    by false [] = refl
    by false (p ∷ ps) = refl
