-- What stands before and behind the first place of a word.
use Rattle.std.proofs.Common.{◌≡◌, ℕ, zero, suc, ◌+◌, ◌<◌, ◌≤◌, true, false, List, [], ◌∷◌, ◌++◌}
use Rattle.std.proofs.Common.{length, take, drop, Some, None, refl, ap, arith, length-append}
use Rattle.std.specs.Prelude.{nat_eq}
use Rattle.std.specs.List.{starts_with}
use Rattle.std.specs.Str.Pattern.{LacksTextAt, FindsText, SplitsAroundMatch}
use Rattle.std.proofs.lemmas.List.{length-drop}
use Rattle.std.proofs.lemmas.Bool.{false_from_ne_true}
use Rattle.std.proofs.lemmas.Bool.Decides.{Decides-eqb}
use Rattle.std.proofs.lemmas.Slice.Eq.{starts_is}
use Rattle.gettext.specs.Metadata.{after_word, before_word}

-- a text doesn't begin with a word that isn't there
no_start : (w s : List ℕ) → LacksTextAt w s 0 → starts_with nat_eq s w ≡ false
no_start w s lacks = false_from_ne_true (starts_with nat_eq s w)
    (λ t. lacks (drop (length w) s) ((starts_is Decides-eqb s w (starts_with nat_eq s w) refl).0 t))

-- nothing stands behind a word that is nowhere
pub after_word-none : (w s : List ℕ) → ((i : ℕ) → i ≤ length s → LacksTextAt w s i)
    → after_word w s ≡ None
after_word-none w [] lacks = refl
after_word-none w (c ∷ cs) lacks = rw (no_start w (c ∷ cs) (lacks 0 (omega arith)))
    (after_word-none w cs (λ i h. lacks (suc i) (omega arith)))

-- the whole text stands before it
pub before_word-none : (w s : List ℕ) → ((i : ℕ) → i ≤ length s → LacksTextAt w s i)
    → before_word w s ≡ s
before_word-none w [] lacks = refl
before_word-none w (c ∷ cs) lacks = rw (no_start w (c ∷ cs) (lacks 0 (omega arith)))
    (ap (λ (xs : List ℕ). c ∷ xs) (before_word-none w cs (λ i h. lacks (suc i) (omega arith))))

-- a word at its first place has a text behind it and one before it
parts : (w s : List ℕ) (i j : ℕ) → 0 < length w → ((k : ℕ) → k < i → LacksTextAt w s k)
    → j ≡ i + length w → drop i s ≡ w ++ drop j s
    → (after_word w s ≡ Some (drop j s)) × (before_word w s ≡ take i s)
parts w [] i j long lacks ends at =
    absurd (omega (arith, simp (length-append, length-drop) at (ap length at)))
parts w (c ∷ cs) zero j long lacks ends at =
    let end : j ≡ length w = omega arith in
    let starts : starts_with nat_eq (c ∷ cs) w ≡ true =
    (starts_is Decides-eqb (c ∷ cs) w (starts_with nat_eq (c ∷ cs) w) refl).1
    (drop j (c ∷ cs)) at in
    (rw (starts, end) refl, rw starts refl)
parts w (c ∷ cs) (suc i) j long lacks ends at =
    let end : j ≡ suc (i + length w) = omega arith in
    let rest =
    parts w cs i (i + length w) long (λ k h. lacks (suc k) (omega arith)) refl (rw end at at) in
    let other : starts_with nat_eq (c ∷ cs) w ≡ false =
    no_start w (c ∷ cs) (lacks 0 (omega arith)) in
    (rw (other, end) rest.0, rw other (ap (λ (xs : List ℕ). c ∷ xs) rest.1))

-- they are the parts that `split_once` gives
pub word_parts : (w s front back : List ℕ) → 0 < length w
    → SplitsAroundMatch (FindsText w) s front back
    → (after_word w s ≡ Some back) × (before_word w s ≡ front)
word_parts w s front back long h =
    let at = parts w s h.0 h.1 long h.2.0 h.2.1.ends h.2.1.split in
    (rw h.4 at.0, rw h.3 at.1)
