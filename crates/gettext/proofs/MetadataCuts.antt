-- A text that is cut at a character, and the pieces of a text as a loop meets them.
use Rattle.std.proofs.Common.{◌≡◌, ℕ, suc, ◌+◌, ◌<◌, Bool, true, false, not, cond, List, [], ◌∷◌}
use Rattle.std.proofs.Common.{◌++◌, length, take, drop, get_or, map, Option, Some, None, refl, sym}
use Rattle.std.proofs.Common.{arith}
use Rattle.std.specs.Option.{option_map}
use Rattle.std.specs.List.{position_or_len, before_first, after_first}
use Rattle.std.specs.Str.{trim}
use Rattle.std.proofs.Math.Seq.{drop-cons}
use Rattle.std.proofs.lemmas.List.{take-append-drop}
use Rattle.gettext.specs.Metadata.{cut_at, field_of}

-- a text without such a character isn't cut
cut_at-none : (p : ℕ → Bool) (s : List ℕ) → position_or_len p s ≡ length s → cut_at p s ≡ None
cut_at-none p [] h = refl
cut_at-none p (c ∷ cs) h = by_test (p c) h (cut_at-none p cs) where
  by_test : (t : Bool) → cond (not t) (1 + position_or_len p cs) 0 ≡ length (c ∷ cs)
      → (position_or_len p cs ≡ length cs → cut_at p cs ≡ None)
      → cond {A = Option (List ℕ × List ℕ)} t (Some ([], cs))
      (option_map (λ x. (c ∷ x.0, x.1)) (cut_at p cs)) ≡ None
  by_test true h rest = absurd (omega arith)
  by_test false h rest = rw (rest (omega arith)) refl

-- with one it is cut at the first
cut_at-some : (p : ℕ → Bool) (s : List ℕ) → position_or_len p s < length s
    → cut_at p s ≡ Some (before_first p s, after_first p s)
cut_at-some p [] h = absurd (omega arith)
cut_at-some p (c ∷ cs) h = by_test (p c) h (cut_at-some p cs) where
  by_test : (t : Bool) → cond (not t) (1 + position_or_len p cs) 0 < length (c ∷ cs)
      → (position_or_len p cs < length cs
      → cut_at p cs ≡ Some (before_first p cs, after_first p cs))
      → cond {A = Option (List ℕ × List ℕ)} t (Some ([], cs))
      (option_map (λ x. (c ∷ x.0, x.1)) (cut_at p cs))
      ≡ Some (
        take (cond (not t) (1 + position_or_len p cs) 0) (c ∷ cs),
        drop
            (cond (not t) (1 + position_or_len p cs) 0 + 1) (c ∷ cs),
      )
  by_test true h rest = refl
  by_test false h rest =
      let one : 1 + position_or_len p cs ≡ suc (position_or_len p cs) = omega arith in
      let two : suc (position_or_len p cs) + 1 ≡ suc (position_or_len p cs + 1) = omega arith in
      rw (rest (omega arith), one, two) refl

-- a text without the sign is no field
pub field_of-none : (p : ℕ → Bool) (s : List ℕ) → position_or_len p s ≡ length s
    → field_of p s ≡ None
field_of-none p s h = rw (cut_at-none p s h) refl

-- with one it is a name and a value
pub field_of-some : (p : ℕ → Bool) (s front back name value : List ℕ)
    → position_or_len p s < length s → front ≡ before_first p s → back ≡ after_first p s
    → name ≡ trim front → value ≡ trim back
    → field_of p s ≡ Some (record { name = name; value = value })
field_of-some p s front back name value h f b n v = rw (cut_at-some p s h, n, v, f, b) refl

-- the pieces so far, the one in hand, and those to come
pub pieces_at : {A B : Type 0} (v : A → B) (all : List B) (xs : List A) (x : A)
    → map v xs ≡ take (length xs) all
    → (length xs < length all) × (v x ≡ get_or all (length xs) (v x))
    → (rest : List B) × (all ≡ map v xs ++ v x ∷ rest)
pieces_at v all xs x front turn =
    let inside : length xs < length all = turn.0 in
    let here : drop (length xs) all ≡ v x ∷ drop (suc (length xs)) all =
    rw (drop-cons all (length xs) (v x), ← turn.1) refl in
    (drop (suc (length xs)) all, rw (front, ← here) (sym (take-append-drop (length xs) all)))
