-- A text in pieces: how it compares, and that each piece of an ASCII text is ASCII.
use Rattle.std.proofs.Common.{◌≡◌, ℕ, ◌+◌, ◌<◌, min, List, [], ◌∷◌, ◌++◌, Bor, Equal, Ordering, map}
use Rattle.std.proofs.Common.{length, get_or, take, drop, refl, sym, ap, subst, ◌∙◌}
use Rattle.std.proofs.Common.{take-append-drop}
use Rattle.std.specs.Cmp.Lexicographic.{slice_cmp}
use Rattle.std.specs.List.{concat}
use Rattle.std.specs.Ordering.{nat_cmp, ordering_then}
use Rattle.std.specs.Str.{IsAscii, chars}
use Rattle.std.proofs.lemmas.Str.{chars-IsAscii, IsAscii-drop, IsAscii-take}
use Rattle.writeable_core.specs.OrderingLaws.{slice_cmp-cut, then-decided}
use Rattle.std.proofs.lemmas.List.{append-nil, drop_at, drop_more, map-append, take_at, take_more}
use Rattle.std.proofs.lemmas.List.Folds.{concat-append}

-- what is left of a text in pieces
abbrev pub text_from : List (Bor (List ℕ)) → ℕ → List ℕ
text_from pieces i = concat (map (λ piece. piece.now) (drop i pieces))

module _ (pieces : List (Bor (List ℕ))) (i : ℕ) (d : Bor (List ℕ)) where
  -- the piece at i compares with the front of the rest, and what follows with what is behind
  cmp-piece : (n : ℕ) (rest piece front back : List ℕ) → i < length pieces
      → piece ≡ (get_or pieces i d).now
      → n ≡ min (length (get_or pieces i d).now) (length rest) → front ≡ take n rest
      → back ≡ drop n rest
      → slice_cmp nat_cmp (text_from pieces i) rest
      ≡ ordering_then (slice_cmp nat_cmp piece front)
      (slice_cmp nat_cmp (text_from pieces (i + 1)) back)
  cmp-piece n rest piece front back lt read is ahead behind =
      ap (λ l. slice_cmp nat_cmp (concat (map (λ p. p.now) l)) rest) (drop_more pieces i d lt)
      ∙ rw (read, ahead, behind)
      (slice_cmp-cut n (get_or pieces i d).now rest (text_from pieces (i + 1)) is)

  -- a piece that compares equal leaves the answer to what follows
  pub cmp-equal_piece : (n : ℕ) (rest piece front back : List ℕ) → i < length pieces
      → piece ≡ (get_or pieces i d).now
      → n ≡ min (length (get_or pieces i d).now) (length rest) → front ≡ take n rest
      → back ≡ drop n rest
      → Equal ≡ slice_cmp nat_cmp piece front
      → slice_cmp nat_cmp (text_from pieces i) rest
      ≡ slice_cmp nat_cmp (text_from pieces (i + 1)) back
  cmp-equal_piece n rest piece front back lt read is ahead behind equal =
      cmp-piece n rest piece front back lt read is ahead behind
      ∙ ap (λ o. ordering_then o (slice_cmp nat_cmp (text_from pieces (i + 1)) back)) (sym equal)

  -- a piece that does not compare equal is the answer
  pub cmp-other_piece : (n : ℕ) (rest piece front back : List ℕ) (o : Ordering) → i < length pieces
      → piece ≡ (get_or pieces i d).now → n ≡ min (length (get_or pieces i d).now) (length rest)
      → front ≡ take n rest → back ≡ drop n rest → o ≡ slice_cmp nat_cmp piece front
      → (o ≡ Equal → ⊥)
      → slice_cmp nat_cmp (text_from pieces i) rest ≡ o
  cmp-other_piece n rest piece front back o lt read is ahead behind decides other =
      cmp-piece n rest piece front back lt read is ahead behind
      ∙ ap (λ p. ordering_then p (slice_cmp nat_cmp (text_from pieces (i + 1)) back)) (sym decides)
      ∙ then-decided o (slice_cmp nat_cmp (text_from pieces (i + 1)) back) other

  -- one more piece
  pub concat-take-more : (piece : List ℕ) → i < length pieces → piece ≡ (get_or pieces i d).now
      → concat (map (λ p. p.now) (take i pieces)) ++ piece
      ≡ concat (map (λ p. p.now) (take (i + 1) pieces))
  concat-take-more piece lt read =
      sym (ap (λ l. concat (map (λ p. p.now) l)) (take_more pieces i d lt)
      ∙ ap concat (map-append (λ p. p.now) (take i pieces) (get_or pieces i d ∷ []))
      ∙ concat-append (map (λ p. p.now) (take i pieces)) ((get_or pieces i d).now ∷ [])
      ∙ ap (λ l. concat (map (λ p. p.now) (take i pieces)) ++ l)
      (append-nil (get_or pieces i d).now ∙ sym read))

-- each of two texts that are ASCII together is ASCII
IsAscii-behind : (a b : List ℕ) → IsAscii (a ++ b) → IsAscii b
IsAscii-behind a b h =
    subst IsAscii (drop_at a b (length a) refl) (IsAscii-drop (a ++ b) (length a) h)

-- and so is the one in front
IsAscii-front : (a b : List ℕ) → IsAscii (a ++ b) → IsAscii a
IsAscii-front a b h =
    subst IsAscii (take_at a b (length a) refl) (IsAscii-take (a ++ b) (length a) h)

-- the first pieces, and what is left
concat-halves : (pieces : List (Bor (List ℕ))) (n : ℕ)
    → concat (map (λ p. p.now) (take n pieces)) ++ text_from pieces n
    ≡ concat (map (λ p. p.now) pieces)
concat-halves pieces n =
    sym (concat-append (map (λ p. p.now) (take n pieces)) (map (λ p. p.now) (drop n pieces)))
    ∙ ap concat (sym (map-append (λ p. p.now) (take n pieces) (drop n pieces)))
    ∙ ap (λ l. concat (map (λ p. p.now) l)) (take-append-drop n pieces)

module _ (pieces : List (Bor (List ℕ))) (text : List ℕ)
    (is : concat (map (λ p. p.now) pieces) ≡ text) (ascii : IsAscii text) where
  -- the first pieces of an ASCII text
  IsAscii-first : (n : ℕ) → IsAscii (concat (map (λ p. p.now) (take n pieces)))
  IsAscii-first n =
      IsAscii-front (concat (map (λ p. p.now) (take n pieces))) (text_from pieces n)
      (rw (concat-halves pieces n) (rw is ascii))

  module _ (i : ℕ) (d : Bor (List ℕ)) (lt : i < length pieces) where
    -- each piece of an ASCII text is its own characters
    chars-piece : chars (get_or pieces i d).now ≡ (get_or pieces i d).now
    chars-piece =
        chars-IsAscii (get_or pieces i d).now
        (IsAscii-behind (concat (map (λ p. p.now) (take i pieces))) (get_or pieces i d).now
        (rw (concat-take-more pieces i d (get_or pieces i d).now lt refl) (IsAscii-first (i + 1))))

    -- the first pieces and the characters of one more
    pub pieces-more : concat (map (λ p. p.now) (take i pieces)) ++ chars (get_or pieces i d).now
        ≡ concat (map (λ p. p.now) (take (i + 1) pieces))
    pieces-more =
        ap (λ l. concat (map (λ p. p.now) (take i pieces)) ++ l) chars-piece
        ∙ concat-take-more pieces i d (get_or pieces i d).now lt refl

    -- the first pieces, the characters of one more, and what is left are the text
    pub pieces-parts : (concat (map (λ p. p.now) (take i pieces)) ++ chars (get_or pieces i d).now)
        ++ text_from pieces (i + 1)
        ≡ text
    pieces-parts = ap (λ l. l ++ text_from pieces (i + 1)) pieces-more
        ∙ concat-halves pieces (i + 1) ∙ is
