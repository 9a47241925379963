-- The places of the pieces of a text.
use Rattle.std.proofs.Common.{◌≡◌, ℕ, suc, ◌+◌, ◌-◌, ◌≤◌, ◌<◌, not, List, [], ◌∷◌, length, take}
use Rattle.std.proofs.Common.{drop, Some, None, refl, sym, ap, ◌∙◌, arith, inl, inr}
use Rattle.std.specs.List.{slice_get, slice_split, position_or_len, after_first}
use Rattle.std.proofs.lemmas.Bool.{cases_lt}
use Rattle.std.proofs.lemmas.List.{length-take, length-drop, drop-drop, take_all}
use Rattle.std.proofs.lemmas.List.Folds.{length-prefix_len}
use Rattle.std.proofs.lemmas.List.Splits.{slice_split_first, slice_split_none}
use Rattle.std.proofs.lemmas.List.Sums.{fails_before_first}
use Rattle.gettext.specs.Layout.{is_nul, pieces_of}

-- the pieces from a number on are those of the text from a place on
pub record IsAtPiece (text : List ℕ) (number start : ℕ) : Type 0 where
  pub inside : start ≤ length text
  pub same : (k : ℕ)
      → slice_get (pieces_of text) (number + k) ≡ slice_get (pieces_of (drop start text)) k

-- piece 0 begins at the start
pub first_piece : (text : List ℕ) → IsAtPiece text 0 0
first_piece text = record {
  inside = omega arith;
  same = λ k. let e : 0 + k ≡ k = omega arith in rw e refl;
}

-- a text with no NUL is one piece
one_piece : (xs : List ℕ) → position_or_len is_nul xs ≡ length xs → slice_split is_nul xs ≡ xs ∷ []
one_piece xs e =
    slice_split_none is_nul xs (λ k d lt. fails_before_first is_nul xs k d (omega arith))

module _ (text : List ℕ) (number start len : ℕ) (h : IsAtPiece text number start)
    (place : len ≡ position_or_len is_nul (drop start text)) where
  -- the next piece begins behind the next NUL
  pub next_piece : len < length (drop start text) → IsAtPiece text (number + 1) (start + (len + 1))
  unfolding pieces_of
  next_piece lt =
      let rest : List ℕ = drop start text in
      let split = slice_split_first is_nul rest 0 (rw (← place) lt) in
      record {
        inside = omega (arith, length-drop start text);
        same = λ k.
            let n : number + 1 + k ≡ number + suc k = omega arith in
            let behind : after_first is_nul rest ≡ drop (start + (len + 1)) text =
            rw (← place) (drop-drop (len + 1) start text) in
            rw n (h.same (suc k) ∙ ap (λ (ps : List (List ℕ)). slice_get ps (suc k)) split
            ∙ ap (λ (t : List ℕ). slice_get (slice_split is_nul t) k) behind);
      }

  -- without a NUL there is no further piece
  pub no_more : (wanted : ℕ) → number < wanted → len ≡ length (drop start text)
      → slice_get (pieces_of text) wanted ≡ None
  unfolding pieces_of
  no_more wanted lt all =
      let n : wanted ≡ number + suc (wanted - (number + 1)) = omega arith in
      rw n (h.same (suc (wanted - (number + 1)))
      ∙ ap (λ (ps : List (List ℕ)). slice_get ps (suc (wanted - (number + 1))))
      (one_piece (drop start text) (sym place ∙ all)))

  -- a piece ends before the next NUL, or at the end
  pub this_piece : slice_get (pieces_of text) number ≡ Some (take len (drop start text))
  unfolding pieces_of
  this_piece =
      let n : number ≡ number + 0 = omega arith in
      let short : len ≤ length (drop start text) =
      omega (
        arith,
        place,
        length-prefix_len (λ x. not (is_nul x)) (drop start text),
        length-take
            (position_or_len is_nul (drop start text)) (drop start text),
      ) in
      rw n (h.same 0 ∙ first short) where
        first : len ≤ length (drop start text)
            → slice_get (slice_split is_nul (drop start text)) 0 ≡ Some (take len (drop start text))
        first short = elim (cases_lt len (length (drop start text))) [
          | inl lt ↦ ap (λ (ps : List (List ℕ)). slice_get ps 0)
              (slice_split_first is_nul (drop start text) 0 (rw (← place) lt))
              ∙ ap (λ (k : ℕ). Some (take k (drop start text))) (sym place)
          | inr le ↦ ap (λ (ps : List (List ℕ)). slice_get ps 0)
              (one_piece (drop start text) (sym place ∙ omega arith))
              ∙ ap (λ (t : List ℕ). Some t) (sym (take_all len (drop start text) le))
        ]
