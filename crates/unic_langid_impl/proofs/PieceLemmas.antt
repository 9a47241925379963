-- How a text falls into pieces.
use Rattle.std.proofs.Common.{◌≡◌, ℕ, ◌+◌, ◌-◌, ◌<◌, ◌≤◌, Bool, true, false, cond, nat_lt, List, []}
use Rattle.std.proofs.Common.{◌∷◌, Some, None, length, take, drop, refl, sym, ap, ◌∙◌, arith}
use Rattle.std.specs.List.{position, position_or_len}
use Rattle.std.proofs.lemmas.Bool.Decides.{nat_tests}
use Rattle.std.proofs.lemmas.List.{length-drop, take_all}
use Rattle.std.proofs.lemmas.List.Splits.{slice_split_first, slice_split_none}
use Rattle.std.proofs.lemmas.List.Sums.{fails_before_first}
use Rattle.unic_langid_impl.specs.Pieces.{is_separator, pieces_of}

-- what a search found, and that it found nothing
pub found_at : (b : Bool) (k n : ℕ) → Some n ≡ cond b (Some k) None → (b ≡ true) × (n ≡ k)
found_at true k n e = (refl, cc)
found_at false k n e = cc

pub found_none : (b : Bool) (k : ℕ) → None ≡ cond b (Some k) None → b ≡ false
found_none true k e = cc
found_none false k e = refl

module _ (bytes : List ℕ) where
  abbrev end_of : ℕ
  end_of = position_or_len is_separator bytes

  -- the first piece ends at the first separator
  pub pieces-found : (n : ℕ) → Some n ≡ position is_separator bytes
      → take n bytes ∷ pieces_of (take (length bytes - (n + 1)) (drop (n + 1) bytes))
      ≡ pieces_of bytes
  pieces-found n e =
      let at = found_at (nat_lt end_of (length bytes)) end_of n e in
      let within : end_of < length bytes = grind (arith, nat_tests, at.0) in
      let whole =
      take_all (length bytes - (n + 1)) (drop (n + 1) bytes)
      (omega (arith, length-drop (n + 1) bytes)) in
      ap (λ rest. take n bytes ∷ pieces_of rest) whole
      ∙ ap (λ k. take k bytes ∷ pieces_of (drop (k + 1) bytes)) at.1
      ∙ sym (slice_split_first is_separator bytes 0 within)

  -- a text without separator is one piece
  pub pieces-none : None ≡ position is_separator bytes → bytes ∷ [] ≡ pieces_of bytes
  pieces-none e =
      let past = found_none (nat_lt end_of (length bytes)) end_of e in
      let within : length bytes ≤ end_of = grind (arith, nat_tests, past) in
      sym
      (slice_split_none is_separator bytes
      (λ k d lt. fails_before_first is_separator bytes k d (omega arith)))
