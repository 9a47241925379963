-- Comparisons one after another, and texts that are compared piece by piece.
use Rattle.std.specs.Prelude.{◌≡◌, ◌≢◌, ℕ, zero, suc, min, List, [], ◌∷◌, ◌++◌, length, take, drop}
use Rattle.std.proofs.Common.{refl, ap, sym, ◌∙◌, arith}
use Rattle.std.specs.Ordering.{nat_cmp, ordering_then}
use Rattle.std.specs.Cmp.Lexicographic.{slice_cmp}
use Rattle.std.specs.declared.cmp.Ordering.{Ordering}
use Rattle.std.specs.declared.cmp.Ordering.TheVariants.{Less, Equal, Greater}

pub then-assoc : (a b c : Ordering)
    → ordering_then (ordering_then a b) c ≡ ordering_then a (ordering_then b c)
then-assoc Less b c = refl
then-assoc Equal b c = refl
then-assoc Greater b c = refl

-- a comparison that is decided stays so
pub then-decided : (a b : Ordering) → a ≢ Equal → ordering_then a b ≡ a
then-decided Less b other = refl
then-decided Equal b other = absurd (other refl)
then-decided Greater b other = refl

-- a piece compares with as much of the other text, and then what follows with what is left
pub slice_cmp-cut : (n : ℕ) (piece rest more : List ℕ) → n ≡ min (length piece) (length rest)
    → slice_cmp nat_cmp (piece ++ more) rest
    ≡ ordering_then (slice_cmp nat_cmp piece (take n rest)) (slice_cmp nat_cmp more (drop n rest))
slice_cmp-cut zero [] rest more e = refl
slice_cmp-cut zero (x ∷ piece) [] more e = refl
slice_cmp-cut zero (x ∷ piece) (y ∷ rest) more e = absurd (omega arith)
slice_cmp-cut (suc n) [] rest more e = absurd (omega arith)
slice_cmp-cut (suc n) (x ∷ piece) [] more e = absurd (omega arith)
slice_cmp-cut (suc n) (x ∷ piece) (y ∷ rest) more e =
    ap (ordering_then (nat_cmp x y)) (slice_cmp-cut n piece rest more (omega arith))
    ∙ sym (then-assoc (nat_cmp x y) (slice_cmp nat_cmp piece (take n rest))
    (slice_cmp nat_cmp more (drop n rest)))
