-- What a reader takes of the pieces that are left: one piece of a shape, or those in front that are
-- variants.
use Rattle.std.specs.Prelude.{◌≡◌, ℕ, Bool, false, if◌then◌else◌, List, [], ◌∷◌, ◌++◌, map, Option}
use Rattle.std.specs.Prelude.{None, Some, IfSome}
use Rattle.std.specs.List.{All}
use Rattle.tinystr.specs.Shapes.{IsVariant, is_variant}
use Rattle.unic_langid_impl.specs.Pieces.{first_piece}
use Rattle.unic_langid_impl.specs.Subtags.{lowercase}

-- the first piece, where it has the shape in its case, and what then is left
module _ (is : List ℕ → Bool) (case : List ℕ → List ℕ) where
  abbrev pub taken : List (List ℕ) → Option (List ℕ)
  taken [] = None
  taken (piece ∷ pieces) = if is (case piece) then Some piece else None

  abbrev pub left_behind : List (List ℕ) → List (List ℕ)
  left_behind [] = []
  left_behind (piece ∷ pieces) = if is (case piece) then pieces else (piece ∷ pieces)

-- some pieces in front are these variants
pub record TakesVariants (pieces variants left : List (List ℕ)) : Type 0 where
  pub front : List (List ℕ)
  pub parts : front ++ left ≡ pieces
  pub shapes : All IsVariant (map lowercase front)
  pub are : variants ≡ map lowercase front

-- and the next piece is none
abbrev pub BeginsWithNoVariant : List (List ℕ) → Type 0
BeginsWithNoVariant left = IfSome (first_piece left) (λ piece. is_variant (lowercase piece) ≡ false)
