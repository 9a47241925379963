-- The pieces of a text, cut at `-` and `_` (UTS 35, Unicode locale identifiers: either separates
-- subtags).
use Rattle.std.specs.Prelude.{ℕ, Bool, ◌||◌, ◌==◌, List, [], ◌∷◌, Option, None, Some}
use Rattle.std.specs.List.{slice_split}
use Rattle.std.specs.Str.{byte}

abbrev pub is_separator : ℕ → Bool
is_separator c = c == byte "-" || c == byte "_"

-- the pieces; no byte is one empty piece
abbrev pub pieces_of : List ℕ → List (List ℕ)
pieces_of bytes = slice_split is_separator bytes

-- the first piece, if there is one
abbrev pub first_piece : List (List ℕ) → Option (List ℕ)
first_piece [] = None
first_piece (piece ∷ pieces) = Some piece
