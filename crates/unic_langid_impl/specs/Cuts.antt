-- How a reader holds the pieces that are left: the first one, and the bytes behind it.
use Rattle.std.specs.Prelude.{ℕ, List, [], ◌∷◌, Option, None, Some}
use Rattle.unic_langid_impl.specs.Pieces.{pieces_of}

-- the pieces of the bytes behind, where there are any
abbrev pub pieces_behind : Option (List ℕ) → List (List ℕ)
pieces_behind None = []
pieces_behind (Some bytes) = pieces_of bytes

abbrev pub cut_pieces : Option (List ℕ) → Option (List ℕ) → List (List ℕ)
cut_pieces None behind = []
cut_pieces (Some first) behind = first ∷ pieces_behind behind
