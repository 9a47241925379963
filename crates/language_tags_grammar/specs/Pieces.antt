-- Texts in pieces. A text is its bytes in UTF-8; of a tag's text, which is ASCII, these are its
-- characters.
use Rattle.std.specs.Prelude.{ℕ, Bool, ◌==◌, List, [], ◌∷◌, ◌++◌, map, Option, Some, None}
use Rattle.std.specs.Char.{to_ascii_lowercase, to_ascii_uppercase}
use Rattle.std.specs.List.{slice_split, join_with_byte}
use Rattle.std.specs.Str.{byte}

abbrev pub is_dash : ℕ → Bool
is_dash c = c == byte "-"

-- a text, cut at each `-`
abbrev pub pieces : List ℕ → List (List ℕ)
pieces text = slice_split is_dash text

-- pieces with a `-` between each two, and with one before each
abbrev pub joined : List (List ℕ) → List ℕ
joined ps = join_with_byte (byte "-") ps

abbrev pub dashed : List (List ℕ) → List ℕ
dashed [] = []
dashed (p ∷ ps) = byte "-" ∷ (p ++ dashed ps)

-- the text of a part, which is there where it has a piece
abbrev pub part_text : List (List ℕ) → Option (List ℕ)
part_text [] = None
part_text (p ∷ ps) = Some (joined (p ∷ ps))

-- case isn't significant (RFC 5646, section 2.1.1): a text in lower case, in upper case, and with a
-- first capital
abbrev pub lowercase : List ℕ → List ℕ
lowercase text = map to_ascii_lowercase text

abbrev pub uppercase : List ℕ → List ℕ
uppercase text = map to_ascii_uppercase text

abbrev pub titlecase : List ℕ → List ℕ
titlecase [] = []
titlecase (c ∷ text) = to_ascii_uppercase c ∷ lowercase text

-- the pieces of a text that may be missing
abbrev pub pieces_of : Option (List ℕ) → List (List ℕ)
pieces_of None = []
pieces_of (Some text) = pieces text
