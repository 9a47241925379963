-- What stands where in the bytes of an MO file (GNU gettext manual, section 10.3). Numbers have
-- four bytes, in the order that the magic number names.
use Rattle.std.specs.Prelude.{ℕ, ◌+◌, ◌*◌, ◌≤◌, Bool, List, [], ◌∷◌, length, take, drop, ◌==◌}
use Rattle.std.specs.Prelude.{if◌then◌else◌}
use Rattle.std.specs.Int.{w32, from_le_bytes, from_be_bytes}
use Rattle.std.specs.List.{before_first, slice_split}
use Rattle.writeable_core.specs.Texts.{same_text}

-- what ends a text
abbrev pub is_nul : ℕ → Bool
is_nul byte = byte == 0

-- the magic number of a file whose numbers have the least significant byte first
abbrev pub little_endian : List ℕ
little_endian = 0xde ∷ 0x12 ∷ 0x04 ∷ 0x95 ∷ []

-- the magic number of a file whose numbers have the most significant byte first
abbrev pub big_endian : List ℕ
big_endian = 0x95 ∷ 0x04 ∷ 0x12 ∷ 0xde ∷ []

-- whether a file's numbers have the most significant byte first, as its magic number names it
abbrev pub is_big_endian : List ℕ → Bool
is_big_endian b = same_text (take 4 b) big_endian

-- the number whose four bytes begin at a place
unfoldable pub number : List ℕ → ℕ → ℕ
number b at =
    if is_big_endian b then from_be_bytes w32 (take 4 (drop at b))
    else from_le_bytes w32 (take 4 (drop at b))

-- how many strings there are, and where the table of the originals and that of the translations
-- start
abbrev pub count_of : List ℕ → ℕ
count_of b = number b 8

-- where the table of the originals starts
abbrev pub originals_of : List ℕ → ℕ
originals_of b = number b 12

-- where the table of the translations starts
abbrev pub translations_of : List ℕ → ℕ
translations_of b = number b 16

-- Row i of the table that starts at a place is the length of a text, and behind it the text's
-- offset.
abbrev pub row_place : ℕ → ℕ → ℕ
row_place table i = table + 8 * i

-- how long the text of row i is
abbrev pub text_length : List ℕ → ℕ → ℕ → ℕ
text_length b table i = number b (row_place table i)

-- where the text of row i stands
abbrev pub text_offset : List ℕ → ℕ → ℕ → ℕ
text_offset b table i = number b (row_place table i + 4)

-- the bytes of the text of row i, and the same with the closing byte
abbrev pub text_of : List ℕ → ℕ → ℕ → List ℕ
text_of b table i = take (text_length b table i) (drop (text_offset b table i) b)

-- the bytes of the text of row i, and the closing byte
abbrev pub closed_text_of : List ℕ → ℕ → ℕ → List ℕ
closed_text_of b table i = take (text_length b table i + 1) (drop (text_offset b table i) b)

-- the original of row i with its closing byte, and the translation without
abbrev pub original_of : List ℕ → ℕ → List ℕ
original_of b i = closed_text_of b (originals_of b) i

-- the translation of row i without its closing byte
abbrev pub translation_of : List ℕ → ℕ → List ℕ
translation_of b i = text_of b (translations_of b) i

-- what stands before the first NUL of an original; behind it stands the plural id
unfoldable pub head_of : List ℕ → List ℕ
head_of original = before_first is_nul original

-- the forms of a translation stand between its NULs
unfoldable pub pieces_of : List ℕ → List (List ℕ)
pieces_of translation = slice_split is_nul translation

-- row i of a table, and its text with the closing byte, lie inside the file
pub record LiesInside (b : List ℕ) (table i : ℕ) : Type 0 where
  pub row : row_place table i + 8 ≤ length b
  pub text : text_offset b table i + text_length b table i + 1 ≤ length b
