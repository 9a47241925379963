-- The encodings of texts, and the labels that name them (WHATWG Encoding, 'Names and labels').
use Rattle.std.specs.Prelude.{◌≡◌, ℕ, ◌-◌, Bool, true, ◌&&◌, List, [], ◌∷◌, map, codes, Option}
use Rattle.std.specs.Prelude.{Some, None, length, take, drop, nat_eq, nat_le, if◌then◌else◌, get_or}
use Rattle.std.specs.Prelude.{encode_utf8_all}
use Rattle.std.specs.List.{list_any, prefix_len, suffix_len}
use Rattle.std.specs.Char.{is_ascii_whitespace, to_ascii_lowercase}
use Rattle.std.specs.Str.{is_utf8, all_scalars, chars}
use Rattle.std.specs.Cmp.Lexicographic.{pointwise}
use Rattle.gettext.specs.declared.encoding.Encoding.{Encoding}
use Rattle.gettext.specs.declared.encoding.Encoding.TheVariants.{Utf8, Latin1, Windows1252}

-- The characters of the bytes 0x80 to 0x9F in windows-1252 (WHATWG Encoding, index windows-1252).
abbrev pub high_characters : List ℕ
high_characters =
    0x20AC ∷ 0x81 ∷ 0x201A ∷ 0x0192 ∷ 0x201E ∷ 0x2026 ∷ 0x2020 ∷ 0x2021
    ∷ 0x02C6 ∷ 0x2030 ∷ 0x0160 ∷ 0x2039 ∷ 0x0152 ∷ 0x8D ∷ 0x017D ∷ 0x8F
    ∷ 0x90 ∷ 0x2018 ∷ 0x2019 ∷ 0x201C ∷ 0x201D ∷ 0x2022 ∷ 0x2013 ∷ 0x2014
    ∷ 0x02DC ∷ 0x2122 ∷ 0x0161 ∷ 0x203A ∷ 0x0153 ∷ 0x9D ∷ 0x017E ∷ 0x0178
    ∷ []

-- the character of a byte in windows-1252
unfoldable pub windows_1252 : ℕ → ℕ
windows_1252 byte =
    if nat_le 0x80 byte && nat_le byte 0x9F
    then get_or high_characters (byte - 0x80) byte else byte

-- the bytes are the text in that encoding
abbrev pub IsText : Encoding → List ℕ → List ℕ → Type 0
IsText Utf8 bytes text = (all_scalars text ≡ true) × (encode_utf8_all text ≡ bytes)
IsText Latin1 bytes text = text ≡ bytes
IsText Windows1252 bytes text = text ≡ map windows_1252 bytes

-- whether the bytes are a text in that encoding
abbrev pub is_valid : Encoding → List ℕ → Bool
is_valid Utf8 bytes = is_utf8 bytes
is_valid Latin1 bytes = true
is_valid Windows1252 bytes = true

-- the text that the bytes are, where they are one
abbrev pub text_in : Encoding → List ℕ → List ℕ
text_in Utf8 bytes = chars bytes
text_in Latin1 bytes = bytes
text_in Windows1252 bytes = map windows_1252 bytes

-- the same text in UTF-8
abbrev pub utf8_in : Encoding → List ℕ → List ℕ
utf8_in Utf8 bytes = bytes
utf8_in Latin1 bytes = encode_utf8_all bytes
utf8_in Windows1252 bytes = encode_utf8_all (map windows_1252 bytes)

-- The labels of each encoding. ISO 8859-1 is read as windows-1252, so no label names Latin1.
abbrev pub utf_8_labels : List (List ℕ)
utf_8_labels = codes "utf-8" ∷ codes "utf8" ∷ codes "unicode-1-1-utf-8" ∷ []

-- the labels of windows-1252, those of ASCII and ISO 8859-1 among them
abbrev pub windows_1252_labels : List (List ℕ)
windows_1252_labels =
    codes "ascii" ∷ codes "us-ascii" ∷ codes "ansi_x3.4-1968" ∷ codes "cp819" ∷ codes "ibm819"
    ∷ codes "iso-8859-1" ∷ codes "iso8859-1" ∷ codes "iso88591" ∷ codes "iso_8859-1"
    ∷ codes "iso_8859-1:1987" ∷ codes "iso-ir-100" ∷ codes "csisolatin1" ∷ codes "l1"
    ∷ codes "latin1" ∷ codes "windows-1252" ∷ codes "cp1252" ∷ codes "x-cp1252"
    ∷ []

-- whether a label is one of some
abbrev pub is_among : List (List ℕ) → List ℕ → Bool
is_among labels label = list_any (pointwise nat_eq label) labels

-- the text without the ASCII white space at its start and at its end
abbrev pub without_end : List ℕ → List ℕ
without_end text = take (length text - suffix_len is_ascii_whitespace text) text

-- the text without the ASCII white space around it
unfoldable pub trimmed : List ℕ → List ℕ
trimmed label = without_end (drop (prefix_len is_ascii_whitespace label) label)

-- the encoding that has such a label, in lower case
abbrev pub encoding_named : List ℕ → Option Encoding
encoding_named name =
    if is_among utf_8_labels name then Some Utf8
    else if is_among windows_1252_labels name then Some Windows1252 else None

-- the encoding that a label names, without case and ASCII white space around it
unfoldable pub encoding_of : List ℕ → Option Encoding
encoding_of label = encoding_named (map to_ascii_lowercase (trimmed label))
