-- The subtags of a Unicode language identifier (UTS 35, Unicode locale identifiers) in canonical
-- case, and how each is read in any case.
use Rattle.std.specs.Prelude.{◌≡◌, ℕ, Bool, true, ◌&&◌, ◌||◌, ◌⊎◌, not, if◌then◌else◌, List, length}
use Rattle.std.specs.Prelude.{map, Option, Some, None, IfSome, unwrap_or, IsTrue, codes}
use Rattle.std.specs.Char.{is_ascii_lowercase, to_ascii_lowercase, to_ascii_uppercase}
use Rattle.std.specs.Int.{Width, from_le_bytes, is_in_range}
use Rattle.std.specs.List.{list_all}
use Rattle.std.specs.Str.{bytes_eq}

abbrev pub lowercase : List ℕ → List ℕ
lowercase text = map to_ascii_lowercase text

abbrev pub uppercase : List ℕ → List ℕ
uppercase text = map to_ascii_uppercase text

-- unicode_language_subtag: two, three or five to eight letters
abbrev pub is_language : List ℕ → Bool
is_language text =
    (is_in_range 2 3 (length text) || is_in_range 5 8 (length text))
    && list_all is_ascii_lowercase text

abbrev pub IsLanguage : List ℕ → Type 0
IsLanguage text = IsTrue (is_language text)

-- `und`, the text of no language
abbrev pub und : List ℕ
und = codes "und"

abbrev pub is_und : List ℕ → Bool
is_und text = bytes_eq text und

-- the language that a text in lower case names, and the text of a language
abbrev pub language_of : List ℕ → Option (List ℕ)
language_of text = if is_und text then None else Some text

abbrev pub language_text : Option (List ℕ) → List ℕ
language_text language = unwrap_or language und

-- a language that is there has its shape, and isn't `und`
abbrev pub IsLanguageOrNone : Option (List ℕ) → Type 0
IsLanguageOrNone language = IfSome language (λ text. IsTrue (is_language text && not (is_und text)))

-- the little-endian number of a text's bytes, with zeros behind them
abbrev pub raw : Width → List ℕ → ℕ
raw width text = from_le_bytes width text

-- equal, or missing on a side that is a range
abbrev pub Fits : {X : Type 0} → Option X → Option X → Bool → Bool → Type 0
Fits one other one_ranges other_ranges =
    (one ≡ other)
    ⊎ (((one_ranges ≡ true) × (one ≡ None)) ⊎ ((other_ranges ≡ true) × (other ≡ None)))
