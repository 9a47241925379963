-- The shapes of subtags in canonical case: UTS 35, Unicode locale identifiers, and RFC 5646,
-- section 2.1; on case, RFC 5646, section 2.1.1. A text in any case has a shape where it has it in
-- canonical case.
use Rattle.std.specs.Prelude.{ℕ, Bool, ◌&&◌, ◌||◌, ◌==◌, List, length, drop, slice_index, IsTrue}
use Rattle.std.specs.Char.{is_ascii_digit, is_ascii_lowercase, is_ascii_uppercase}
use Rattle.std.specs.Int.{is_in_range}
use Rattle.std.specs.List.{list_all}

-- unicode_script_subtag: four letters, of which the first is a capital
abbrev pub is_script : List ℕ → Bool
is_script text =
    length text == 4
    && (is_ascii_uppercase (slice_index text 0) && list_all is_ascii_lowercase (drop 1 text))

abbrev pub IsScript : List ℕ → Type 0
IsScript text = IsTrue (is_script text)

-- unicode_region_subtag: two capitals or three digits
abbrev pub is_region : List ℕ → Bool
is_region text =
    (length text == 2 && list_all is_ascii_uppercase text)
    || (length text == 3 && list_all is_ascii_digit text)

abbrev pub IsRegion : List ℕ → Type 0
IsRegion text = IsTrue (is_region text)

-- alphanum in lower case
abbrev pub is_small : ℕ → Bool
is_small c = is_ascii_lowercase c || is_ascii_digit c

-- unicode_variant_subtag: five to eight letters or digits, or four of which the first is a digit
abbrev pub is_variant : List ℕ → Bool
is_variant text =
    (is_in_range 5 8 (length text) || (length text == 4 && is_ascii_digit (slice_index text 0)))
    && list_all is_small text

abbrev pub IsVariant : List ℕ → Type 0
IsVariant text = IsTrue (is_variant text)
