-- The shapes of subtags in canonical case: UTS 35, Unicode locale identifiers, and RFC 5646,
-- section 2.1; on case, RFC 5646, section 2.1.1. Those of a script, a region and a
-- variant are of `tinystr`.
use Rattle.std.specs.Prelude.{ℕ, Bool, ◌&&◌, List, length, IsTrue}
use Rattle.std.specs.Char.{is_ascii_lowercase}
use Rattle.std.specs.Int.{is_in_range}
use Rattle.std.specs.List.{list_all}
pub use Rattle.tinystr.specs.Shapes.{is_script, IsScript, is_region, IsRegion, is_small, is_variant}
pub use Rattle.tinystr.specs.Shapes.{IsVariant}

-- unicode_language_subtag, of two or three letters
abbrev pub is_language : List ℕ → Bool
is_language text = is_in_range 2 3 (length text) && list_all is_ascii_lowercase text

-- as a fact
abbrev pub IsLanguage : List ℕ → Type 0
IsLanguage text = IsTrue (is_language text)

-- two to eight letters or digits, as the value of the key `sd` is (UTS 35, subdivision codes)
abbrev pub is_subtag : List ℕ → Bool
is_subtag text = is_in_range 2 8 (length text) && list_all is_small text

-- as a fact
abbrev pub IsSubtag : List ℕ → Type 0
IsSubtag text = IsTrue (is_subtag text)
