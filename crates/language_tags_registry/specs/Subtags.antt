-- The shapes of a registry's subtags in canonical case (RFC 5646, sections 2.1 and 2.1.1). A
-- script and a region have the shapes of `tinystr`.
use Rattle.std.specs.Prelude.{ℕ, Bool, ◌&&◌, List, length, IsTrue}
use Rattle.std.specs.Char.{is_ascii_lowercase}
use Rattle.std.specs.Int.{is_in_range}
use Rattle.std.specs.List.{list_all}

-- two or three small letters
abbrev pub is_language : List ℕ → Bool
is_language text = is_in_range 2 3 (length text) && list_all is_ascii_lowercase text

abbrev pub IsLanguage : List ℕ → Type 0
IsLanguage text = IsTrue (is_language text)
