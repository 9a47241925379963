-- The shapes of a tag's parts (RFC 5646, section 2.1), in the case that section 2.1.1 recommends:
-- lower case, but for the script, whose first letter is a capital, and the region, in upper case.
-- Those of a script, a region and a variant are of `tinystr`.
use Rattle.std.specs.Prelude.{◌≡◌, ℕ, ◌≤◌, Bool, ◌&&◌, ◌==◌, not, ◌⊎◌, List, [], length, IsTrue}
use Rattle.std.specs.Prelude.{IfSome}
use Rattle.std.specs.Char.{is_ascii_lowercase}
use Rattle.std.specs.Int.{is_in_range}
use Rattle.std.specs.List.{AllByRecursion, list_all}
use Rattle.std.specs.Str.{byte}
use Rattle.language_tags_grammar.specs.Tag.{Extension, Parts}
pub use Rattle.tinystr.specs.Shapes.{is_region, is_script, is_small, is_variant}

-- language: two to eight letters
abbrev pub is_language : List ℕ → Bool
is_language text = is_in_range 2 8 (length text) && list_all is_ascii_lowercase text

-- extlang: three letters
abbrev pub is_extlang : List ℕ → Bool
is_extlang text = length text == 3 && list_all is_ascii_lowercase text

-- singleton: a letter or digit other than x
abbrev pub is_singleton : ℕ → Bool
is_singleton c = is_small c && not (c == byte "x")

-- what stands behind a singleton: two to eight letters or digits
abbrev pub is_content : List ℕ → Bool
is_content text = is_in_range 2 8 (length text) && list_all is_small text

-- what stands behind the x of private use: one to eight letters or digits
abbrev pub is_private : List ℕ → Bool
is_private text = is_in_range 1 8 (length text) && list_all is_small text

-- an extension has one piece or more behind its singleton
pub record IsExtension (e : Extension) : Type 0 where
  pub singleton : IsTrue (is_singleton e.singleton)
  pub some : 1 ≤ length e.content
  pub content : IsTrue (list_all is_content e.content)

-- a langtag's parts: at most three extlangs, and none behind a language of four letters or more
pub record AreParts (p : Parts) : Type 0 where
  pub language : IsTrue (is_language p.language)
  pub extlangs : IsTrue (list_all is_extlang p.extlangs)
  pub few : length p.extlangs ≤ 3
  pub short : (p.extlangs ≡ []) ⊎ (length p.language ≤ 3)
  pub script : IfSome p.script (λ s. IsTrue (is_script s))
  pub region : IfSome p.region (λ r. IsTrue (is_region r))
  pub variants : IsTrue (list_all is_variant p.variants)
  pub extensions : AllByRecursion IsExtension p.extensions
  pub private : IsTrue (list_all is_private p.private)
