-- The canonical form of a tag (RFC 5646, section 4.5).
use Rattle.std.specs.Prelude.{◌≡◌, ℕ, ◌≤◌, Bool, true, false, List, [], ◌∷◌, ◌++◌, Option, Some}
use Rattle.std.specs.Prelude.{None, if◌then◌else◌, is_some, length, map, unwrap_or}
use Rattle.std.specs.Cmp.Lexicographic.{slice_cmp}
use Rattle.std.specs.List.{list_any}
use Rattle.std.specs.List.Sorted.{IsPermutation, IsSortedBy}
use Rattle.std.specs.Option.{option_map}
use Rattle.std.specs.Ordering.{is_lt, nat_cmp, ordering_then}
use Rattle.std.specs.Str.{bytes_eq}
use Rattle.language_tags_grammar.specs.Grandfathered.{is_grandfathered}
use Rattle.language_tags_grammar.specs.Pieces.{joined}
use Rattle.language_tags_grammar.specs.Tag.{Extension, Parts, Tag, Whole, Plain, at_most_one}
use Rattle.language_tags_grammar.specs.Tag.{extensions_of, extlangs_of, language_of, print}
use Rattle.language_tags_grammar.specs.Tag.{private_of, region_of, script_of, variants_of}
use Rattle.language_tags_grammar.specs.TagOf.{IsTagOf}
use Rattle.language_tags_registry.specs.Registry.{Entry, Tables, value_of}
use Rattle.language_tags.specs.PrivateUse.{is_private_use}

-- what a subtag is replaced by: its preferred value, or itself where it has none
abbrev pub replaced : List Entry → List ℕ → List ℕ
replaced table subtag = unwrap_or (value_of table subtag) subtag

-- the preferred value of an extlang
abbrev pub extlang_value : Tables → List (List ℕ) → Option (List ℕ)
extlang_value R [] = None
extlang_value R (extlang ∷ more) = value_of R.extlangs_preferred extlang

-- a script is dropped where it is the suppressed one
abbrev pub unless_suppressed : Option (List ℕ) → Option (List ℕ) → Option (List ℕ)
unless_suppressed suppressed None = None
unless_suppressed None (Some script) = Some script
unless_suppressed (Some suppressed) (Some script) =
    if bytes_eq script suppressed then None else Some script

-- the pieces that don't stand among those written already
abbrev pub not_written : List (List ℕ) → List (List ℕ) → List (List ℕ)
not_written written [] = []
not_written written (x ∷ xs) =
    if list_any (bytes_eq x) written then not_written written xs else x
    ∷ not_written (written ++ x ∷ []) xs

-- extensions stand by their singleton, then by their content
abbrev pub is_before : Extension → Extension → Bool
is_before a b =
    is_lt
    (ordering_then (nat_cmp a.singleton b.singleton)
    (slice_cmp nat_cmp (joined a.content) (joined b.content)))

-- the parts that a tag's parts go to, by the steps in their order, one a field
pub record AreCanonical (R : Tables) (g : Tag) (q : Parts) : Type 0 where
  pub language : q.language
      ≡ unwrap_or (extlang_value R (extlangs_of g)) (replaced R.languages_preferred (language_of g))
  pub extlangs : q.extlangs
      ≡ (if is_some (extlang_value R (extlangs_of g)) then [] else extlangs_of g)
  pub script : q.script
      ≡ unless_suppressed (value_of R.languages_suppress_script q.language)
      (option_map (replaced R.scripts_preferred) (script_of g))
  pub region : q.region ≡ option_map (replaced R.regions_preferred) (region_of g)
  pub variants : q.variants
      ≡ not_written (q.language ∷ (q.extlangs ++ (at_most_one q.script ++ at_most_one q.region)))
      (map (replaced R.variants_preferred) (variants_of g))
  pub extensions : IsPermutation (extensions_of g) q.extensions
  pub order : IsSortedBy is_before q.extensions
  pub private : q.private ≡ private_of g

-- a tag that stays, goes to a text's tag where there is a text, or else to another
abbrev pub GoesTo : Option (List ℕ) → (Option Tag → Type 0) → Option Tag → Type 0
GoesTo None Otherwise result = Otherwise result
GoesTo (Some text) Otherwise None = ⊥
GoesTo (Some text) Otherwise (Some h) = IsTagOf text h

abbrev pub Stays : Tag → Option Tag → Type 0
Stays g result = result ≡ Some g

-- parts go to canonical parts, where there is at most one extlang
abbrev pub PartsGoTo : Tables → Tag → Option Tag → Type 0
PartsGoTo R g None = 2 ≤ length (extlangs_of g)
PartsGoTo R g (Some (Whole text)) = ⊥
PartsGoTo R g (Some (Plain q)) = (length (extlangs_of g) ≤ 1) × AreCanonical R g q

abbrev pub Rewrites : Tables → Tag → Option Tag → Type 0
Rewrites R (Whole text) result = Stays (Whole text) result
Rewrites R (Plain p) result = PartsGoTo R (Plain p) result

-- by whether the tag is for private use, and else by whether its text is grandfathered
abbrev pub IsCanonIn : Bool → Bool → Tables → Tag → Option Tag → Type 0
IsCanonIn true whole R g result = Stays g result
IsCanonIn false true R g result =
    GoesTo (value_of R.grandfathereds_preferred (print g)) (Stays g) result
IsCanonIn false false R g result =
    GoesTo (value_of R.redundants_preferred (print g)) (Rewrites R g) result

-- The canonical form of a tag, or none where two extlangs or more refuse it.
abbrev pub IsCanonOf : Tables → Tag → Option Tag → Type 0
IsCanonOf R g result = IsCanonIn (is_private_use g) (is_grandfathered (print g)) R g result
