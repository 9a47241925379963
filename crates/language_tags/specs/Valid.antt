-- Which rule a tag breaks first (RFC 5646, section 2.2.9).
use Rattle.std.specs.Prelude.{ℕ, Bool, true, false, ◌&&◌, ◌||◌, ◌==◌, not, List, [], ◌∷◌, ◌++◌}
use Rattle.std.specs.Prelude.{Option, Some, None, codes, if◌then◌else◌, is_some, length, map}
use Rattle.std.specs.Prelude.{nat_eq, nat_lt}
use Rattle.std.specs.Cmp.Lexicographic.{slice_cmp}
use Rattle.std.specs.List.{flat_map, list_any, slice_split, starts_with}
use Rattle.std.specs.Ordering.{is_le, nat_cmp}
use Rattle.std.specs.Str.{byte, bytes_eq}
use Rattle.writeable_core.specs.FirstFailure.{Condition, first_failure}
use Rattle.language_tags_grammar.specs.Grandfathered.{is_grandfathered}
use Rattle.language_tags_grammar.specs.Tag.{Tag, at_most_one, extensions_of, extlangs_of}
use Rattle.language_tags_grammar.specs.Tag.{language_of, print, region_of, script_of, variants_of}
use Rattle.language_tags_registry.specs.Registry.{Entry, Tables, value_of}
use Rattle.language_tags.specs.PrivateUse.{is_private_use}
use Rattle.language_tags.specs.declared.error.ValidationError.{ValidationError}
use Rattle.language_tags.specs.declared.error.ValidationError.TheVariants.{DuplicateVariant}
use Rattle.language_tags.specs.declared.error.ValidationError.TheVariants.{DuplicateExtension}
use Rattle.language_tags.specs.declared.error.ValidationError.TheVariants.{MultipleExtendedLanguageSubtags}
use Rattle.language_tags.specs.declared.error.ValidationError.TheVariants.{PrimaryLanguageNotInRegistry}
use Rattle.language_tags.specs.declared.error.ValidationError.TheVariants.{ExtendedLanguageNotInRegistry}
use Rattle.language_tags.specs.declared.error.ValidationError.TheVariants.{ScriptNotInRegistry}
use Rattle.language_tags.specs.declared.error.ValidationError.TheVariants.{RegionNotInRegistry}
use Rattle.language_tags.specs.declared.error.ValidationError.TheVariants.{VariantNotInRegistry}
use Rattle.language_tags.specs.declared.error.ValidationError.TheVariants.{WrongExtendedLanguagePrefix}
use Rattle.language_tags.specs.declared.error.ValidationError.TheVariants.{WrongVariantPrefix}

-- a table has the subtag
abbrev pub has : List Entry → List ℕ → Bool
has table subtag = is_some (value_of table subtag)

-- the subtag lies in a range, in text order
abbrev pub lies_in : List ℕ → List ℕ → List ℕ → Bool
lies_in first last subtag =
    is_le (slice_cmp nat_cmp first subtag) && is_le (slice_cmp nat_cmp subtag last)

-- the subtag is in the registry, or is one of those for private use (section 2.2.1, 2.2.3 and
-- 2.2.4)
abbrev pub is_known_language : Tables → List ℕ → Bool
is_known_language R language =
    has R.languages language || lies_in (codes "qaa") (codes "qtz") language

abbrev pub is_known_script : Tables → List ℕ → Bool
is_known_script R script = has R.scripts script || lies_in (codes "Qaaa") (codes "Qabx") script

abbrev pub is_known_region : Tables → List ℕ → Bool
is_known_region R region =
    has R.regions region || lies_in (codes "QM") (codes "QZ") region
    || lies_in (codes "XA") (codes "XZ") region

-- a text begins a tag's text
abbrev pub begins : List ℕ → List ℕ → Bool
begins text prefix = starts_with nat_eq text prefix

-- the prefix of an extlang begins the text; one of those of a variant does, which are cut at single
-- spaces
abbrev pub follows_prefix : List ℕ → Option (List ℕ) → Bool
follows_prefix text None = false
follows_prefix text (Some prefix) = begins text prefix

abbrev pub is_space : ℕ → Bool
is_space c = c == byte " "

abbrev pub follows_any_prefix : List ℕ → Option (List ℕ) → Bool
follows_any_prefix text None = false
follows_any_prefix text (Some prefixes) = list_any (begins text) (slice_split is_space prefixes)

-- no element stands twice
abbrev pub are_different : {A : Type 0} → (A → A → Bool) → List A → Bool
are_different same [] = true
are_different same (x ∷ xs) = not (list_any (same x) xs) && are_different same xs

-- the rules, each with the fault that it is to break it; `text` is the tag's
abbrev pub extlang_rules : Tables → List ℕ → List ℕ → List (Condition ValidationError)
extlang_rules R text extlang =
    (has R.extlangs extlang, ExtendedLanguageNotInRegistry)
    ∷ (follows_prefix text (value_of R.extlangs extlang), WrongExtendedLanguagePrefix)
    ∷ []

abbrev pub script_rules : Tables → List ℕ → List (Condition ValidationError)
script_rules R script = (is_known_script R script, ScriptNotInRegistry) ∷ []

abbrev pub region_rules : Tables → List ℕ → List (Condition ValidationError)
region_rules R region = (is_known_region R region, RegionNotInRegistry) ∷ []

abbrev pub variant_rules : Tables → List ℕ → List ℕ → List (Condition ValidationError)
variant_rules R text variant =
    (has R.variants variant, VariantNotInRegistry)
    ∷ (follows_any_prefix text (value_of R.variants variant), WrongVariantPrefix)
    ∷ []

abbrev pub rules : Tables → Tag → List (Condition ValidationError)
rules R g =
    (nat_lt (length (extlangs_of g)) 2, MultipleExtendedLanguageSubtags)
    ∷ (is_known_language R (language_of g), PrimaryLanguageNotInRegistry)
    ∷ (flat_map (extlang_rules R (print g)) (extlangs_of g)
    ++ (flat_map (script_rules R) (at_most_one (script_of g))
    ++ (flat_map (region_rules R) (at_most_one (region_of g))
    ++ (flat_map (variant_rules R (print g)) (variants_of g)
    ++ ((are_different bytes_eq (variants_of g), DuplicateVariant)
    ∷ (are_different nat_eq (map (λ e. e.singleton) (extensions_of g)), DuplicateExtension)
    ∷ [])))))

-- The fault of a tag. A private use tag has none, and neither has one whose text is grandfathered.
abbrev pub valid : Tables → Tag → Option ValidationError
valid R g = if is_private_use g
    || is_grandfathered (print g) then None else first_failure (rules R g)
