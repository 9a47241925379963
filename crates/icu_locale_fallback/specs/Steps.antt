-- One step of a walk in each priority (UTS 35, locale inheritance and matching, as
-- `icu_locale_fallback` applies it): which rule applies, and what it does.
use Rattle.std.specs.Prelude.{◌≡◌, ◌≤◌, ℕ, suc, zero, List, [], ◌∷◌, Option, Some, None, Bool, ◌&&◌}
use Rattle.std.specs.Prelude.{◌||◌, not, is_some, is_none, unwrap_or, if◌then◌else◌}
use Rattle.std.specs.FinMap as map
use Rattle.std.specs.Option.{option_map}
use Rattle.icu_locale_core.specs.Equality.{same_text, same_subtag}
use Rattle.icu_locale_core.specs.Locale.{Locale, unknown}
use Rattle.icu_locale_fallback.specs.declared.config.LocaleFallbackPriority.{LocaleFallbackPriority}
use Rattle.icu_locale_fallback.specs.declared.config.LocaleFallbackPriority.TheVariants.{Language}
use Rattle.icu_locale_fallback.specs.declared.config.LocaleFallbackPriority.TheVariants.{Script}
use Rattle.icu_locale_fallback.specs.declared.config.LocaleFallbackPriority.TheVariants.{Region}
use Rattle.icu_locale_fallback.specs.declared.rule.Rule.{Rule}
use Rattle.icu_locale_fallback.specs.declared.rule.Rule.TheVariants.{Stay, DropSubdivision}
use Rattle.icu_locale_fallback.specs.declared.rule.Rule.TheVariants.{DropVariant, GoToParent}
use Rattle.icu_locale_fallback.specs.declared.rule.Rule.TheVariants.{DropRegion, KeepRegion}
use Rattle.icu_locale_fallback.specs.declared.rule.Rule.TheVariants.{DropLanguage, DropLastRegion}
use Rattle.icu_locale_fallback.specs.declared.rule.Rule.TheVariants.{DropLikelyScript}
use Rattle.icu_locale_fallback.specs.declared.rule.Rule.TheVariants.{GoToFirstScript, DropScript}
use Rattle.icu_locale_fallback.specs.Normal.{normal, first_script}
use Rattle.icu_locale_fallback.specs.Tables.{Tables, likely_script}
use Rattle.icu_locale_fallback.specs.Triple.{triple_of}

-- where a walk is: a locale, and the subtags that it dropped and that come back
pub record Reached : Type 0 where
  pub locale : Locale
  pub kept_variant : Option (List ℕ)
  pub kept_subdivision : Option (List ℕ)
  pub kept_region : Option (List ℕ)

-- ---- which rule applies

-- language `und` and nothing else
abbrev pub is_unknown : Locale → Bool
is_unknown l =
    same_text l.language unknown.language
    && (is_none l.script && (is_none l.region && (is_none l.variant && is_none l.subdivision)))

-- whether a locale has a language, one that is known
abbrev pub has_language : Locale → Bool
has_language l = not (same_text l.language unknown.language)

-- and a script that the language most likely has
abbrev pub has_likely_script : Tables → Locale → Bool
has_likely_script F l =
    has_language l
    && (is_some l.script && same_subtag l.script (likely_script F.likely l.language))

-- a rule, where its condition holds
abbrev pub when : Bool → Rule → Option Rule
when condition rule = if condition then Some rule else None

-- the rule of the parent, where there is one
abbrev pub parent_rule : Tables → Locale → Option Rule
parent_rule F l = option_map GoToParent (map.get F.parents (triple_of l))

-- the rules of a priority that stand behind those that all have, in their order
abbrev pub own_rules : LocaleFallbackPriority → Tables → Locale → List (Option Rule)
own_rules Language F l =
    parent_rule F l ∷ when (is_some l.region) DropRegion ∷ Some DropLanguage ∷ []
own_rules Region F l =
    when (has_language l || is_some l.script) DropLanguage ∷ Some DropLastRegion ∷ []
own_rules Script F l =
    parent_rule F l ∷ when (is_some l.region) KeepRegion
    ∷ when (has_likely_script F l) DropLikelyScript ∷ when (has_language l) GoToFirstScript
    ∷ Some DropScript ∷ []

-- the first rule that is there
abbrev pub first_of : List (Option Rule) → Rule
first_of [] = Stay
first_of (rule ∷ rules) = unwrap_or rule (first_of rules)

-- the rule that applies to a locale in a priority: the first whose condition holds
abbrev pub rule : LocaleFallbackPriority → Tables → Locale → Rule
rule priority F l =
    first_of
    (when (is_unknown l) Stay ∷ when (is_some l.subdivision) DropSubdivision
    ∷ when (is_some l.variant) DropVariant ∷ own_rules priority F l)

-- ---- what a rule does

-- the kept variant comes back, and is no longer kept
abbrev pub variant_back : Reached → Reached
variant_back r =
    record r { locale = record r.locale { variant = r.kept_variant }; kept_variant = None }

-- so does the kept subdivision
abbrev pub subdivision_back : Reached → Reached
subdivision_back r =
    record r {
      locale = record r.locale { subdivision = r.kept_subdivision };
      kept_subdivision = None;
    }

-- and the kept region
abbrev pub region_back : Reached → Reached
region_back r =
    record r { locale = record r.locale { region = r.kept_region }; kept_region = None }

-- the script that is left when the region goes: none where the first script is the language's
-- likely one, else the first
abbrev pub script_without_region : Tables → Option (List ℕ) → List ℕ → Option (List ℕ)
script_without_region F first language =
    if same_subtag (likely_script F.likely language) first then None else first

-- the region goes, and the kept variant comes back
abbrev pub region_dropped : Tables → Option (List ℕ) → Reached → Reached
region_dropped F first r =
    variant_back (record r {
      locale = record r.locale {
        script = script_without_region F first r.locale.language;
        region = None;
      };
    })

-- the script goes
abbrev pub without_script : Reached → Reached
without_script r = record r { locale = record r.locale { script = None } }

-- language and script go; where there is a region, the kept variant and subdivision come back
abbrev pub without_language : Reached → Reached
without_language r =
    let gone : Reached = record r {
      locale = record r.locale {
        language = unknown.language;
        script = None;
      };
    } in
    if is_some r.locale.region then subdivision_back (variant_back gone) else gone

-- the script goes; where a region is kept, it comes back with all that is kept
abbrev pub without_likely_script : Reached → Reached
without_likely_script r =
    if is_some r.kept_region
    then region_back (subdivision_back (variant_back (without_script r)))
    else without_script r

-- the language goes for the first script; where there is one, the kept variant comes back
abbrev pub to_first_script : Option (List ℕ) → Reached → Reached
to_first_script first r =
    let to : Reached = record r {
      locale = record r.locale {
        language = unknown.language;
        script = first;
      };
    } in
    if is_some first then variant_back to else to

-- where a rule leads, in a walk with this first script
abbrev pub step_by : Rule → Tables → Option (List ℕ) → Reached → Reached
step_by Stay F first r = r
step_by DropSubdivision F first r =
    record r {
      locale = record r.locale { subdivision = None };
      kept_subdivision = r.locale.subdivision;
    }
step_by DropVariant F first r =
    record r { locale = record r.locale { variant = None }; kept_variant = r.locale.variant }
step_by (GoToParent parent) F first r =
    variant_back (record r {
      locale = record r.locale {
        language = parent.language;
        script = parent.script;
        region = parent.region;
      };
    })
step_by DropRegion F first r = region_dropped F first r
step_by KeepRegion F first r =
    record (region_dropped F first r) { kept_region = r.locale.region }
step_by DropLanguage F first r = without_language r
step_by DropLastRegion F first r = record r { locale = record r.locale { region = None } }
step_by DropLikelyScript F first r = without_likely_script r
step_by GoToFirstScript F first r = to_first_script first r
step_by DropScript F first r = without_script r

-- ---- the walk

-- one step in a priority
abbrev pub step_of : LocaleFallbackPriority → Tables → Option (List ℕ) → Reached → Reached
step_of priority F first r = step_by (rule priority F r.locale) F first r

-- at a locale, with nothing kept
abbrev pub at_rest : Locale → Reached
at_rest l = record { locale = l; kept_variant = None; kept_subdivision = None; kept_region = None }

-- where a walk in a priority from l begins: at its normal form
abbrev pub start : Tables → LocaleFallbackPriority → Locale → Reached
start F priority l = at_rest (normal F.likely priority l)

-- where it is after k steps
unfoldable pub reached : Tables → LocaleFallbackPriority → Locale → ℕ → Reached
reached F priority l zero = start F priority l
reached F priority l (suc k) =
    step_of priority F (first_script F.likely priority l) (reached F priority l k)

-- a walk that has come to the unknown locale stays where it is
abbrev pub StaysAtUnknown : Tables → LocaleFallbackPriority → Locale → Type 0
StaysAtUnknown F priority l =
    (k n : ℕ) → (reached F priority l k).locale ≡ unknown → k ≤ n
    → reached F priority l n ≡ reached F priority l k

-- the locales of a walk in the region priority
abbrev pub region_at : Tables → Locale → ℕ → Locale
region_at F l k = (reached F Region l k).locale

-- and of one in the script priority
abbrev pub script_at : Tables → Locale → ℕ → Locale
script_at F l k = (reached F Script l k).locale
