-- The locale that a walk begins with (after UTS 35, likely subtags, as `icu_locale_fallback`
-- applies them).
use Rattle.std.specs.Prelude.{ℕ, List, Option, Some, None, Bool, ◌&&◌, ◌||◌, not, false, true}
use Rattle.std.specs.Prelude.{is_some, map, nat_eq, codes, if◌then◌else◌}
use Rattle.std.specs.Option.{option_or, option_and_then}
use Rattle.std.specs.List.{starts_with, ends_with}
use Rattle.std.specs.Char.{to_ascii_lowercase}
use Rattle.icu_locale_core.specs.Equality.{same_subtag}
use Rattle.icu_locale_core.specs.Locale.{Locale}
use Rattle.icu_locale_fallback.specs.declared.config.LocaleFallbackPriority.{LocaleFallbackPriority}
use Rattle.icu_locale_fallback.specs.declared.config.LocaleFallbackPriority.TheVariants.{Language}
use Rattle.icu_locale_fallback.specs.declared.config.LocaleFallbackPriority.TheVariants.{Script}
use Rattle.icu_locale_fallback.specs.declared.config.LocaleFallbackPriority.TheVariants.{Region}
use Rattle.icu_locale_fallback.specs.Tables.{LikelySubtags, likely_region, default_script}

-- A subdivision belongs to a region where the region's text, in lower case, begins it, and it
-- does not stand for the whole region, as one that ends `zzzz` does (UTS 35, subdivision
-- codes).
abbrev pub belongs : List ℕ → List ℕ → Bool
belongs subdivision region =
    starts_with nat_eq subdivision (map to_ascii_lowercase region)
    && not (ends_with nat_eq subdivision (codes "zzzz"))

-- 1. the subdivision, where it belongs to the region
abbrev pub kept_subdivision : Locale → Option (List ℕ)
kept_subdivision l =
    option_and_then (λ region.
    option_and_then (λ s. if belongs s region then Some s else None) l.subdivision) l.region

-- 2. the region; where there is none, the region priority takes the likely one
abbrev pub region_of : LikelySubtags → LocaleFallbackPriority → Locale → Option (List ℕ)
region_of likely Region l =
    option_or l.region (likely_region likely l.language l.script)
region_of likely Language l = l.region
region_of likely Script l = l.region

-- whether the priority is the script's
abbrev pub is_script_priority : LocaleFallbackPriority → Bool
is_script_priority Script = true
is_script_priority Language = false
is_script_priority Region = false

-- 3. the default script for a region, looked up where there is a script or a region, and always
-- in the script priority
abbrev pub default_of : LikelySubtags → LocaleFallbackPriority → Locale → Option (List ℕ)
    → Option (List ℕ)
default_of likely priority l region =
    if is_some l.script || (is_some region || is_script_priority priority)
    then default_script likely l.language region
    else None

-- that of a locale
abbrev pub default_script_of : LikelySubtags → LocaleFallbackPriority → Locale → Option (List ℕ)
default_script_of likely priority l = default_of likely priority l (region_of likely priority l)

-- a script, but for one that is the default
abbrev pub but_default : Option (List ℕ) → Option (List ℕ) → Option (List ℕ)
but_default script default = if same_subtag script default then None else script

-- the script, but for one that is the default
abbrev pub script_of : LikelySubtags → LocaleFallbackPriority → Locale → Option (List ℕ)
script_of likely priority l = but_default l.script (default_script_of likely priority l)

-- the locale that the walk from l begins with
abbrev pub normal : LikelySubtags → LocaleFallbackPriority → Locale → Locale
normal likely priority l =
    record {
      language = l.language;
      script = script_of likely priority l;
      region = region_of likely priority l;
      variant = l.variant;
      subdivision = kept_subdivision l;
    }

-- 4. the first script: the script that is left, else the default one
abbrev pub first_script : LikelySubtags → LocaleFallbackPriority → Locale → Option (List ℕ)
first_script likely priority l =
    option_or (script_of likely priority l) (default_script_of likely priority l)
