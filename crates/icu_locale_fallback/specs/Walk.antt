-- The walk from a locale to the unknown one in the language priority, as a list of locales
-- (UTS 35, locale inheritance and matching, as `icu_locale_fallback` applies it).
use Rattle.std.specs.Prelude.{◌≡◌, ℕ, ◌+◌, ◌-◌, ◌*◌, ◌<◌, ◌≤◌, List, Option, Bool, false, true, ◌⊎◌}
use Rattle.std.specs.FinMap as map
use Rattle.icu_locale_core.specs.Locale.{Locale, unknown}
use Rattle.icu_locale_fallback.specs.declared.config.LocaleFallbackPriority.TheVariants.{Language}
use Rattle.icu_locale_fallback.specs.declared.rule.Rule.{Rule}
use Rattle.icu_locale_fallback.specs.declared.rule.Rule.TheVariants.{GoToParent, DropRegion}
use Rattle.icu_locale_fallback.specs.declared.rule.Rule.TheVariants.{KeepRegion}
use Rattle.icu_locale_fallback.specs.Steps.{Reached, reached, rule, step_of}
use Rattle.icu_locale_fallback.specs.Triple.{triple_of}
use Rattle.icu_locale_fallback.specs.Tables.{Tables}

-- the step behind a point in a walk with this first script
abbrev pub next : Tables → Option (List ℕ) → Reached → Reached
next = step_of Language

-- the locale after k steps from l, normalised, with nothing kept
abbrev pub at : Tables → Locale → ℕ → Locale
at F l k = (reached F Language l k).locale

-- a parent step and a region step give the locale another triple, and bring the variant back
abbrev pub brings_back : Rule → Bool
brings_back (GoToParent parent) = true
brings_back DropRegion = true
brings_back KeepRegion = true
brings_back other = false

-- step k is a parent or region step, to the triple of an earlier locale
pub record Repeats (F : Tables) (l : Locale) (k : ℕ) : Type 0 where
  pub step : brings_back (rule Language F (at F l (k - 1))) ≡ true
  pub earlier : ℕ
  pub below : earlier < k
  pub same : triple_of (at F l k) ≡ triple_of (at F l earlier)

-- After at most 4 p + 5 steps, where p is the number of parent entries, the walk is at the
-- unknown locale or repeats.
pub record EndsOrRepeats (F : Tables) (l : Locale) : Type 0 where
  pub steps : ℕ
  pub bound : steps ≤ 4 * map.len F.parents + 5
  pub ends : (at F l steps ≡ unknown) ⊎ Repeats F l steps

-- From a repeated triple on nothing new comes: that locale and each later one is one from
-- before it.
abbrev pub RevisitsOnly : Tables → Locale → Type 0
RevisitsOnly F l =
    (k n : ℕ) → Repeats F l k → k ≤ n → ((j : ℕ) × (j < k) × (at F l n ≡ at F l j))

-- the unknown locale is never left
abbrev pub StaysUnknown : Tables → Locale → Type 0
StaysUnknown F l = (k n : ℕ) → at F l k ≡ unknown → k ≤ n → at F l n ≡ unknown

-- a walk that comes to the unknown locale repeats at no step
abbrev pub NeverRepeats : Tables → Locale → Type 0
NeverRepeats F l = (n k : ℕ) → at F l n ≡ unknown → ¬ (Repeats F l k)
