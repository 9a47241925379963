-- A walk in the region priority is at the unknown locale after six steps.
use Rattle.std.proofs.Common.{◌≡◌, ℕ, zero, suc, ◌+◌, ◌-◌, ◌≤◌, Bool, true, ◌||◌, cond, List}
use Rattle.std.proofs.Common.{Option, is_some, arith}
use Rattle.icu_locale_core.specs.Locale.{Locale, unknown}
use Rattle.icu_locale_fallback.specs.Normal.{first_script}
use Rattle.icu_locale_fallback.specs.declared.config.LocaleFallbackPriority.TheVariants.{Region}
use Rattle.icu_locale_fallback.specs.Tables.{Tables}
use Rattle.icu_locale_fallback.specs.Steps.{Reached, is_unknown, step_of, has_language, start}
use Rattle.icu_locale_fallback.specs.Steps.{reached, region_at}
use Rattle.icu_locale_fallback.proofs.Rules.{unknown_of}

-- 1 where the test holds, else 0
abbrev count : Bool → ℕ
count b = cond b 1 0

-- how many steps a walk from here has at most
abbrev rank : Reached → ℕ
rank r =
    count (is_some r.locale.subdivision) + count (is_some r.locale.variant)
    + count (is_some r.locale.region)
    + cond (has_language r.locale || is_some r.locale.script)
    (1 + cond (is_some r.locale.region)
    (count (is_some r.locale.subdivision || is_some r.kept_subdivision)
    + count (is_some r.locale.variant || is_some r.kept_variant)) 0) 0

-- each step takes one off
falls : (F : Tables) (first : Option (List ℕ)) (r : Reached)
    → rank (step_of Region F first r) ≤ rank r - 1
falls F first r = grind arith

-- where there is none the locale is unknown
no_steps : (r : Reached) → rank r ≡ 0 → is_unknown r.locale ≡ true
no_steps r h = grind arith

-- a walk begins with six at most
at_most_six : (F : Tables) (l : Locale) → rank (start F Region l) ≤ 6
at_most_six F l = grind arith

-- after k steps so many are left
left : (F : Tables) (l : Locale) (k : ℕ) → rank (reached F Region l k) ≤ 6 - k
unfolding reached
left F l zero = at_most_six F l
left F l (suc k) =
    let before = left F l k in
    let less = falls F (first_script F.likely Region l) (reached F Region l k) in
    omega arith

-- after six none
pub region_ends : (F : Tables) (l : Locale) → region_at F l 6 ≡ unknown
region_ends F l =
    let none = left F l 6 in
    unknown_of (region_at F l 6) (no_steps (reached F Region l 6) (omega arith))
