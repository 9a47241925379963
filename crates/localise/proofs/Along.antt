-- The walk in the language priority, behind so many steps.
use Rattle.std.proofs.Common.{ℕ}
use Rattle.icu_locale_core.specs.Locale.{Locale}
use Rattle.icu_locale_fallback.specs.declared.config.LocaleFallbackPriority.TheVariants.{Language}
use Rattle.icu_locale_fallback.specs.Normal.{first_script}
use Rattle.icu_locale_fallback.specs.Steps.{reached}
use Rattle.icu_locale_fallback.specs.Tables.{Tables}
use Rattle.icu_locale_fallback.specs.Views.{Walk}

-- the walk from l after k steps
abbrev pub along : Tables → Locale → ℕ → Walk
along F l k =
    record {
      tables = F;
      priority = Language;
      first = first_script F.likely Language l;
      reached = reached F Language l k;
    }
