-- What the views of a fallbacker, and a walk over it, stand for.
use Rattle.std.specs.Prelude.{◌≡◌, ℕ, List, Option}
use Rattle.icu_locale_core.specs.Locale.{Locale}
use Rattle.icu_locale_fallback.specs.declared.config.LocaleFallbackConfig.{LocaleFallbackConfig}
use Rattle.icu_locale_fallback.specs.declared.config.LocaleFallbackPriority.{LocaleFallbackPriority}
use Rattle.icu_locale_fallback.specs.declared.config.LocaleFallbackPriority.TheVariants.{Language}
use Rattle.icu_locale_fallback.specs.declared.fallbacker.LocaleFallbackerBorrowed.{LocaleFallbackerBorrowed}
use Rattle.icu_locale_fallback.specs.declared.fallbacker.LocaleFallbackerWithConfig.{LocaleFallbackerWithConfig}
use Rattle.icu_locale_fallback.specs.declared.iterator.LocaleFallbackIterator.{LocaleFallbackIterator}
use Rattle.icu_locale_fallback.specs.Normal.{first_script}
use Rattle.icu_locale_fallback.specs.Steps.{Reached, start, step_of}
use Rattle.icu_locale_fallback.specs.Tables.{Tables}
use Rattle.icu_locale_fallback.specs.Walk.{next}

-- the tables that a view shows
abbrev pub viewed : LocaleFallbackerBorrowed → Tables
viewed view = view.fallbacker.now

-- the tables that a view with a configuration shows
abbrev pub tables_of : LocaleFallbackerWithConfig → Tables
tables_of view = view.fallbacker.now

-- the configuration that is handed in with them
abbrev pub config_of : LocaleFallbackerWithConfig → LocaleFallbackConfig
config_of view = view.config

-- a walk: what it goes by, and where it is
pub record Walk : Type 0 where
  pub tables : Tables
  pub priority : LocaleFallbackPriority
  pub first : Option (List ℕ)
  pub reached : Reached

-- the walk of an iterator
abbrev pub walk_of : LocaleFallbackIterator → Walk
walk_of it =
    record {
      tables = it.fallbacker.now;
      priority = it.priority;
      first = it.first_script;
      reached = record {
        locale = it.locale;
        kept_variant = it.kept_variant;
        kept_subdivision = it.kept_subdivision;
        kept_region = it.kept_region;
      };
    }

-- a walk that begins at a locale
abbrev pub begun : Tables → LocaleFallbackPriority → Locale → Walk
begun F priority l =
    record {
      tables = F;
      priority = priority;
      first = first_script F.likely priority l;
      reached = start F priority l;
    }

-- a walk one step on
abbrev pub stepped : Walk → Walk
stepped w = record w { reached = step_of w.priority w.tables w.first w.reached }

-- in the language priority a walk goes by `next`
abbrev pub GoesByNext : Walk → Walk → Type 0
GoesByNext old new =
    old.priority ≡ Language → new.reached ≡ next old.tables old.first old.reached

-- a walk went on to where this leads
abbrev pub Goes : (Walk → Reached) → Walk → Walk → Type 0
Goes leads old new = new ≡ record old { reached = leads old }
