-- The locale that a bundle is for: the one that its tag asks for, normalised (UTS 35, locale
-- inheritance).
use Rattle.std.specs.Prelude.{◌≡◌, ℕ, List}
use Rattle.icu_locale_core.specs.Locale.{Locale}
use Rattle.icu_locale_fallback.specs.Normal.{normal}
use Rattle.icu_locale_fallback.specs.declared.config.LocaleFallbackPriority.TheVariants.{Language}
use Rattle.wanted_locale.specs.Wanted.{IsWantedOf}
use Rattle.wanted_locale.specs.declared.tables.Tables.{Tables}

pub record IsLocaleOf (T : Tables) (text : List ℕ) (l : Locale) : Type 0 where
  pub wanted : Locale
  pub wants : IsWantedOf T.registry text wanted
  pub normalised : l ≡ normal T.fallbacker.likely Language wanted
