-- The printed locales that cells of rows hold.
use Rattle.std.specs.Prelude.{◌≡◌, ℕ, List, None}
use Rattle.icu_locale_core.specs.Locale.{Locale, IsLocale, print}
use Rattle.icu_locale_fallback.specs.Triple.{Triple}

-- the locale of a triple
abbrev pub locale_of : Triple → Locale
locale_of t =
    record {
      language = t.language;
      script = t.script;
      region = t.region;
      variant = None;
      subdivision = None;
    }

-- the triple of a locale, where the locale has no more than it
abbrev pub IsLocaleOf : Locale → Triple → Type 0
IsLocaleOf l t = locale_of t ≡ l

-- the locale has more than a triple
abbrev pub IsLocaleOfNone : Locale → Type 0
IsLocaleOfNone l = (t : Triple) → ¬ (locale_of t ≡ l)

-- a printed locale without variant and subdivision
pub record PrintsAs (text : List ℕ) (t : Triple) : Type 0 where
  pub shape : IsLocale (locale_of t)
  pub printed : print (locale_of t) ≡ text

-- the text is the printed one of no triple
abbrev pub PrintsNone : List ℕ → Type 0
PrintsNone text = (t : Triple) → ¬ (PrintsAs text t)
