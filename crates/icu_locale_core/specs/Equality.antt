-- When two texts, two subtags and two locales are the same.
use Rattle.std.specs.Prelude.{ℕ, Bool, ◌&&◌, List, Option}
use Rattle.std.specs.Option.{option_eq}
pub use Rattle.writeable_core.specs.Texts.{same_text}
use Rattle.icu_locale_core.specs.Locale.{Locale}

-- one subtag, or none in either place
abbrev pub same_subtag : Option (List ℕ) → Option (List ℕ) → Bool
same_subtag = option_eq same_text

-- the same subtags in each place
abbrev pub same_locale : Locale → Locale → Bool
same_locale a b =
    same_text a.language b.language
    && (same_subtag a.script b.script
    && (same_subtag a.region b.region
    && (same_subtag a.variant b.variant && same_subtag a.subdivision b.subdivision)))
