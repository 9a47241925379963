-- How the bundle of a locale is looked up: by an ordered map from locales to the numbers of
-- bundles.
use Rattle.std.specs.Prelude.{◌≡◌, ℕ, List, Option}
use Rattle.std.specs.BTreeMap.{BTreeMap, get}
use Rattle.std.specs.List.{position_from}
use Rattle.std.specs.Option.{option_cmp}
use Rattle.std.specs.Ordering.{ordering_then}
use Rattle.std.specs.declared.cmp.Ordering.{Ordering}
use Rattle.icu_locale_core.specs.Equality.{same_locale}
use Rattle.icu_locale_core.specs.Locale.{Locale}
use Rattle.icu_locale_fallback.specs.Keys.{text_cmp}
use Rattle.localise.specs.Meaning.{Meaning}

-- locales in the order of their subtags, the language first; an absent subtag stands first
abbrev pub locale_cmp : Locale → Locale → Ordering
locale_cmp a b =
    ordering_then (text_cmp a.language b.language)
    (ordering_then (option_cmp text_cmp a.script b.script)
    (ordering_then (option_cmp text_cmp a.region b.region)
    (ordering_then (option_cmp text_cmp a.variant b.variant)
    (option_cmp text_cmp a.subdivision b.subdivision))))

-- the number of the first bundle of a locale, the bundles being numbered from i
abbrev pub place_from : ℕ → List Meaning → Locale → Option ℕ
place_from i bundles l = position_from (λ b. same_locale b.locale l) i bundles

-- the map has for each locale the number of its bundle
abbrev pub ArePlaces : List Meaning → BTreeMap Locale ℕ → Type 0
ArePlaces bundles places = (l : Locale) → get locale_cmp places l ≡ place_from 0 bundles l
