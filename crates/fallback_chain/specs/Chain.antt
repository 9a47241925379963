-- The whole walk of a locale in the language priority (UTS 35, locale inheritance and matching):
-- where it ends, and the text of its locales.
use Rattle.std.specs.Prelude.{◌≡◌, ◌≢◌, ℕ, ◌+◌, ◌<◌, List, map}
use Rattle.std.specs.List.{join_with_byte, range_with_len}
use Rattle.std.specs.Str.{byte}
use Rattle.icu_locale_core.specs.Locale.{Locale, print, unknown}
use Rattle.icu_locale_fallback.specs.Tables.{Tables}
use Rattle.icu_locale_fallback.specs.Walk.{at}

-- the walk from l ends after k steps: it is at the unknown locale there, and nowhere before
pub record EndsAt (F : Tables) (l : Locale) (k : ℕ) : Type 0 where
  pub ended : at F l k ≡ unknown
  pub least : (j : ℕ) → j < k → at F l j ≢ unknown

-- the locales after 0 to k steps, in order
abbrev pub locales_to : Tables → Locale → ℕ → List Locale
locales_to F l k = map (at F l) (range_with_len 0 (k + 1))

-- their printed texts, with a space between two
unfoldable pub chain_text : Tables → Locale → ℕ → List ℕ
chain_text F l k = join_with_byte (byte " ") (map print (locales_to F l k))
