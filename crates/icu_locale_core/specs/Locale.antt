-- The locale that data is looked up by, and its printed text (UTS 35, Unicode locale
-- identifiers; RFC 5646, section 2.1).
use Rattle.std.specs.Prelude.{◌≡◌, ℕ, List, [], ◌++◌, Option, Some, None, IfSome, codes}
use Rattle.icu_locale_core.specs.Shapes.{IsLanguage, IsScript, IsRegion, IsVariant, IsSubtag}

-- a data locale: five subtags, each a text, of which only the language is always there
pub record Locale : Type 0 where
  pub language : List ℕ
  pub script : Option (List ℕ)
  pub region : Option (List ℕ)
  pub variant : Option (List ℕ)
  pub subdivision : Option (List ℕ)

-- `und` and nothing else: the locale of which nothing is known
abbrev pub unknown : Locale
unknown =
    record {
      language = codes "und";
      script = None;
      region = None;
      variant = None;
      subdivision = None;
    }

-- a subtag, where there is one, behind `mark`
abbrev pub marked : List ℕ → Option (List ℕ) → List ℕ
marked mark None = []
marked mark (Some subtag) = mark ++ subtag

-- the printed text: the language, `-` and each of script, region and variant, then `-u-sd-` and
-- the subdivision
abbrev pub print : Locale → List ℕ
print locale =
    locale.language ++ marked (codes "-") locale.script ++ marked (codes "-") locale.region
    ++ marked (codes "-") locale.variant
    ++ marked (codes "-u-sd-") locale.subdivision

-- each subtag has its shape
pub record IsLocale (locale : Locale) : Type 0 where
  pub language : IsLanguage locale.language
  pub script : IfSome locale.script IsScript
  pub region : IfSome locale.region IsRegion
  pub variant : IfSome locale.variant IsVariant
  pub subdivision : IfSome locale.subdivision IsSubtag

-- the printed text of a locale
abbrev pub IsPrinted : List ℕ → Type 0
IsPrinted text = (locale : Locale) × IsLocale locale × (print locale ≡ text)

-- the printed text determines the locale
abbrev pub PrintDetermines : Type 0
PrintDetermines =
    (one other : Locale) → IsLocale one → IsLocale other → print one ≡ print other → one ≡ other
