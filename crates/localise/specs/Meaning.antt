-- What a bundle means.
use Rattle.gettext.specs.Messages.{Messages}
use Rattle.icu_list.specs.Patterns.{Patterns}
use Rattle.icu_locale_core.specs.Locale.{Locale}

-- the locale that it is for, normalised, its messages, and how it joins lists
pub record Meaning : Type 0 where
  pub locale : Locale
  pub messages : Messages
  pub patterns : Patterns
