-- What a localiser keeps of bundles: it answers each request as the bundles do.
use Rattle.std.specs.Prelude.{◌≡◌, ℕ, List, [], ◌∷◌, None}
use Rattle.gettext.specs.Messages.{form, StandsFor}
use Rattle.icu_list.specs.Patterns.{Patterns}
use Rattle.icu_locale_core.specs.Locale.{Locale}
use Rattle.localise.specs.Bundles.{AreAccepted, AreBundles, Means}
use Rattle.localise.specs.Chosen.{translation}
use Rattle.localise.specs.Meaning.{Meaning}
use Rattle.localise_texts.specs.declared.bundle.BundleText.{BundleText}
use Rattle.localise_texts.specs.declared.patterns.PatternTexts.{PatternTexts}
use Rattle.localise_texts.specs.declared.request.Request.{Request}
use Rattle.wanted_locale.specs.declared.tables.Tables.{Tables}

-- a bundle is kept with its locale and its patterns, and with messages that stand for its own and
-- give each form alike
pub record Keeps (kept b : Meaning) : Type 0 where
  pub locale : kept.locale ≡ b.locale
  pub messages : StandsFor kept.messages b.messages
  pub forms : (key : List ℕ) (n : ℕ) → form kept.messages None key n ≡ form b.messages None key n
  pub patterns : kept.patterns ≡ b.patterns

-- what is kept of a bundle's text is what the text means
pub record IsRead (T : Tables) (text : BundleText) (kept : Meaning) : Type 0 where
  pub meaning : Meaning
  pub means : Means T text meaning
  pub keeps : Keeps kept meaning

-- each bundle is kept, in order
abbrev pub AllKeep : List Meaning → List Meaning → Type 0
AllKeep [] [] = Unit {0}
AllKeep (kept ∷ all) (b ∷ bundles) = Keeps kept b × AllKeep all bundles
AllKeep [] (b ∷ bundles) = ⊥
AllKeep (kept ∷ all) [] = ⊥

-- what is kept of the texts of bundles is what they mean
pub record AreKept (T : Tables) (texts : List BundleText) (kept : List Meaning) : Type 0 where
  pub bundles : List Meaning
  pub are : AreBundles T texts bundles
  pub keep : AllKeep kept bundles

-- the meanings that are kept give each request what these bundles mean
abbrev pub AreAlike : List Meaning → List Meaning → Type 0
AreAlike kept bundles = (q : Request) (l : Locale) → translation kept q l ≡ translation bundles q l

-- what a localiser keeps stands for the bundles and the root
pub record Localises (T : Tables) (texts : List BundleText) (root : PatternTexts)
    (kept : List Meaning) (patterns : Patterns) : Type 0 where
  pub bundles : List Meaning
  pub accepted : AreAccepted T texts root bundles patterns
  pub alike : AreAlike kept bundles
