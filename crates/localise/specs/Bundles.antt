-- What bundles mean, and which of them is the first that is faulty.
use Rattle.std.specs.Prelude.{◌≡◌, ◌≢◌, ℕ, List, [], ◌∷◌, take, slice_get, Some, None, Any}
use Rattle.std.specs.Prelude.{AllPairs}
use Rattle.gettext.specs.Faults.{mo_fault}
use Rattle.gettext.specs.Mo.{entries}
use Rattle.gettext.specs.Options.{plain_options}
use Rattle.icu_list.specs.ListFault.{list_fault}
use Rattle.icu_list.specs.Patterns.{Patterns}
use Rattle.icu_locale_core.specs.Locale.{Locale}
use Rattle.std.specs.Prelude.{encode_utf8_all}
use Rattle.localise.specs.Lists.{ArePatterns, list_texts}
use Rattle.localise.specs.Meaning.{Meaning}
use Rattle.localise.specs.declared.error.BundleCause.TheVariants.{Tag, Mo, List as ListCause}
use Rattle.localise.specs.declared.error.RenderError.{RenderError}
use Rattle.localise.specs.declared.error.RenderError.TheVariants as refusals
use Rattle.localise_texts.specs.declared.bundle.BundleText.{BundleText}
use Rattle.localise_texts.specs.declared.patterns.PatternTexts.{PatternTexts}
use Rattle.wanted_locale.specs.Normalised.{IsLocaleOf}
use Rattle.wanted_locale.specs.Wanted.{IsTagCause}
use Rattle.wanted_locale.specs.declared.tables.Tables.{Tables}

module _ (T : Tables) where
  -- the locale of a bundle's tag, the messages of its catalog, and the patterns of its list
  pub record Means (text : BundleText) (b : Meaning) : Type 0 where
    pub locale : IsLocaleOf T (encode_utf8_all text.tag) b.locale
    pub messages : entries text.mo plain_options b.messages
    pub patterns : ArePatterns (list_texts text.list) b.patterns

  -- each bundle means one of these, in order
  abbrev pub AllMean : List BundleText → List Meaning → Type 0
  AllMean [] [] = Unit {0}
  AllMean (text ∷ texts) (b ∷ bs) = Means text b × AllMean texts bs
  AllMean [] (b ∷ bs) = ⊥
  AllMean (text ∷ texts) [] = ⊥

  -- no bundle is faulty, and no two are for one locale
  pub record AreBundles (texts : List BundleText) (bs : List Meaning) : Type 0 where
    pub mean : AllMean texts bs
    pub apart : AllPairs (λ earlier later. earlier.locale ≢ later.locale) bs

  -- what is wrong with bundle i, behind bundles that mean these: its tag, its catalog, its list or
  -- its locale, in this order
  pub data IsFaultBehind (earlier : List Meaning) (i : ℕ) (text : BundleText) (e : RenderError) :
      Type 0 where
    in_tag : {cause : _} → IsTagCause T.registry (encode_utf8_all text.tag) cause
        → e ≡ refusals.Bundle i (Tag cause) → IsFaultBehind earlier i text e
    in_catalog : {l : Locale} {fault : _} → IsLocaleOf T (encode_utf8_all text.tag) l
        → mo_fault text.mo plain_options (Some fault) → e ≡ refusals.Bundle i (Mo fault)
        → IsFaultBehind earlier i text e
    in_list : {l : Locale} {fault : _} → IsLocaleOf T (encode_utf8_all text.tag) l
        → mo_fault text.mo plain_options None
        → list_fault (list_texts text.list) ≡ Some fault → e ≡ refusals.Bundle i (ListCause fault)
        → IsFaultBehind earlier i text e
    in_locale : {b : Meaning} → Means text b → Any (λ other. other.locale ≡ b.locale) earlier
        → e ≡ refusals.DuplicateLocale i → IsFaultBehind earlier i text e

  -- the first faulty bundle, and what is wrong with it
  pub record IsBundleFault (texts : List BundleText) (e : RenderError) : Type 0 where
    pub i : ℕ
    pub text : BundleText
    pub text_is : slice_get texts i ≡ Some text
    pub earlier : List Meaning
    pub before : AreBundles (take i texts) earlier
    pub fault : IsFaultBehind earlier i text e

  -- why bundles and the root's patterns are refused: the first faulty bundle, or else the root
  pub data IsRefusal (texts : List BundleText) (root : PatternTexts) (e : RenderError) :
      Type 0 where
    in_bundles : IsBundleFault texts e → IsRefusal texts root e
    in_root : {bs : List Meaning} {fault : _} → AreBundles texts bs
        → list_fault (list_texts root) ≡ Some fault
        → e ≡ refusals.Root fault → IsRefusal texts root e

  -- nothing is refused, and this is what bundles and root mean
  pub record AreAccepted (texts : List BundleText) (root : PatternTexts) (bs : List Meaning)
      (p : Patterns) : Type 0 where
    pub bundles : AreBundles texts bs
    pub root_patterns : ArePatterns (list_texts root) p
