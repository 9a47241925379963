-- What bundles mean, and how they are refused, goes by what tables answer.
use Rattle.std.proofs.Common.{◌≡◌, ◌∙◌, ℕ, List, [], ◌∷◌, take, ap}
use Rattle.std.specs.Prelude.{encode_utf8_all}
use Rattle.icu_list.specs.Patterns.{Patterns}
use Rattle.icu_locale_core.specs.Locale.{Locale}
use Rattle.icu_locale_fallback.specs.Normal.{normal}
use Rattle.icu_locale_fallback.specs.declared.config.LocaleFallbackPriority.TheVariants.{Language}
use Rattle.localise.specs.Bundles.{AllMean, AreAccepted, AreBundles, IsBundleFault, IsFaultBehind}
use Rattle.localise.specs.Bundles.{IsRefusal, Means, in_bundles, in_catalog, in_list, in_locale}
use Rattle.localise.specs.Bundles.{in_root, in_tag}
use Rattle.localise.specs.Meaning.{Meaning}
use Rattle.localise.specs.declared.error.RenderError.{RenderError}
use Rattle.localise_texts.specs.declared.bundle.BundleText.{BundleText}
use Rattle.localise_texts.specs.declared.patterns.PatternTexts.{PatternTexts}
use Rattle.wanted_locale.specs.Normalised.{IsLocaleOf}
use Rattle.wanted_locale.specs.Wanted.{IsTagCause, IsWantedOf}
use Rattle.wanted_locale.specs.declared.error.TagCause.{TagCause}
use Rattle.wanted_locale.specs.declared.tables.Tables.{Tables}

module _ (T U : Tables) (same : T.fallbacker ≡ U.fallbacker)
    (wanted_along : (text : List ℕ) (l : Locale) → IsWantedOf T.registry text l
    → IsWantedOf U.registry text l)
    (cause_along : (text : List ℕ) (cause : TagCause) → IsTagCause T.registry text cause
    → IsTagCause U.registry text cause) where
  -- a tag's locale
  locale_along : (text : List ℕ) (l : Locale) → IsLocaleOf T text l → IsLocaleOf U text l
  locale_along text l h = record {
    wanted = h.wanted;
    wants = wanted_along text h.wanted h.wants;
    normalised = h.normalised ∙ ap (λ F. normal F.likely Language h.wanted) same;
  }

  -- what a bundle means
  means_along : (text : BundleText) (b : Meaning) → Means T text b → Means U text b
  means_along text b h = record {
    locale = locale_along (encode_utf8_all text.tag) b.locale h.locale;
    messages = h.messages;
    patterns = h.patterns;
  }

  -- and what bundles do
  all_along : (texts : List BundleText) (bs : List Meaning) → AllMean T texts bs
      → AllMean U texts bs
  all_along [] [] h = h
  all_along [] (b ∷ bs) h = h
  all_along (t ∷ ts) [] h = h
  all_along (t ∷ ts) (b ∷ bs) h = (means_along t b h.0, all_along ts bs h.1)

  bundles_along : (texts : List BundleText) (bs : List Meaning) → AreBundles T texts bs
      → AreBundles U texts bs
  bundles_along texts bs h = record { mean = all_along texts bs h.mean; apart = h.apart }

  -- what is accepted
  pub accepted_along : (texts : List BundleText) (root : PatternTexts) (bs : List Meaning)
      (p : Patterns)
      → AreAccepted T texts root bs p → AreAccepted U texts root bs p
  accepted_along texts root bs p h =
      record { bundles = bundles_along texts bs h.bundles; root_patterns = h.root_patterns }

  -- what is wrong with a bundle
  fault_along : (earlier : List Meaning) (i : ℕ) (text : BundleText) (e : RenderError)
      → IsFaultBehind T earlier i text e → IsFaultBehind U earlier i text e
  fault_along earlier i text e (in_tag {cause = cause} h is) =
      in_tag (cause_along (encode_utf8_all text.tag) cause h) is
  fault_along earlier i text e (in_catalog {l = l} h f is) =
      in_catalog (locale_along (encode_utf8_all text.tag) l h) f is
  fault_along earlier i text e (in_list {l = l} h n f is) =
      in_list (locale_along (encode_utf8_all text.tag) l h) n f is
  fault_along earlier i text e (in_locale {b = b} h any is) =
      in_locale (means_along text b h) any is

  -- what is refused
  pub refusal_along : (texts : List BundleText) (root : PatternTexts) (e : RenderError)
      → IsRefusal T texts root e → IsRefusal U texts root e
  refusal_along texts root e (in_bundles f) = in_bundles (record {
    i = f.i;
    text = f.text;
    text_is = f.text_is;
    earlier = f.earlier;
    before = bundles_along (take f.i texts) f.earlier f.before;
    fault = fault_along f.earlier f.i f.text e f.fault;
  })
  refusal_along texts root e (in_root {bs = bs} h f is) = in_root (bundles_along texts bs h) f is
