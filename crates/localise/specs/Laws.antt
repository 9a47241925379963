-- Laws of bundles and walks, as statements.
use Rattle.std.specs.Prelude.{◌≡◌, List}
use Rattle.icu_list.specs.Patterns.{Patterns}
use Rattle.icu_locale_core.specs.Locale.{Locale}
use Rattle.icu_locale_fallback.specs.Tables as fallback
use Rattle.language_tags.specs.Laws as tags
use Rattle.localise.specs.Bundles.{AreAccepted, IsRefusal}
use Rattle.localise.specs.Chosen.{Answer, Answers, ComesRound, IsOutcome, Outcome}
use Rattle.localise.specs.Meaning.{Meaning}
use Rattle.localise.specs.declared.error.RenderError.{RenderError}
use Rattle.localise_texts.specs.declared.bundle.BundleText.{BundleText}
use Rattle.localise_texts.specs.declared.patterns.PatternTexts.{PatternTexts}
use Rattle.localise_texts.specs.declared.request.Request.{Request}
use Rattle.wanted_locale.specs.declared.tables.Tables.{Tables}

-- bundles and a root that nothing refuses mean one thing
abbrev pub OneMeaning : Type 0
OneMeaning =
    (T : Tables) (texts : List BundleText) (root : PatternTexts) (bs cs : List Meaning)
    (p r : Patterns) →
    AreAccepted T texts root bs p → AreAccepted T texts root cs r → (bs ≡ cs) × (p ≡ r)

-- bundles and a root have one refusal at most
abbrev pub OneRefusal : Type 0
OneRefusal =
    (T : Tables) (texts : List BundleText) (root : PatternTexts) (e f : RenderError) →
    IsRefusal T texts root e → IsRefusal T texts root f → e ≡ f

-- and none where they are accepted
abbrev pub NeverBoth : Type 0
NeverBoth =
    (T : Tables) (texts : List BundleText) (root : PatternTexts) (bs : List Meaning) (p : Patterns)
    (e : RenderError) →
    AreAccepted T texts root bs p → ¬ (IsRefusal T texts root e)

-- the walk of a request has one outcome at most
abbrev pub OneOutcome : Type 0
OneOutcome =
    (F : fallback.Tables) (bundles : List Meaning) (l : Locale) (q : Request) (o r : Outcome) →
    IsOutcome F bundles l q o → IsOutcome F bundles l q r → o ≡ r

-- a request has no answer where its walk comes round
abbrev pub NoAnswerRound : Type 0
NoAnswerRound =
    (F : fallback.Tables) (bundles : List Meaning) (root : Patterns) (l : Locale) (q : Request)
    (a : Answer) →
    Answers F bundles root l q a → ¬ (ComesRound F bundles l q)

-- tables that answer alike: their registries answer each key alike, and their fallback is one
pub record AnswerAlike (T U : Tables) : Type 0 where
  pub registry : tags.AnswerAlike T.registry U.registry
  pub fallbacker : T.fallbacker ≡ U.fallbacker

-- over tables that answer alike the same is accepted
abbrev pub AcceptedByAnswers : Type 0
AcceptedByAnswers =
    (T U : Tables) (texts : List BundleText) (root : PatternTexts) (bs : List Meaning)
    (p : Patterns) →
    AnswerAlike T U → AreAccepted T texts root bs p → AreAccepted U texts root bs p

-- and the same is refused
abbrev pub RefusedByAnswers : Type 0
RefusedByAnswers =
    (T U : Tables) (texts : List BundleText) (root : PatternTexts) (e : RenderError) →
    AnswerAlike T U → IsRefusal T texts root e → IsRefusal U texts root e
