-- What `render` answers: the text of one request, or why there is none.
use Rattle.std.specs.Prelude.{◌≡◌, ℕ, List, encode_utf8_all}
use Rattle.icu_list.specs.Patterns.{Patterns}
use Rattle.icu_locale_core.specs.Locale.{Locale}
use Rattle.localise.specs.Bundles.{AreAccepted, IsRefusal}
use Rattle.localise.specs.Chosen.{Answer, Answers, ComesRound, text_of}
use Rattle.localise.specs.Given.{Given, given, hint_given}
use Rattle.localise.specs.Meaning.{Meaning}
use Rattle.localise.specs.declared.error.RenderError.{RenderError}
use Rattle.localise.specs.declared.error.RenderError.TheVariants as refusals
use Rattle.localise.specs.declared.rendered.Rendered.{Rendered}
use Rattle.localise_texts.specs.declared.bundle.BundleText.{BundleText}
use Rattle.localise_texts.specs.declared.patterns.PatternTexts.{PatternTexts}
use Rattle.localise_texts.specs.declared.request.Request.{Request}
use Rattle.wanted_locale.specs.Wanted.{IsTagCause, IsWantedOf}
use Rattle.wanted_locale.specs.declared.tables.Tables.{Tables}
use Rattle.writeable_core.specs.Sink.{TookPrefix}

-- the answer that bundles give a request, for the locale that its tag asks for
pub record IsAnswered (T : Tables) (bundles : List Meaning) (root : Patterns) (q : Request)
    (a : Answer) : Type 0 where
  pub wanted : Locale
  pub wants : IsWantedOf T.registry (encode_utf8_all q.tag) wanted
  pub answers : Answers T.fallbacker bundles root wanted q a

-- why bundles give it none: its tag asks for no locale, or its walk comes round
pub data IsUnanswered (T : Tables) (bundles : List Meaning) (q : Request) (e : RenderError) :
    Type 0 where
  in_tag : {cause : _} → IsTagCause T.registry (encode_utf8_all q.tag) cause
      → e ≡ refusals.Tag cause
      → IsUnanswered T bundles q e
  in_walk : {wanted : Locale} → IsWantedOf T.registry (encode_utf8_all q.tag) wanted
      → ComesRound T.fallbacker bundles wanted q → e ≡ refusals.ChainLoops
      → IsUnanswered T bundles q e

-- what is told of what is found
abbrev pub told_of : Given → Rendered
told_of g =
    record {
      bundle = g.answer.bundle;
      locale = g.answer.locale;
      visited = g.answer.visited;
      hint = hint_given g;
    }

module _ (T : Tables) (texts : List BundleText) (root : PatternTexts) (q : Request) where
  -- bundles and root are accepted, and this is the answer to the request
  pub record HasAnswer (a : Answer) : Type 0 where
    pub bundles : List Meaning
    pub patterns : Patterns
    pub accepted : AreAccepted T texts root bundles patterns
    pub answered : IsAnswered T bundles patterns q a

  -- why there is no text: bundles or root are refused, or else the request has no answer
  pub data IsRefused (e : RenderError) : Type 0 where
    in_localiser : IsRefusal T texts root e → IsRefused e
    in_request : {bundles : List Meaning} {patterns : Patterns}
        → AreAccepted T texts root bundles patterns
        → IsUnanswered T bundles q e → IsRefused e

  module _ {S : Type 0} (took : S → List ℕ → S → Type 0) (old new : S) where
    -- the sink took the text of the answer, and this is told of it
    pub record IsRendered (rendered : Rendered) : Type 0 where
      pub answer : Answer
      pub has : HasAnswer answer
      pub told : rendered ≡ told_of (given q answer)
      pub taken : took old (text_of q answer) new

    -- the sink took nothing, or a front of the text of the answer
    pub data TookNoMore : Type 0 where
      nothing : new ≡ old → TookNoMore
      front : {answer : Answer} → HasAnswer answer
          → TookPrefix took old (text_of q answer) new → TookNoMore
