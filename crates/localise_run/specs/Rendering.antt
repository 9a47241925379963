-- `render`: a localised line for each request.
use Rattle.std.specs.Prelude.{◌≡◌, ℕ, List}
use Rattle.icu_list.specs.Patterns.{Patterns}
use Rattle.icu_locale_core.specs.Locale.{Locale}
use Rattle.localise.specs.Chosen.{ComesRound, IsLocalised}
use Rattle.localise.specs.Meaning.{Meaning}
use Rattle.localise_run.specs.Requests.{AreAnswered, BeginLines, line_of}
use Rattle.localise_run.specs.Wanting.{HasTagCause, Wants}
use Rattle.localise_status.specs.declared.status.RequestCause.{RequestCause}
use Rattle.localise_status.specs.declared.status.RequestCause.TheVariants.{ChainLoops}
use Rattle.localise_status.specs.declared.status.Status.{Status}
use Rattle.localise_texts.specs.declared.request.Request.{Request}
use Rattle.wanted_locale.specs.declared.tables.Tables.{Tables}

module _ (T : Tables) (bundles : List Meaning) (root : Patterns) where
  -- the line of a request: its localised text
  pub record IsLine (q : Request) (line : List ℕ) : Type 0 where
    pub locale : Locale
    pub wants : Wants T q locale
    pub text : List ℕ
    pub localised : IsLocalised T.fallbacker bundles root locale q text
    pub line_is : line ≡ line_of text

  -- why a request gets none: its tag has no locale, or its walk comes round before a locale
  -- translates
  pub data IsLineFault (q : Request) (cause : RequestCause) : Type 0 where
    in_tag : HasTagCause T q cause → IsLineFault q cause
    in_walk : {l : Locale} → Wants T q l → ComesRound T.fallbacker bundles l q → cause ≡ ChainLoops
        → IsLineFault q cause

  -- the status and the lines of all requests
  abbrev pub AreRendered : List Request → Status → List ℕ → Type 0
  AreRendered requests status lines = AreAnswered IsLine IsLineFault requests status lines

  -- the lines of some requests in front
  abbrev pub BeginRendered : List Request → List ℕ → Type 0
  BeginRendered requests lines = BeginLines IsLine IsLineFault requests lines
