-- `walk`: for each request the locales of its whole walk.
use Rattle.std.specs.Prelude.{◌≡◌, ℕ, List}
use Rattle.fallback_chain.specs.Chain.{EndsAt, chain_text}
use Rattle.icu_locale_core.specs.Locale.{Locale}
use Rattle.icu_locale_fallback.specs.Walk.{Repeats}
use Rattle.localise_run.specs.Requests.{AreAnswered, BeginLines, line_of}
use Rattle.localise_run.specs.Wanting.{HasTagCause, Wants}
use Rattle.localise_status.specs.declared.status.RequestCause.{RequestCause}
use Rattle.localise_status.specs.declared.status.RequestCause.TheVariants.{ChainLoops}
use Rattle.localise_status.specs.declared.status.Status.{Status}
use Rattle.localise_texts.specs.declared.request.Request.{Request}
use Rattle.wanted_locale.specs.declared.tables.Tables.{Tables}

module _ (T : Tables) where
  -- the line of a request: the printed locales of its walk, with a space between two
  pub record IsWalkLine (q : Request) (line : List ℕ) : Type 0 where
    pub locale : Locale
    pub wants : Wants T q locale
    pub steps : ℕ
    pub ends : EndsAt T.fallbacker locale steps
    pub line_is : line ≡ line_of (chain_text T.fallbacker locale steps)

  -- why a request gets none: its tag has no locale, or its whole walk comes round
  pub data IsWalkFault (q : Request) (cause : RequestCause) : Type 0 where
    in_tag : HasTagCause T q cause → IsWalkFault q cause
    in_walk : {l : Locale} {k : ℕ} → Wants T q l → Repeats T.fallbacker l k → cause ≡ ChainLoops
        → IsWalkFault q cause

  -- the status and the lines of all requests
  abbrev pub AreWalked : List Request → Status → List ℕ → Type 0
  AreWalked requests status lines = AreAnswered IsWalkLine IsWalkFault requests status lines

  -- the lines of some requests in front
  abbrev pub BeginWalked : List Request → List ℕ → Type 0
  BeginWalked requests lines = BeginLines IsWalkLine IsWalkFault requests lines
