-- Requests whose tags were read.
use Rattle.std.specs.Prelude.{◌≡◌, List, Option, Some, slice_get, All, IfSome}
use Rattle.localise_run.specs.Wanting.{Wants}
use Rattle.localise_run.specs.declared.tags.Known.{Known}
use Rattle.localise_texts.specs.declared.request.Request.{Request}
use Rattle.wanted_locale.specs.declared.tables.Tables.{Tables}

-- a request of these, and the locale that its tag asks for
pub record IsKnown (T : Tables) (requests : List Request) (known : Known) : Type 0 where
  pub request : Request
  pub request_is : slice_get requests known.request ≡ Some request
  pub wants : Wants T request known.locale

-- each place has one, or nothing
abbrev pub AreKnownTags : Tables → List Request → List (Option Known) → Type 0
AreKnownTags T requests places = All (λ place. IfSome place (IsKnown T requests)) places
