-- The one answer of an input to a command: a status, and the text that is appended.
use Rattle.std.specs.Prelude.{◌≡◌, ◌≢◌, ◌<◌, ◌≤◌, ℕ, List, [], length, None}
use Rattle.icu_list.specs.Patterns.{Patterns}
use Rattle.localise.specs.Bundles.{AreAccepted, IsRefusal}
use Rattle.localise.specs.Meaning.{Meaning}
use Rattle.localise.specs.declared.error.RenderError.{RenderError}
use Rattle.localise.specs.declared.error.RenderError.TheVariants as refusals
use Rattle.localise_document.specs.Contents.{Contents}
use Rattle.localise_document.specs.Document.{IsDocument, IsMisshapen, json_of}
use Rattle.localise_document.specs.declared.place.ShapePlace.{ShapePlace}
use Rattle.localise_run.specs.Generating.{AreGenerated, AreNumbers, made}
use Rattle.localise_run.specs.Rendering.{AreRendered, BeginRendered}
use Rattle.localise_run.specs.Tables.{HasTables, IsTableFault}
use Rattle.localise_run.specs.Walking.{AreWalked, BeginWalked}
use Rattle.localise_run.specs.declared.command.Command.{Command}
use Rattle.localise_run.specs.declared.command.Command.TheVariants.{Render, Walk, Generate}
use Rattle.localise_status.specs.declared.status.Status.{Status}
use Rattle.localise_status.specs.declared.status.Status.TheVariants as status
use Rattle.localise_status.specs.declared.status.TableCause.{TableCause}
use Rattle.localise_texts.specs.declared.bundle.BundleText.{BundleText}
use Rattle.localise_texts.specs.declared.patterns.PatternTexts.{PatternTexts}
use Rattle.localise_texts.specs.declared.request.Request.{Request}
use Rattle.reading.specs.Reading.{most_bytes}
use Rattle.wanted_locale.specs.declared.tables.Tables.{Tables}

-- the status of a refusal of bundles or root
abbrev pub status_of : RenderError → Status
status_of (refusals.Bundle i cause) = status.Bundle i cause
status_of (refusals.DuplicateLocale i) = status.DuplicateLocale i
status_of (refusals.Root fault) = status.Root fault
status_of (refusals.Tag cause) = status.NoMemory
status_of refusals.ChainLoops = status.NoMemory
status_of refusals.Sink = status.NoMemory
status_of refusals.NoMemory = status.NoMemory

-- the status of bundles or a root that are refused, or of want of memory
pub record IsRefusedBy (T : Tables) (bundles : List BundleText) (root : PatternTexts)
    (answer : Status) : Type 0 where
  pub refusal : RenderError
  pub is : refusal ≢ refusals.NoMemory → IsRefusal T bundles root refusal
  pub status_is : answer ≡ status_of refusal

-- what a command makes of requests over tables, bundles and root
abbrev pub IsMade : Command → Tables → List Meaning → Patterns → List Request → Status
    → List ℕ → Type 0
IsMade Render T bundles root requests status text = AreRendered T bundles root requests status text
IsMade Walk T bundles root requests status text = AreWalked T requests status text
IsMade (Generate n) T bundles root requests status text =
    AreGenerated T bundles root (made requests 0 n) status text

-- what begins the text that a command makes: the lines of some requests in front, or the three
-- lines
abbrev pub Begins : Command → Tables → List Meaning → Patterns → List Request → List ℕ → Type 0
Begins Render T bundles root requests text = BeginRendered T bundles root requests text
Begins Walk T bundles root requests text = BeginWalked T requests text
Begins (Generate n) T bundles root requests text =
    AreNumbers T bundles root (made requests 0 n) text

-- the answer of a document: the first of a faulty table, a faulty bundle, a faulty root, and what
-- its requests are answered
pub data IsAnswer (command : Command) (d : Contents) (answer : Status) (text : List ℕ) :
    Type 0 where
  in_tables : {cause : TableCause} → IsTableFault d cause → answer ≡ status.Table cause → text ≡ []
      → IsAnswer command d answer text
  in_bundles : {T : Tables} {refusal : RenderError} → HasTables d T
      → IsRefusal T d.bundles d.root refusal
      → answer ≡ status_of refusal → text ≡ [] → IsAnswer command d answer text
  in_requests : {T : Tables} {bundles : List Meaning} {root : Patterns} → HasTables d T
      → AreAccepted T d.bundles d.root bundles root
      → IsMade command T bundles root d.requests answer text
      → IsAnswer command d answer text

-- the answer of bytes: the first of too long, no JSON, no document, and the answer of the document
pub data Says (command : Command) (bytes : List ℕ) (answer : Status) (text : List ℕ) : Type 0 where
  too_long : most_bytes < length bytes → answer ≡ status.TooLong → text ≡ []
      → Says command bytes answer text
  not_json : length bytes ≤ most_bytes → json_of bytes ≡ None → answer ≡ status.NotJson → text ≡ []
      → Says command bytes answer text
  misshapen : {place : ShapePlace} → length bytes ≤ most_bytes → IsMisshapen bytes place
      → answer ≡ status.Shape place
      → text ≡ [] → Says command bytes answer text
  document : {d : Contents} → length bytes ≤ most_bytes → IsDocument bytes d
      → IsAnswer command d answer text
      → Says command bytes answer text

-- a text that begins what is appended of a document, whose tables, bundles and root are accepted
pub record IsBegun (command : Command) (d : Contents) (text : List ℕ) : Type 0 where
  pub T : Tables
  pub tables : HasTables d T
  pub bundles : List Meaning
  pub root : Patterns
  pub accepted : AreAccepted T d.bundles d.root bundles root
  pub begins : Begins command T bundles root d.requests text

-- a text that begins what is appended of bytes
pub record SaysFirst (command : Command) (bytes text : List ℕ) : Type 0 where
  pub within : length bytes ≤ most_bytes
  pub d : Contents
  pub document : IsDocument bytes d
  pub begun : IsBegun command d text
