-- What a run gives, from its document's tables up to the bytes and the words.
use Rattle.std.proofs.Common.{◌≡◌, ◌≢◌, ◌⊎◌, ℕ, ◌+◌, ◌≤◌, ◌<◌, List, [], ◌++◌, Option, Some, None}
use Rattle.std.proofs.Common.{Ok, Err, Result, Bool, length, String, Global, refl, sym, subst, inl}
use Rattle.std.proofs.Common.{inr, arith, ◌∙◌}
use Rattle.std.specs.Prelude.{IfSome, OnErr, OnOk, replicate}
use Rattle.std.proofs.lemmas.List.{append-nil, length-replicate}
use Rattle.icu_list.specs.Patterns.{Patterns}
use Rattle.localise.specs.Bundles.{AreAccepted, IsRefusal}
use Rattle.localise.specs.Meaning.{Meaning}
use Rattle.localise.specs.declared.error.RenderError.{RenderError}
use Rattle.localise.specs.declared.error.RenderError.TheVariants as refusals
use Rattle.localise_document.specs.Contents.{Contents}
use Rattle.localise_document.specs.Document.{IsDocument, IsDocumentFault}
use Rattle.localise_document.specs.declared.error.DocumentError.{DocumentError}
use Rattle.localise_document.specs.declared.error.DocumentError.TheVariants as documents
use Rattle.localise_run.proofs.Written.{gives_along}
use Rattle.localise_run.specs.Answers.{Begins, IsAnswer, IsBegun, IsMade, IsRefusedBy, Says}
use Rattle.localise_run.specs.Answers.{SaysFirst, document, in_bundles, in_requests, in_tables}
use Rattle.localise_run.specs.Answers.{misshapen, not_json, status_of, too_long}
use Rattle.localise_run.specs.Causes.{status_of_document, status_of_reading, status_of_sink}
use Rattle.localise_run.specs.Commands.{IsCommand}
use Rattle.localise_run.specs.Laws.{OneAnswer}
use Rattle.localise_run.specs.Run.{AreRead, Appended, Gives, GivesRead, IsFlushed, Runs, Written}
use Rattle.localise_run.specs.Run.{failed, flushed, no_memory, untouched, written}
use Rattle.localise_run.specs.Tables.{HasTables, IsTableStatus, faulty}
use Rattle.localise_run.specs.Tables.{no_memory as no_table_memory}
use Rattle.localise_run.specs.declared.command.Command.{Command}
use Rattle.localise_run.specs.declared.command.Command.TheVariants.{Render, Walk, Generate}
use Rattle.localise_status.specs.Classes.{IsFailure, class_of}
use Rattle.localise_status.specs.FaultLines.{IsReported, whole, front}
use Rattle.localise_status.specs.declared.status.Status.{Status}
use Rattle.localise_status.specs.declared.status.Status.TheVariants.{Done, BadWords, NotJson, Shape}
use Rattle.localise_status.specs.declared.status.Status.TheVariants.{Table, Bundle, DuplicateLocale}
use Rattle.localise_status.specs.declared.status.Status.TheVariants.{Root, Request as OfRequest}
use Rattle.localise_status.specs.declared.status.Status.TheVariants.{ReadFault, WriteFault}
use Rattle.localise_status.specs.declared.status.Status.TheVariants.{NoMemory, TooLong}
use Rattle.reading.specs.Reading.{IsReadError, most_bytes}
use Rattle.reading.specs.declared.error.ReadError.{ReadError}
use Rattle.reading.specs.declared.error.ReadError.TheVariants as unread
use Rattle.wanted_locale.specs.declared.tables.Tables.{Tables}
use Rattle.writeable_core.specs.Sink.{HasCause, Rose, TookPrefix}
use Rattle.writeable_core.specs.declared.sink.SinkError.{SinkError}
use Rattle.writeable_core.specs.declared.sink.SinkError.TheVariants as sink

-- ---- over a document

module _ {O : Type 0} (took : O → List ℕ → O → Type 0) (faults : O → ℕ) (takes_memory : O → Bool)
    (command : Command) (d : Contents) where
  abbrev GivesAnswer : O → O → Status → Type 0
  GivesAnswer old new status =
      Gives took (IsAnswer command d) (IsBegun command d)
      (written faults takes_memory old new) status

  -- a row of its tables is faulty, or memory ran out
  pub tables_fail : (o : O) (status : Status) → IsTableStatus d status → GivesAnswer o o status
  tables_fail o status (faulty {cause = c} fault is) =
      subst (GivesAnswer o o) (sym is) (in_tables fault refl refl, refl)
  tables_fail o status (no_table_memory is) = subst (GivesAnswer o o) (sym is) (untouched refl)

  -- bundles or a root are refused, or memory ran out
  refusal_fails : (o : O) (T : Tables) (e : RenderError) → HasTables d T
      → (e ≢ refusals.NoMemory → IsRefusal T d.bundles d.root e) → GivesAnswer o o (status_of e)
  refusal_fails o T (refusals.Bundle i cause) tables is =
      (in_bundles tables (is (λ same. cc)) refl refl, refl)
  refusal_fails o T (refusals.DuplicateLocale i) tables is =
      (in_bundles tables (is (λ same. cc)) refl refl, refl)
  refusal_fails o T (refusals.Root fault) tables is =
      (in_bundles tables (is (λ same. cc)) refl refl, refl)
  refusal_fails o T (refusals.Tag cause) tables is = untouched refl
  refusal_fails o T refusals.ChainLoops tables is = untouched refl
  refusal_fails o T refusals.Sink tables is = untouched refl
  refusal_fails o T refusals.NoMemory tables is = untouched refl

  -- and so the document's answer is
  pub bundles_fail : (o : O) (T : Tables) (status : Status) → HasTables d T
      → IsRefusedBy T d.bundles d.root status → GivesAnswer o o status
  bundles_fail o T status tables refused =
      subst (GivesAnswer o o) (sym refused.status_is)
      (refusal_fails o T refused.refusal tables refused.is)

  -- what the command makes of its requests is its answer
  pub requests_give : (old new : O) (T : Tables) (bundles : List Meaning) (root : Patterns)
      (status : Status) → HasTables d T
      → AreAccepted T d.bundles d.root bundles root
      → Gives took (IsMade command T bundles root d.requests)
      (Begins command T bundles root d.requests) (written faults takes_memory old new) status
      → GivesAnswer old new status
  requests_give old new T bundles root status tables accepted g =
      gives_along took (IsMade command T bundles root d.requests) (IsAnswer command d)
      (Begins command T bundles root d.requests) (IsBegun command d)
      (written faults takes_memory old new)
      (λ (s : Status) (text : List ℕ) made. in_requests tables accepted made)
      (λ (text : List ℕ) begins.
      record {
        T = T;
        tables = tables;
        bundles = bundles;
        root = root;
        accepted = accepted;
        begins = begins;
      })
      status g

-- ---- over bytes

module _ {O : Type 0} (took : O → List ℕ → O → Type 0) (faults : O → ℕ) (takes_memory : O → Bool)
    (command : Command) (bytes : List ℕ) where
  abbrev GivesSaid : O → O → Status → Type 0
  GivesSaid old new status =
      Gives took (Says command bytes) (SaysFirst command bytes)
      (written faults takes_memory old new) status

  -- they are no document, or memory ran out
  pub document_fails : (o : O) (e : DocumentError) → length bytes ≤ most_bytes
      → (e ≢ documents.NoMemory → IsDocumentFault bytes e)
      → GivesSaid o o (status_of_document e)
  document_fails o documents.NotJson within is = (not_json within (is (λ same. cc)) refl refl, refl)
  document_fails o (documents.Shape place) within is =
      (misshapen within (is (λ same. cc)) refl refl, refl)
  document_fails o documents.NoMemory within is = untouched refl

  -- the answer of the document is theirs
  pub document_gives : (old new : O) (d : Contents) (status : Status) → length bytes ≤ most_bytes
      → IsDocument bytes d
      → Gives took (IsAnswer command d) (IsBegun command d)
      (written faults takes_memory old new) status → GivesSaid old new status
  document_gives old new d status within is g =
      gives_along took (IsAnswer command d) (Says command bytes) (IsBegun command d)
      (SaysFirst command bytes) (written faults takes_memory old new)
      (λ (s : Status) (text : List ℕ) answer. document within is answer)
      (λ (text : List ℕ) begun. record { within = within; d = d; document = is; begun = begun })
      status g

-- ---- over a source

-- bytes that were read are those that were told
told : (left : Option (List ℕ)) (bytes : List ℕ) → IfSome left (λ t. bytes ≡ t) → AreRead left bytes
told None bytes h = tt
told (Some t) bytes h = sym h

module _ {O : Type 0} (took : O → List ℕ → O → Type 0) (faults : O → ℕ) (takes_memory : O → Bool)
    (command : Command) (left : Option (List ℕ)) (before now : ℕ) where
  abbrev RunsTo : O → O → Status → Type 0
  RunsTo old new status =
      Runs took command left before now (written faults takes_memory old new)
      (class_of status) status

  given : (old new : O) (bytes : List ℕ) (status : Status) → IfSome left (λ t. bytes ≡ t)
      → Gives took (Says command bytes) (SaysFirst command bytes)
      (written faults takes_memory old new) status
      → GivesRead took command left (written faults takes_memory old new) status
  given old new bytes status all g = record { bytes = bytes; read = told left bytes all; gives = g }

  -- all bytes were read
  pub bytes_run : (old new : O) (bytes : List ℕ) (status : Status) → IfSome left (λ t. bytes ≡ t)
      → Gives took (Says command bytes) (SaysFirst command bytes)
      (written faults takes_memory old new) status → RunsTo old new status
  bytes_run old new bytes Done all g = given old new bytes Done all g
  bytes_run old new bytes BadWords all g = absurd g
  bytes_run old new bytes NotJson all g = given old new bytes NotJson all g
  bytes_run old new bytes (Shape place) all g = given old new bytes (Shape place) all g
  bytes_run old new bytes (Table cause) all g = given old new bytes (Table cause) all g
  bytes_run old new bytes (Bundle i cause) all g = given old new bytes (Bundle i cause) all g
  bytes_run old new bytes (DuplicateLocale i) all g = given old new bytes (DuplicateLocale i) all g
  bytes_run old new bytes (Root fault) all g = given old new bytes (Root fault) all g
  bytes_run old new bytes (OfRequest i cause) all g = given old new bytes (OfRequest i cause) all g
  bytes_run old new bytes ReadFault all g = absurd g
  bytes_run old new bytes WriteFault all g = given old new bytes WriteFault all g
  bytes_run old new bytes NoMemory all g = given old new bytes NoMemory all g
  bytes_run old new bytes TooLong all g = given old new bytes TooLong all g

-- bytes don't say that words are no command
pub never_words :
    {O : Type 0} (took : O → List ℕ → O → Type 0) (Says : Status → List ℕ → Type 0)
    (First : List ℕ → Type 0) (x : Written O)
    (status : Status) → Gives took Says First x status → status ≡ BadWords → ⊥
never_words took Says First x status g same = subst (Gives took Says First x) same g

-- bytes that a source may have had, if it has told none
some_read : (left : Option (List ℕ)) → (bytes : List ℕ) × AreRead left bytes
some_read None = ([], tt)
some_read (Some t) = (t, refl)

-- and more than are read
some_long : (most : ℕ) (left : Option (List ℕ)) → IfSome left (λ t. most < length t)
    → (bytes : List ℕ) × AreRead left bytes × (most < length bytes)
some_long most None h =
    (replicate (most + 1) 0, tt, omega (arith, length-replicate {A = ℕ} (most + 1) 0))
some_long most (Some t) h = (t, refl, h)

module _ {O : Type 0} (took : O → List ℕ → O → Type 0) (faults : O → ℕ) (takes_memory : O → Bool)
    (command : Command) (left : Option (List ℕ)) (before now : ℕ) where
  -- reading failed
  pub reading_runs : (o : O) (e : ReadError) → IsReadError most_bytes before now left e
      → RunsTo took faults takes_memory command left before now o o (status_of_reading e)
  reading_runs o unread.Fault is = (is, refl)
  reading_runs o unread.TooLong is =
      let long = some_long most_bytes left is in
      record { bytes = long.0; read = long.1; gives = (too_long long.2 refl refl, refl) }
  reading_runs o unread.NoMemory is =
      let some = some_read left in
      record { bytes = some.0; read = some.1; gives = untouched refl }

-- ---- over words

-- words are one command
pub one_command : (words : List (String Global)) (a b : Command) → IsCommand words a
    → IsCommand words b → a ≡ b
one_command words = by
  where
    by : (a b : Command) → IsCommand words a → IsCommand words b → a ≡ b
    by Render Render h g = refl
    by Render Walk h g = cc
    by Render (Generate n) h g = let is = g.2 in cc
    by Walk Render h g = cc
    by Walk Walk h g = refl
    by Walk (Generate n) h g = let is = g.2 in cc
    by (Generate n) Render h g = let is = h.2 in cc
    by (Generate n) Walk h g = let is = h.2 in cc
    by (Generate n) (Generate m) h g =
        let digits : h.0 ≡ g.0 = let is = h.2 in let so = g.2 in cc in
        let value = h.1.number in
        let other = g.1.number in
        cc

-- ---- what a run's answer says

module _ {O : Type 0} (took : O → List ℕ → O → Type 0) (faults : O → ℕ) (takes_memory : O → Bool)
    (command : Command) (left : Option (List ℕ)) (before now : ℕ) (old new : O) where
  abbrev Ran : Status → Type 0
  Ran status = RunsTo took faults takes_memory command left before now old new status

  -- `Done`: the bytes are answered so, and the lines were appended
  pub headline : (held : O → Option (List ℕ))
      → ((a b : O) (t h : List ℕ) → took a t b → held a ≡ Some h → held b ≡ Some (h ++ t))
      → (status : Status) → status ≡ Done → Ran status
      → (bytes : List ℕ) × AreRead left bytes
      × ((lines : List ℕ) × Says command bytes Done lines × Appended took held old lines new)
  headline held took_held status done ran =
      let r : Ran Done = subst Ran done ran in (
        r.bytes,
        r.read,
        (
          r.gives.text,
          r.gives.is,
          record {
            taken = r.gives.taken;
            told = λ (h : List ℕ) is. took_held old new r.gives.text h r.gives.taken is;
          },
        ),
      )

  -- and so behind a flush
  pub headline_flushed : (held : O → Option (List ℕ))
      → ((a b : O) (t h : List ℕ) → took a t b → held a ≡ Some h → held b ≡ Some (h ++ t))
      → ((a b c : O) (s t : List ℕ) → took a s b → took b t c → took a (s ++ t) c)
      → (flushes : O → O → Type 0) (behind : O) (answer status : Status)
      → status ≡ Done → Ran answer
      → IsFlushed took faults takes_memory flushes new behind answer status
      → (bytes : List ℕ) × AreRead left bytes
      × ((lines : List ℕ) × Says command bytes Done lines × Appended took held old lines behind)
  headline_flushed held took_held took_both flushes behind answer status done ran
      (flushed taken all same) =
      let r : Ran Done = subst Ran (sym same ∙ done) ran in
      let whole : took old r.gives.text behind =
      subst (λ (t : List ℕ). took old t behind) (append-nil r.gives.text)
      (took_both old new behind r.gives.text [] r.gives.taken taken) in (
        r.bytes,
        r.read,
        (
          r.gives.text,
          r.gives.is,
          record {
            taken = whole;
            told = λ (h : List ℕ) is. took_held old behind r.gives.text h whole is;
          },
        ),
      )
  headline_flushed held took_held took_both flushes behind answer status done ran
      (failed taken rose same) =
      let never : WriteFault ≡ Done = sym same ∙ done in absurd cc
  headline_flushed held took_held took_both flushes behind answer status done ran
      (no_memory taken takes same) =
      let never : NoMemory ≡ Done = sym same ∙ done in absurd cc

  -- an answer that the bytes have is the answer, unless something failed
  abbrev IsTheirs : Status → Type 0
  IsTheirs status = (bytes : List ℕ) × AreRead left bytes
      × ((answer : Status) (text : List ℕ) → Says command bytes answer text
      → (status ≡ answer) ⊎ IsFailure status)

  certainly : OneAnswer → (status : Status) (bytes text : List ℕ) → AreRead left bytes
      → Says command bytes status text → IsTheirs status
  certainly one status bytes text read says =
      (bytes, read, λ answer other so. inl (one command bytes status answer text other says so).0)

  failing : (status : Status) → IsFailure status → IsTheirs status
  failing status fails =
      let some = some_read left in (some.0, some.1, λ answer text says. inr fails)

  pub exact : OneAnswer → (status : Status) → Ran status → IsTheirs status
  exact one Done r = certainly one Done r.bytes r.gives.text r.read r.gives.is
  exact one BadWords r = absurd r
  exact one NotJson r = certainly one NotJson r.bytes [] r.read r.gives.0
  exact one (Shape place) r = certainly one (Shape place) r.bytes [] r.read r.gives.0
  exact one (Table cause) r = certainly one (Table cause) r.bytes [] r.read r.gives.0
  exact one (Bundle i cause) r = certainly one (Bundle i cause) r.bytes [] r.read r.gives.0
  exact one (DuplicateLocale i) r = certainly one (DuplicateLocale i) r.bytes [] r.read r.gives.0
  exact one (Root fault) r = certainly one (Root fault) r.bytes [] r.read r.gives.0
  exact one (OfRequest i cause) r =
      certainly one (OfRequest i cause) r.bytes r.gives.text r.read r.gives.is
  exact one ReadFault r = failing ReadFault tt
  exact one WriteFault r = failing WriteFault tt
  exact one NoMemory r = failing NoMemory tt
  exact one TooLong r = certainly one TooLong r.bytes [] r.read r.gives.0

  -- of the failures only want of memory comes where no count rose
  unfailing : (status : Status) → Ran status → IsFailure status → (Rose before now → ⊥)
      → (Rose (faults old) (faults new) → ⊥) → status ≡ NoMemory
  unfailing ReadFault r fails source out = absurd (source r.0)
  unfailing WriteFault r fails source out = absurd (out r.gives.0)
  unfailing NoMemory r fails source out = refl
  unfailing Done r fails source out = absurd fails
  unfailing BadWords r fails source out = absurd fails
  unfailing NotJson r fails source out = absurd fails
  unfailing (Shape place) r fails source out = absurd fails
  unfailing (Table cause) r fails source out = absurd fails
  unfailing (Bundle i cause) r fails source out = absurd fails
  unfailing (DuplicateLocale i) r fails source out = absurd fails
  unfailing (Root fault) r fails source out = absurd fails
  unfailing (OfRequest i cause) r fails source out = absurd fails
  unfailing TooLong r fails source out = absurd fails

  -- bytes that have the answer `Done` get it, or memory ran out
  pub complete : OneAnswer → (status : Status) → Ran status
      → (bytes : List ℕ) × AreRead left bytes × ((lines : List ℕ) → Says command bytes Done lines
      → (Rose before now → ⊥) → (Rose (faults old) (faults new) → ⊥)
      → (status ≡ Done) ⊎ (status ≡ NoMemory))
  complete one status r = let theirs = exact one status r in (
    theirs.0,
    theirs.1,
    λ lines says source out. elim (theirs.2 Done lines says) [
      | inl same ↦ inl same
      | inr fails ↦ inr (unfailing status r fails source out)
    ],
  )

-- ---- what is told of it

module _ {E : Type 0} (took : E → List ℕ → E → Type 0) (faults : E → ℕ) (takes_memory : E → Bool)
    (old new : E) (line : List ℕ) where
  pub reported : (r : Result (Unit {0}) SinkError) → OnOk r (took old line new)
      → OnErr r (TookPrefix took old line new)
      → HasCause (faults old) (faults new) (takes_memory old) r
      → IsReported took faults takes_memory old line new
  reported (Ok u) ok err cause = whole ok
  reported (Err sink.Fault) ok err cause = front err (inl (cause.fault refl))
  reported (Err sink.NoMemory) ok err cause = front err (inr (cause.no_memory refl))

  -- the output was flushed, or failed then
  pub flushed_behind : (flushes : E → E → Type 0) (answer : Status) → took old [] new
      → flushes old new
      → IsFlushed took faults takes_memory flushes old new answer answer
  flushed_behind flushes answer taken all = flushed taken all refl

  pub flush_fails : (flushes : E → E → Type 0) (answer : Status) (e : SinkError) → took old [] new
      → HasCause {T = Unit {0}} (faults old) (faults new) (takes_memory old) (Err e)
      → IsFlushed took faults takes_memory flushes old new answer (status_of_sink e)
  flush_fails flushes answer sink.Fault taken cause = failed taken (cause.fault refl) refl
  flush_fails flushes answer sink.NoMemory taken cause = no_memory taken (cause.no_memory refl) refl
