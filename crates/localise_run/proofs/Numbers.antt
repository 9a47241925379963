-- What is counted of made requests, and the three lines of it.
use Rattle.std.proofs.Common.{◌≡◌, ◌≢◌, ℕ, ◌-◌, ◌^◌, min, List, [], Some, length, take, refl, sym}
use Rattle.std.proofs.Common.{ap, ◌∙◌, subst, Bool, true, false, arith}
use Rattle.std.specs.Prelude.{slice_get}
use Rattle.std.proofs.Math.Seq.{take-length}
use Rattle.icu_list.specs.Patterns.{Patterns}
use Rattle.localise.specs.Meaning.{Meaning}
use Rattle.localise_run.proofs.Written.{WroteTo}
use Rattle.localise_run.specs.Causes.{status_of_sink, status_of_tag}
use Rattle.localise_run.specs.Generating.{AreCounted, AreGenerated, AreNumbers, AreUncounted}
use Rattle.localise_run.specs.Generating.{AreVisited, all, refused, stopped, no_memory}
use Rattle.localise_run.specs.Rendering.{IsLine, IsLineFault, in_tag}
use Rattle.localise_run.specs.Requests.{AreLines, up_to}
use Rattle.localise_run.specs.Requests.{all as all_lines}
use Rattle.localise_run.specs.Run.{Gives, in_output, untouched, written}
use Rattle.localise_run.specs.Wanting.{HasTagCause}
use Rattle.localise_run.specs.Writing.{FailsLine, GetsNone}
use Rattle.localise_status.specs.declared.status.RequestCause.{RequestCause}
use Rattle.localise_status.specs.declared.status.RequestCause.TheVariants.{Tag}
use Rattle.localise_status.specs.declared.status.Status.{Status}
use Rattle.localise_status.specs.declared.status.Status.TheVariants.{Done, BadWords, NotJson, Shape}
use Rattle.localise_status.specs.declared.status.Status.TheVariants.{Table, Bundle, DuplicateLocale}
use Rattle.localise_status.specs.declared.status.Status.TheVariants.{Root, Request as OfRequest}
use Rattle.localise_status.specs.declared.status.Status.TheVariants.{ReadFault, WriteFault}
use Rattle.localise_status.specs.declared.status.Status.TheVariants.{NoMemory, TooLong}
use Rattle.localise_texts.specs.declared.request.Request.{Request}
use Rattle.wanted_locale.specs.declared.error.TagCause.{TagCause}
use Rattle.wanted_locale.specs.declared.error.TagCause.TheVariants as wanted
use Rattle.wanted_locale.specs.declared.tables.Tables.{Tables}
use Rattle.writeable_core.specs.Hint.{byte_length}
use Rattle.writeable_core.specs.Sink.{Rose, TookPrefix}
use Rattle.writeable_core.specs.declared.sink.SinkError.{SinkError}
use Rattle.writeable_core.specs.declared.sink.SinkError.TheVariants as sink
use Rattle.writeable_sinks.specs.CountSink.{Counts, counted}

module _ (T : Tables) (bundles : List Meaning) (root : Patterns) (qs : List Request) where
  -- the lines in front of request i are counted
  abbrev pub CountsTo : ℕ → ℕ → Type 0
  CountsTo i now = WroteTo Counts (IsLine T bundles root) (IsLineFault T bundles root) qs 0 i now

  -- request i gets no line
  pub uncounted_at : (i now : ℕ) (q : Request) (cause : RequestCause) → CountsTo i now
      → slice_get qs i ≡ Some q
      → IsLineFault T bundles root q cause → AreUncounted T bundles root qs (OfRequest i cause)
  uncounted_at i now q cause w is fault =
      stopped
      (up_to (record { request = q; request_is = is; before = w.lines; fault = fault }) refl)
      (λ same. cc)

  -- its tag asks for no locale, or memory ran out
  pub uncounted_tag : (i now : ℕ) (q : Request) (cause : TagCause) → CountsTo i now
      → slice_get qs i ≡ Some q
      → (cause ≢ wanted.NoMemory → HasTagCause T q (Tag cause))
      → AreUncounted T bundles root qs (status_of_tag i cause)
  uncounted_tag i now q wanted.NoMemory w is fault = no_memory refl
  uncounted_tag i now q (wanted.Parse f) w is fault =
      uncounted_at i now q (Tag (wanted.Parse f)) w is (in_tag (fault (λ e. cc)))
  uncounted_tag i now q (wanted.Canonical f) w is fault =
      uncounted_at i now q (Tag (wanted.Canonical f)) w is (in_tag (fault (λ e. cc)))
  uncounted_tag i now q (wanted.Identifier f) w is fault =
      uncounted_at i now q (Tag (wanted.Identifier f)) w is (in_tag (fault (λ e. cc)))

  -- its line fails, which the counting sink never does
  pub uncounted_line : (i now new : ℕ) (q : Request) (status : Status) → CountsTo i now
      → slice_get qs i ≡ Some q
      → FailsLine Counts (IsLine T bundles root) (IsLineFault T bundles root)
      (written (λ (n : ℕ). 0) (λ (n : ℕ). false) now new) i q status
      → AreUncounted T bundles root qs status
  uncounted_line i now new q Done w is f = none f
    where
      none : GetsNone Counts (IsLine T bundles root) (IsLineFault T bundles root)
          (written (λ (n : ℕ). 0) (λ (n : ℕ). false) now new) i q Done
          → AreUncounted T bundles root qs Done
      none g = let same = g.status_is in cc
  uncounted_line i now new q (OfRequest j c) w is f =
      subst (AreUncounted T bundles root qs) (sym f.status_is)
      (uncounted_at i now q f.cause w is f.fault)
  uncounted_line i now new q WriteFault w is f = absurd (omega (arith, f.0))
  uncounted_line i now new q NoMemory w is f = no_memory refl
  uncounted_line i now new q BadWords w is f = absurd f
  uncounted_line i now new q NotJson w is f = absurd f
  uncounted_line i now new q (Shape place) w is f = absurd f
  uncounted_line i now new q (Table cause) w is f = absurd f
  uncounted_line i now new q (Bundle j cause) w is f = absurd f
  uncounted_line i now new q (DuplicateLocale j) w is f = absurd f
  uncounted_line i now new q (Root fault) w is f = absurd f
  uncounted_line i now new q ReadFault w is f = absurd f
  uncounted_line i now new q TooLong w is f = absurd f

  -- the bytes from nothing on
  bytes_counted : (n : ℕ) → counted 0 n ≡ min n (2 ^ 64 - 1)
  bytes_counted n = omega arith

  -- each has a line
  pub counted_all : (n now visited : ℕ) → n ≡ length qs → CountsTo n now
      → AreVisited T bundles root (take n qs) visited
      → AreCounted T bundles root qs (record { requests = n; bytes = now; visited = visited })
  counted_all n now visited is w v =
      let whole : take n qs ≡ qs = ap (λ (m : ℕ). take m qs) is ∙ take-length qs in
      record {
        lines = w.text;
        are_lines =
            subst
            (λ (ps : List Request).
            AreLines (IsLine T bundles root) (IsLineFault T bundles root) ps w.text)
            whole w.lines;
        requests_are = is;
        bytes_are = w.taken ∙ bytes_counted (byte_length w.text);
        visited_are = subst (λ (ps : List Request). AreVisited T bundles root ps visited) whole v;
      }

  -- there are none
  pub counted_none : qs ≡ []
      → AreCounted T bundles root qs (record { requests = 0; bytes = 0; visited = 0 })
  counted_none is =
      subst
      (λ (ps : List Request).
      AreCounted T bundles root ps (record { requests = 0; bytes = 0; visited = 0 }))
      (sym is)
      (record {
        lines = [];
        are_lines = refl;
        requests_are = refl;
        bytes_are = refl;
        visited_are = refl;
      })

  -- ---- the three lines

  module _ {O : Type 0} (took : O → List ℕ → O → Type 0) (faults : O → ℕ) (takes_memory : O → Bool)
      (old : O) where
    abbrev GivesNumbers : O → Status → Type 0
    GivesNumbers new status =
        Gives took (AreGenerated T bundles root qs) (AreNumbers T bundles root qs)
        (written faults takes_memory old new) status

    -- the numbers were written
    pub wrote_numbers : (new : O) (text : List ℕ) → AreNumbers T bundles root qs text
        → took old text new → GivesNumbers new Done
    wrote_numbers new text are taken = record { text = text; is = all are refl; taken = taken }

    -- the sink failed in them
    pub numbers_failing : (new : O) (text : List ℕ) (error : SinkError)
        → AreNumbers T bundles root qs text → TookPrefix took old text new
        → (error ≡ sink.Fault → Rose (faults old) (faults new))
        → (error ≡ sink.NoMemory → takes_memory old ≡ true)
        → GivesNumbers new (status_of_sink error)
    numbers_failing new text sink.Fault are front rose takes =
        (rose refl, record { text = text; begins = are; front = front })
    numbers_failing new text sink.NoMemory are front rose takes =
        in_output (takes refl) (record { text = text; begins = are; front = front })

    -- there are none, and nothing is written
    pub no_numbers : (status : Status) → took old [] old → AreUncounted T bundles root qs status
        → GivesNumbers old status
    no_numbers status nothing (no_memory is) = subst (GivesNumbers old) (sym is) (untouched refl)
    no_numbers status nothing (stopped (all_lines h is) not) = absurd (not is)
    no_numbers status nothing (stopped (up_to {i = i} {cause = c} h is) not) =
        subst (GivesNumbers old) (sym is)
        (record { text = []; is = refused (up_to h refl) (λ same. cc) refl; taken = nothing })
