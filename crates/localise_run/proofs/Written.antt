-- What was written of the lines of requests, up to the one at which a command stops.
use Rattle.std.proofs.Common.{◌≡◌, ◌≢◌, ℕ, ◌+◌, ◌<◌, ◌≤◌, List, [], ◌++◌, Some, length, take}
use Rattle.std.proofs.Common.{get_or, refl, sym, subst, ◌∙◌, Bool, true, inl, inr}
use Rattle.std.specs.Prelude.{slice_get}
use Rattle.localise_run.proofs.Lines.{lines_more}
use Rattle.localise_run.specs.Causes.{status_of_sink, status_of_tag}
use Rattle.localise_run.specs.Requests.{AreAnswered, AreLines, BeginLines, all, up_to}
use Rattle.localise_run.specs.Run.{Gives, TookAll, TookFront, Written, behind_lines, in_output}
use Rattle.localise_run.specs.Run.{untouched, written}
use Rattle.localise_run.specs.Writing.{FailsLine, GetsNone, TookLineFront}
use Rattle.localise_status.specs.declared.status.RequestCause.{RequestCause}
use Rattle.localise_status.specs.declared.status.RequestCause.TheVariants.{Tag}
use Rattle.localise_status.specs.declared.status.Status.{Status}
use Rattle.localise_status.specs.declared.status.Status.TheVariants.{Done, BadWords, NotJson, Shape}
use Rattle.localise_status.specs.declared.status.Status.TheVariants.{Table, Bundle, DuplicateLocale}
use Rattle.localise_status.specs.declared.status.Status.TheVariants.{Root, Request as OfRequest}
use Rattle.localise_status.specs.declared.status.Status.TheVariants.{ReadFault, WriteFault}
use Rattle.localise_status.specs.declared.status.Status.TheVariants.{NoMemory, TooLong}
use Rattle.localise_texts.specs.declared.request.Request.{Request}
use Rattle.wanted_locale.specs.declared.error.TagCause.{TagCause}
use Rattle.wanted_locale.specs.declared.error.TagCause.TheVariants as wanted
use Rattle.writeable_core.specs.Sink.{Rose, TookPrefix}
use Rattle.writeable_core.specs.SinkLaws.{front_after, rose_earlier}
use Rattle.writeable_core.specs.declared.sink.SinkError.{SinkError}
use Rattle.writeable_core.specs.declared.sink.SinkError.TheVariants as sink

-- the lines of the requests before i were taken
pub record WroteTo {O : Type 0} (took : O → List ℕ → O → Type 0) (Line : Request → List ℕ → Type 0)
    (Fault : Request → RequestCause → Type 0) (qs : List Request) (old : O) (i : ℕ) (mid : O) :
    Type 0 where
  pub text : List ℕ
  pub lines : AreLines Line Fault (take i qs) text
  pub taken : took old text mid

module _ {O : Type 0} (took : O → List ℕ → O → Type 0) (faults : O → ℕ) (takes_memory : O → Bool)
    (took_both : (a b c : O) (s t : List ℕ) → took a s b → took b t c → took a (s ++ t) c)
    (took_faults : (a b : O) (t : List ℕ) → took a t b → faults a ≤ faults b)
    (took_memory : (a b : O) (t : List ℕ) → took a t b → takes_memory b ≡ takes_memory a)
    (Line : Request → List ℕ → Type 0) (Fault : Request → RequestCause → Type 0)
    (qs : List Request) where
  abbrev Wrote : O → ℕ → O → Type 0
  Wrote = WroteTo took Line Fault qs

  abbrev Given : O → O → Status → Type 0
  Given old new status =
      Gives took (AreAnswered Line Fault qs) (BeginLines Line Fault qs)
      (written faults takes_memory old new) status

  -- nothing is written yet
  pub wrote_none : (old : O) → took old [] old → Wrote old 0 old
  wrote_none old nothing = record { text = []; lines = refl; taken = nothing }

  -- one line more
  pub wrote_more : (old mid new : O) (i : ℕ) (q : Request) (line : List ℕ) → Wrote old i mid
      → i < length qs → q ≡ get_or qs i q
      → Line q line → took mid line new → Wrote old (i + 1) new
  wrote_more old mid new i q line w within is l taken = record {
    text = w.text ++ line;
    lines = lines_more Line Fault qs i q w.text line within is w.lines l;
    taken = took_both old mid new w.text line w.taken taken;
  }

  -- all lines were taken
  pub wrote_all : (old new : O) → Wrote old (length qs) new → take (length qs) qs ≡ qs
      → Given old new Done
  wrote_all old new w whole = record {
    text = w.text;
    is = all (subst (λ ps. AreLines Line Fault ps w.text) whole w.lines) refl;
    taken = w.taken;
  }

  -- a request gets no line
  pub wrote_before : (old new : O) (i : ℕ) (q : Request) (cause : RequestCause) → Wrote old i new
      → slice_get qs i ≡ Some q
      → Fault q cause → Given old new (OfRequest i cause)
  wrote_before old new i q cause w is fault = record {
    text = w.text;
    is = up_to (record { request = q; request_is = is; before = w.lines; fault = fault }) refl;
    taken = w.taken;
  }

  -- what was taken, and a front of one line more
  longer_front : (old mid new : O) (i : ℕ) (q : Request) → Wrote old i mid → i < length qs
      → q ≡ get_or qs i q
      → TookLineFront took Line Fault (written faults takes_memory mid new) i q
      → TookFront took (AreAnswered Line Fault qs) (BeginLines Line Fault qs)
      (written faults takes_memory old new)
  longer_front old mid new i q w within is f = record {
    text = w.text ++ f.line;
    begins =
        record {
          count = i + 1;
          are = lines_more Line Fault qs i q w.text f.line within is w.lines f.is;
        };
    front = front_after w.text f.line took_both w.taken f.front;
  }

  -- memory ran out before a request's line
  pub wrote_no_memory : (old new : O) (i : ℕ) → Wrote old i new → Given old new NoMemory
  wrote_no_memory old new i w =
      behind_lines
      (record { text = w.text; is = record { count = i; are = w.lines }; taken = w.taken })

  -- a request's tag asks for no locale, or memory ran out
  pub wrote_to_tag : (old new : O) (i : ℕ) (q : Request) (cause : TagCause) → Wrote old i new
      → slice_get qs i ≡ Some q
      → (cause ≢ wanted.NoMemory → Fault q (Tag cause)) → Given old new (status_of_tag i cause)
  wrote_to_tag old new i q wanted.NoMemory w is fault = wrote_no_memory old new i w
  wrote_to_tag old new i q (wanted.Parse f) w is fault =
      wrote_before old new i q (Tag (wanted.Parse f)) w is (fault (λ e. cc))
  wrote_to_tag old new i q (wanted.Canonical f) w is fault =
      wrote_before old new i q (Tag (wanted.Canonical f)) w is (fault (λ e. cc))
  wrote_to_tag old new i q (wanted.Identifier f) w is fault =
      wrote_before old new i q (Tag (wanted.Identifier f)) w is (fault (λ e. cc))

  -- a request's line failed
  pub wrote_failing : (old mid new : O) (i : ℕ) (q : Request) (status : Status) → Wrote old i mid
      → i < length qs → q ≡ get_or qs i q
      → slice_get qs i ≡ Some q
      → FailsLine took Line Fault (written faults takes_memory mid new) i q status
      → Given old new status
  wrote_failing old mid new i q Done w within is at f = stopped f
    where
      stopped : GetsNone took Line Fault (written faults takes_memory mid new) i q Done
          → Given old new Done
      stopped g = let is = g.status_is in cc
  wrote_failing old mid new i q (OfRequest j c) w within is at f =
      subst (λ s. Given old new s) (sym f.status_is)
      (wrote_before old new i q f.cause (subst (λ o. Wrote old i o) (sym f.kept) w) at f.fault)
  wrote_failing old mid new i q WriteFault w within is at f = (
    rose_earlier (faults old) (faults mid) (faults new) (took_faults old mid w.text w.taken) f.0,
    longer_front old mid new i q w within is f.1,
  )
  wrote_failing old mid new i q NoMemory w within is at (inl same) =
      wrote_no_memory old new i (subst (λ o. Wrote old i o) (sym same) w)
  wrote_failing old mid new i q NoMemory w within is at (inr f) =
      in_output (sym (took_memory old mid w.text w.taken) ∙ f.0)
      (longer_front old mid new i q w within is f.1)
  wrote_failing old mid new i q BadWords w within is at f = absurd f
  wrote_failing old mid new i q NotJson w within is at f = absurd f
  wrote_failing old mid new i q (Shape place) w within is at f = absurd f
  wrote_failing old mid new i q (Table cause) w within is at f = absurd f
  wrote_failing old mid new i q (Bundle j cause) w within is at f = absurd f
  wrote_failing old mid new i q (DuplicateLocale j) w within is at f = absurd f
  wrote_failing old mid new i q (Root fault) w within is at f = absurd f
  wrote_failing old mid new i q ReadFault w within is at f = absurd f
  wrote_failing old mid new i q TooLong w within is at f = absurd f

-- a sink failed in a request's line
module _ {O : Type 0} (took : O → List ℕ → O → Type 0) (Line : Request → List ℕ → Type 0)
    (Fault : Request → RequestCause → Type 0) (x : Written O) (i : ℕ) (q : Request) where
  pub sink_fails : (line : List ℕ) (error : SinkError) → Line q line
      → TookPrefix took x.old line x.new
      → (error ≡ sink.Fault → Rose x.faults_before x.faults_now)
      → (error ≡ sink.NoMemory → x.takes_memory ≡ true)
      → FailsLine took Line Fault x i q (status_of_sink error)
  sink_fails line sink.Fault is front rose takes =
      (rose refl, record { line = line; is = is; front = front })
  sink_fails line sink.NoMemory is front rose takes =
      inr (takes refl, record { line = line; is = is; front = front })

-- answers that are those of something larger are its answers
pub gives_along :
    {O : Type 0} (took : O → List ℕ → O → Type 0) (Says More : Status → List ℕ → Type 0)
    (First Longer : List ℕ → Type 0) (x : Written O)
    → ((status : Status) (text : List ℕ) → Says status text → More status text)
    → ((text : List ℕ) → First text → Longer text)
    → (status : Status) → Gives took Says First x status → Gives took More Longer x status
gives_along took Says More First Longer x says first = by
  where
    all_along : {Is Also : List ℕ → Type 0} → ((text : List ℕ) → Is text → Also text)
        → TookAll took x Is → TookAll took x Also
    all_along also t = record { text = t.text; is = also t.text t.is; taken = t.taken }

    text_along : (status : Status) → TookAll took x (Says status) → TookAll took x (More status)
    text_along status t = all_along (says status) t

    front_along : TookFront took Says First x → TookFront took More Longer x
    front_along t = record { text = t.text; begins = first t.text t.begins; front = t.front }

    by : (status : Status) → Gives took Says First x status → Gives took More Longer x status
    by Done g = text_along Done g
    by BadWords g = absurd g
    by NotJson g = (says NotJson [] g.0, g.1)
    by (Shape place) g = (says (Shape place) [] g.0, g.1)
    by (Table cause) g = (says (Table cause) [] g.0, g.1)
    by (Bundle i cause) g = (says (Bundle i cause) [] g.0, g.1)
    by (DuplicateLocale i) g = (says (DuplicateLocale i) [] g.0, g.1)
    by (Root fault) g = (says (Root fault) [] g.0, g.1)
    by (OfRequest i cause) g = text_along (OfRequest i cause) g
    by ReadFault g = absurd g
    by WriteFault g = (g.0, front_along g.1)
    by NoMemory (untouched same) = untouched same
    by NoMemory (behind_lines t) = behind_lines (all_along first t)
    by NoMemory (in_output takes front) = in_output takes (front_along front)
    by TooLong g = (says TooLong [] g.0, g.1)
