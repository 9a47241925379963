-- Writing the line of one request.
use Rattle.std.specs.Prelude.{◌≡◌, ◌⊎◌, ℕ, List, true}
use Rattle.localise_status.specs.Classes.{Class, Words, Reading, Refused, Answered, Writing, Memory}
use Rattle.localise_status.specs.Classes.{class_of}
use Rattle.localise_run.specs.Run.{Written}
use Rattle.localise_status.specs.declared.status.RequestCause.{RequestCause}
use Rattle.localise_status.specs.declared.status.Status.{Status}
use Rattle.localise_status.specs.declared.status.Status.TheVariants.{Request as OfRequest}
use Rattle.localise_texts.specs.declared.request.Request.{Request}
use Rattle.writeable_core.specs.Sink.{Rose, TookPrefix}

-- `Line` says which line a request gets, `Fault` why it gets none; the request has the number i
module _ {O : Type 0} (took : O → List ℕ → O → Type 0) (Line : Request → List ℕ → Type 0)
    (Fault : Request → RequestCause → Type 0) (x : Written O) (i : ℕ) (q : Request) where
  -- the line was taken
  pub record TookLine : Type 0 where
    pub line : List ℕ
    pub is : Line q line
    pub taken : took x.old line x.new

  -- a front of it was
  pub record TookLineFront : Type 0 where
    pub line : List ℕ
    pub is : Line q line
    pub front : TookPrefix took x.old line x.new

  -- the request gets no line, and nothing was taken
  pub record GetsNone (status : Status) : Type 0 where
    pub cause : RequestCause
    pub fault : Fault q cause
    pub status_is : status ≡ OfRequest i cause
    pub kept : x.new ≡ x.old

  -- what was taken where not all of the line was, by the class of the status
  abbrev pub FailsBy : Class → Status → Type 0
  FailsBy Words status = ⊥
  FailsBy Reading status = ⊥
  FailsBy Refused status = ⊥
  FailsBy Answered status = GetsNone status
  FailsBy Writing status = Rose x.faults_before x.faults_now × TookLineFront
  FailsBy Memory status = (x.new ≡ x.old) ⊎ ((x.takes_memory ≡ true) × TookLineFront)

  abbrev pub FailsLine : Status → Type 0
  FailsLine status = FailsBy (class_of status) status
