-- What a run does: which answer it gives, and what it appends.
use Rattle.std.specs.Prelude.{◌≡◌, ℕ, List, [], ◌++◌, Bool, true, Option, Some, IfSome}
use Rattle.localise_run.specs.Answers.{Says, SaysFirst}
use Rattle.localise_status.specs.Classes.{Class, Words, Reading, Refused, Answered, Writing, Memory}
use Rattle.localise_status.specs.Classes.{class_of}
use Rattle.localise_run.specs.declared.command.Command.{Command}
use Rattle.localise_status.specs.declared.status.Status.{Status}
use Rattle.localise_status.specs.declared.status.Status.TheVariants.{NoMemory, WriteFault}
use Rattle.writeable_core.specs.Sink.{Rose, TookPrefix}

-- the bytes that were read: those that the source had left, where it tells them
abbrev pub AreRead : Option (List ℕ) → List ℕ → Type 0
AreRead left bytes = IfSome left (λ told. told ≡ bytes)

-- the output took the text, and holds it behind what it held, where it tells that
pub record Appended {O : Type 0} (took : O → List ℕ → O → Type 0) (held : O → Option (List ℕ))
    (old : O) (text : List ℕ) (new : O) : Type 0 where
  pub taken : took old text new
  pub told : (before : List ℕ) → held old ≡ Some before → held new ≡ Some (before ++ text)

-- an output before and behind a run, how many of its calls had failed, and whether it takes memory
pub record Written (O : Type 0) : Type 0 where
  pub old : O
  pub new : O
  pub faults_before : ℕ
  pub faults_now : ℕ
  pub takes_memory : Bool

-- an output that counts its faults so, and takes memory so
abbrev pub written : {O : Type 0} → (O → ℕ) → (O → Bool) → O → O → Written O
written faults takes_memory old new = record {
  old = old;
  new = new;
  faults_before = faults old;
  faults_now = faults new;
  takes_memory = takes_memory old;
}

-- all of a text of this kind was taken
pub record TookAll {O : Type 0} (took : O → List ℕ → O → Type 0) (x : Written O)
    (Is : List ℕ → Type 0) : Type 0 where
  pub text : List ℕ
  pub is : Is text
  pub taken : took x.old text x.new

-- `Says` tells which answers there are, and the text that each appends; `First` tells texts that
-- begin one
module _ {O : Type 0} (took : O → List ℕ → O → Type 0) (Says : Status → List ℕ → Type 0)
    (First : List ℕ → Type 0) (x : Written O) where
  -- a front of a text that begins one was taken
  pub record TookFront : Type 0 where
    pub text : List ℕ
    pub begins : First text
    pub front : TookPrefix took x.old text x.new

  -- Memory ran out: before anything was taken, behind whole lines, or inside the output, if it
  -- takes memory. So no line is cut, unless the output itself found no memory.
  pub data RanOut : Type 0 where
    untouched : x.new ≡ x.old → RanOut
    behind_lines : TookAll took x First → RanOut
    in_output : x.takes_memory ≡ true → TookFront → RanOut

  -- what was appended under each class of answers
  abbrev pub Wrote : Class → Status → Type 0
  Wrote Words answer = ⊥
  Wrote Reading answer = ⊥
  Wrote Refused answer = Says answer [] × (x.new ≡ x.old)
  Wrote Answered answer = TookAll took x (Says answer)
  Wrote Writing answer = Rose x.faults_before x.faults_now × TookFront
  Wrote Memory answer = RanOut

  -- what was appended under an answer
  abbrev pub Gives : Status → Type 0
  Gives answer = Wrote (class_of answer) answer

-- the bytes that were read are answered so
pub record GivesRead {O : Type 0} (took : O → List ℕ → O → Type 0) (command : Command)
    (left : Option (List ℕ)) (x : Written O) (answer : Status) : Type 0 where
  pub bytes : List ℕ
  pub read : AreRead left bytes
  pub gives : Gives took (Says command bytes) (SaysFirst command bytes) x answer

-- What a command does: where reading fails nothing is appended and the source's count rose, and
-- else the bytes that were read are answered.
abbrev pub Runs : {O : Type 0} → (O → List ℕ → O → Type 0) → Command → Option (List ℕ) → ℕ → ℕ
    → Written O → Class → Status → Type 0
Runs took command left before now x Reading answer = Rose before now × (x.new ≡ x.old)
Runs took command left before now x Words answer = ⊥
Runs took command left before now x Refused answer = GivesRead took command left x answer
Runs took command left before now x Answered answer = GivesRead took command left x answer
Runs took command left before now x Writing answer = GivesRead took command left x answer
Runs took command left before now x Memory answer = GivesRead took command left x answer

-- Behind a run its output is flushed, which appends nothing: the status is the run's answer, where
-- all that was held back was handed on, or that the output failed then.
module _ {O : Type 0} (took : O → List ℕ → O → Type 0) (faults : O → ℕ) (takes_memory : O → Bool)
    (flushes : O → O → Type 0) where
  pub data IsFlushed (ran new : O) (answer status : Status) : Type 0 where
    flushed : took ran [] new → flushes ran new → status ≡ answer → IsFlushed ran new answer status
    failed : took ran [] new → Rose (faults ran) (faults new) → status ≡ WriteFault
        → IsFlushed ran new answer status
    no_memory : took ran [] new → takes_memory ran ≡ true → status ≡ NoMemory
        → IsFlushed ran new answer status

  -- A command runs, and its output is flushed.
  pub record RunsAndFlushes (command : Command) (left : Option (List ℕ))
      (before now : ℕ) (old new : O)
      (status : Status) : Type 0 where
    pub answer : Status
    pub ran : O
    pub runs :
        Runs took command left before now (written faults takes_memory old ran)
        (class_of answer) answer
    pub is_flushed : IsFlushed ran new answer status
