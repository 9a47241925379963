-- What sinks and sources mean: what was taken of a text, and where a refusal comes from.
use Rattle.std.specs.Prelude.{◌≡◌, ℕ, ◌+◌, ◌-◌, ◌^◌, ◌≤◌, min, List, ◌++◌, Bool, true, Result}
use Rattle.std.specs.Prelude.{IsErrOf}
use Rattle.writeable_core.specs.declared.sink.SinkError.{SinkError}
use Rattle.writeable_core.specs.declared.sink.SinkError.TheVariants.{Fault, NoMemory}

-- the sink took a front of the text
pub record TookPrefix {S A : Type 0} (took : S → List A → S → Type 0) (old : S) (text : List A)
    (new : S) : Type 0 where
  pub front : List A
  pub rest : List A
  pub parts : front ++ rest ≡ text
  pub taken : took old front new

-- a count of faults that ends at the greatest number of 64 bits is greater, or stands there
abbrev pub Rose : ℕ → ℕ → Type 0
Rose before now = min (before + 1) (2 ^ 64 - 1) ≤ now

-- a fault only where the count of faults rose, want of memory only from a sink that takes memory
pub record HasCause {T : Type 0} (before now : ℕ) (memory : Bool) (result : Result T SinkError) :
    Type 0 where
  pub fault : IsErrOf result Fault → Rose before now
  pub no_memory : IsErrOf result NoMemory → memory ≡ true
