-- Reading a source to its end: what it leaves behind, and why it fails.
use Rattle.std.specs.Prelude.{◌≡◌, ℕ, ◌<◌, List, length, Option, IfSome, Bool, true}
use Rattle.std.specs.Io.KnownBytes.{IsAtEnd}
use Rattle.writeable_core.specs.Sink.{Rose}
use Rattle.reading.specs.declared.error.ReadError.{ReadError}
use Rattle.reading.specs.declared.error.ReadError.TheVariants.{Fault, TooLong, NoMemory}

-- the most bytes that are read
abbrev pub most_bytes : ℕ
most_bytes = 67_108_864

-- A source was read to its end: nothing is left, its latest read that had room gave nothing, and
-- none of its reads failed on the way.
pub record IsReadToEnd {S : Type 0} (left : S → Option (List ℕ)) (ended : S → Bool) (faults : S → ℕ)
    (old new : S) : Type 0 where
  pub nothing_left : IsAtEnd (left new)
  pub end_mark : ended new ≡ true
  pub no_fault : faults new ≡ faults old

-- a fault only where the count of faults rose; too long only where the bytes that were left are
-- more than the most
abbrev pub IsReadError : ℕ → ℕ → ℕ → Option (List ℕ) → ReadError → Type 0
IsReadError most before now left Fault = Rose before now
IsReadError most before now left TooLong = IfSome left (λ told. most < length told)
IsReadError most before now left NoMemory = Unit {0}
