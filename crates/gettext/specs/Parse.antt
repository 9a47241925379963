-- What `parse_bytes` and `parse` answer. A result holds the entries of a catalog, or an error.
use Rattle.std.specs.Prelude.{◌≡◌, ◌⊎◌, ℕ, ◌≤◌, ◌<◌, Bool, List, length, Option, Some, None}
use Rattle.std.specs.Prelude.{Result, Ok, Err, MatchResult, IfOk, IfErr, IfSome, IsErrAnd, IsErrOf}
pub use Rattle.reading.specs.Reading.{most_bytes}
use Rattle.reading.specs.Reading.{IsReadToEnd}
use Rattle.writeable_core.specs.Sink.{Rose}
use Rattle.gettext.specs.declared.error.Error.{Error}
use Rattle.gettext.specs.declared.error.Error.TheVariants.{Io, TooLong, NoMemory}
use Rattle.gettext.specs.Options.{Options}
use Rattle.gettext.specs.Messages.{Messages, StandsFor}
use Rattle.gettext.specs.Mo.{entries, IsInUtf8}
use Rattle.gettext.specs.Faults.{mo_fault}
use Rattle.gettext.specs.Table.{Held, messages_of}

-- what is wrong with the bytes of a source, if anything: they are too many, or `mo_fault`
abbrev pub source_fault : List ℕ → Options → Option Error → Type 0
source_fault bytes o fault =
    ((length bytes ≤ most_bytes) × mo_fault bytes o fault)
    ⊎ ((most_bytes < length bytes) × (fault ≡ Some TooLong))

-- the errors that say nothing of the bytes
abbrev pub IsReadFault : Error → Type 0
IsReadFault Io = Unit {0}
IsReadFault NoMemory = Unit {0}
IsReadFault e = ⊥

-- the errors that come once the source was read to its end
abbrev pub ComesAtEnd : Error → Type 0
ComesAtEnd Io = ⊥
ComesAtEnd TooLong = ⊥
ComesAtEnd NoMemory = ⊥
ComesAtEnd e = Unit {0}

-- the entries mean what the bytes mean
abbrev pub MeansBytes : List ℕ → Options → Held → Type 0
MeansBytes bytes o held = (c : Messages) × entries bytes o c × StandsFor (messages_of held) c

-- what a result holds, or its error
abbrev pub held_in : {T : Type 0} → (T → Held) → Result T Error → Result Held Error
held_in held (Ok t) = Ok (held t)
held_in held (Err e) = Err e

-- What reading bytes answers. A file that means something is read as that, and what is read means
-- something (`read`, `ok`), unless memory runs out; else the answer is the first condition that
-- fails (`err`, `exact`).
pub record ParsesBytes (result : Result Held Error) (bytes : List ℕ) (o : Options) : Type 0 where
  pub read : (c : Messages) → entries bytes o c
      → MatchResult result (λ h. StandsFor (messages_of h) c) (λ e. e ≡ NoMemory)
  pub ok : IfOk result (MeansBytes bytes o)
  pub err : (fault : Error) → mo_fault bytes o (Some fault)
      → IsErrAnd result (λ e. (e ≡ NoMemory) ⊎ (e ≡ fault))
  pub exact : MatchResult result (λ h. mo_fault bytes o None)
      (λ e. (e ≡ NoMemory) ⊎ mo_fault bytes o (Some e))
  pub buffer : IfOk result (λ h. IsInUtf8 bytes o → h.buffer ≡ bytes)

-- The same of a source that tells its bytes (`read`, `ok`, `exact`, `buffer`). A fault of the
-- source comes where its count of faults rose (`io`), which never falls (`later`). An error of the
-- bytes comes once the source was read to its end (`read_to_end`), and too many bytes where no read
-- failed (`no_fault`).
pub record ParsesSource {S : Type 0} (left : S → Option (List ℕ)) (ended : S → Bool)
    (faults : S → ℕ) (old new : S) (result : Result Held Error) (o : Options) : Type 0 where
  pub read : IfSome (left old)
      (λ bytes. (c : Messages) → length bytes ≤ most_bytes → entries bytes o c
      → MatchResult result (λ h. StandsFor (messages_of h) c) IsReadFault)
  pub ok : IfOk result
      (λ h. IfSome (left old) (λ bytes. (length bytes ≤ most_bytes) × MeansBytes bytes o h))
  pub exact : IfSome (left old) (λ bytes. MatchResult result (λ h. source_fault bytes o None)
      (λ e. IsReadFault e ⊎ source_fault bytes o (Some e)))
  pub buffer : IfOk result
      (λ h. IfSome (left old) (λ bytes. IsInUtf8 bytes o → h.buffer ≡ bytes))
  pub io : IfErr result (λ e. e ≡ Io → Rose (faults old) (faults new))
  pub later : faults old ≤ faults new
  pub read_to_end : IfErr result ComesAtEnd → IsReadToEnd left ended faults old new
  pub no_fault : IsErrOf result TooLong → faults new ≡ faults old
