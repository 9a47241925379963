-- What a contract sees of a `StdSink`, and what std's writer behind it took.
use Rattle.std.specs.Prelude.{◌≡◌, ℕ, ◌≤◌, List, ◌++◌, Option, encode_utf8_all}
use Rattle.std.specs.Io.KnownBytes.{Appends}
use Rattle.writeable_core.specs.Sink.{Rose}

-- the writer, and the faults so far
pub record Writing (W : Type 0) : Type 0 where
  pub writer : W
  pub faults : ℕ

-- Faults don't fall; and where none came, what the writer holds grew by the text in UTF-8, if it
-- tells that.
pub record Writes {W : Type 0} (contents : W → Option (List ℕ)) (old : Writing W) (text : List ℕ)
    (new : Writing W) : Type 0 where
  pub later : old.faults ≤ new.faults
  pub written : (Rose old.faults new.faults → ⊥)
      → Appends (contents old.writer) (contents new.writer) (encode_utf8_all text)

-- what a writer holds grew by the bytes, where it tells that
abbrev pub Grows : Option (List ℕ) → List ℕ → Option (List ℕ) → Type 0
Grows old bytes new = Appends old new bytes

-- a front of the bytes was written, and these are left
pub record WrittenTo (old : Option (List ℕ)) (bytes rest : List ℕ) (new : Option (List ℕ)) :
    Type 0 where
  pub front : List ℕ
  pub parts : front ++ rest ≡ bytes
  pub taken : Grows old front new
