-- What a contract sees of a `FixedSink`.
use Rattle.std.specs.Prelude.{◌≡◌, ℕ, ◌≤◌, List, ◌++◌}

-- the text that it holds, and the faults so far
pub record Holding : Type 0 where
  pub text : List ℕ
  pub faults : ℕ

-- the text grew by what was taken, and faults may have come meanwhile
pub record Grew (old : Holding) (piece : List ℕ) (new : Holding) : Type 0 where
  pub text : new.text ≡ old.text ++ piece
  pub later : old.faults ≤ new.faults
