-- What a contract sees of a `ScriptSink`.
use Rattle.std.specs.Prelude.{◌≡◌, ℕ, ◌+◌, ◌-◌, ◌^◌, ◌<◌, ◌≤◌, List, ◌++◌, Contains}

-- the text that it holds, the numbers of the pushes that fail, and how many pushes and faults there
-- were
pub record Script : Type 0 where
  pub text : List ℕ
  pub failing : List ℕ
  pub pushes : ℕ
  pub faults : ℕ

-- The next push is one of those that fail. Pushes past the greatest number of 64 bits have no
-- number.
pub record IsNextListed (sink : Script) : Type 0 where
  pub numbered : sink.pushes < 2 ^ 64 - 1
  pub listed : Contains sink.failing (sink.pushes + 1)

-- the text grew by what was taken; pushes and faults may have come meanwhile
pub record Wrote (old : Script) (piece : List ℕ) (new : Script) : Type 0 where
  pub text : new.text ≡ old.text ++ piece
  pub failing : new.failing ≡ old.failing
  pub later : old.faults ≤ new.faults
