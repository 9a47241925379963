-- What a contract sees of a `ScriptSource`.
use Rattle.std.specs.Prelude.{◌≡◌, ℕ, ◌+◌, ◌-◌, ◌^◌, ◌<◌, List, Bool}

-- the bytes that are left, the end mark, the most bytes of a call, the number of the call that
-- fails, and how many calls and faults there were
pub record ReadScript : Type 0 where
  pub bytes : List ℕ
  pub ended : Bool
  pub most : ℕ
  pub failing : ℕ
  pub calls : ℕ
  pub faults : ℕ

-- The next call is the one that fails. Calls past the greatest number of 64 bits have no number.
pub record FailsNext (source : ReadScript) : Type 0 where
  pub numbered : source.calls < 2 ^ 64 - 1
  pub next : source.calls + 1 ≡ source.failing
