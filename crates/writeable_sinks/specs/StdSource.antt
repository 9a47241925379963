-- What a contract sees of a `StdSource`.
use Rattle.std.specs.Prelude.{ℕ, Bool}

-- the reader, the faults so far, and the end mark
pub record Reading (R : Type 0) : Type 0 where
  pub reader : R
  pub faults : ℕ
  pub ended : Bool
