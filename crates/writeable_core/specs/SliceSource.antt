-- What a contract sees of a `SliceSource`.
use Rattle.std.specs.Prelude.{ℕ, List, Bool}

-- the bytes that are left, and the end mark
pub record Unread : Type 0 where
  pub bytes : List ℕ
  pub ended : Bool
