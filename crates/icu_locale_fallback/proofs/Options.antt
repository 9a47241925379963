-- What the tests of an option say.
use Rattle.std.proofs.Common.{◌≡◌, true, false, Option, Some, None, is_some, is_none, refl}

-- what is none is none
pub none_by_is_none : {A : Type 0} (o : Option A) → is_none o ≡ true → o ≡ None
none_by_is_none None h = refl
none_by_is_none (Some x) h = cc

-- what is not there is none
pub none_by_is_some : {A : Type 0} (o : Option A) → is_some o ≡ false → o ≡ None
none_by_is_some None h = refl
none_by_is_some (Some x) h = cc
