-- One text, and then another that is left out where the first has an error.
use Rattle.std.specs.Prelude.{List, ◌++◌, Option, Some, None}
use Rattle.writeable_core.specs.Hint.{hint_sum}
use Rattle.writeable_core.specs.declared.length_hint.LengthHint.{LengthHint}

-- the second behind the first, unless that has an error
abbrev pub followed : {E A : Type 0} → Option E → List A → List A → List A
followed (Some _) a b = a
followed None a b = a ++ b

-- the first error
abbrev pub first_error : {E : Type 0} → Option E → Option E → Option E
first_error (Some e) _ = Some e
first_error None other = other

-- the first text may stand alone, so the lower bound is its own
abbrev pub try_sum : LengthHint → LengthHint → LengthHint
try_sum a b = record { 0 = a.0; 1 = (hint_sum a b).1 }
