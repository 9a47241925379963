-- The first fault of a list of conditions.
use Rattle.std.specs.Prelude.{Bool, List, [], ◌∷◌, Option, Some, None, if◌then◌else◌}

-- A condition, and the fault that it is where it fails.
abbrev pub Condition : Type 0 → Type 0
Condition E = Bool × E

-- the fault of the first condition that fails
abbrev pub first_failure : {E : Type 0} → List (Condition E) → Option E
first_failure [] = None
first_failure (c ∷ cs) = if c.0 then first_failure cs else Some c.1
