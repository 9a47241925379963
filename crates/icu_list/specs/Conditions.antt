-- Conditions by their pattern texts. A pattern that is a condition has one expression (the law
-- `conditions_apply`).
use Rattle.std.specs.Prelude.{ℕ, List, Bool, true, false, Result, Ok, Err}
use Rattle.std.proofs.Common.{inl, inr}
use Rattle.lazy_dfa.specs.Expression.{Expression}
use Rattle.lazy_dfa.specs.Machine.{Machine, IsFor}
use Rattle.lazy_dfa.specs.ConditionOf.{condition_of}
use Rattle.lazy_dfa.specs.declared.error.ConditionError.{ConditionError}
use Rattle.icu_list.specs.Deciding.{Tested, tested_holds}

-- whether the fact holds
abbrev pub decision : {P : Type 0} → Tested P → Bool
decision (inl p) = true
decision (inr non) = false

-- whether the condition of an expression holds on a text; what is no condition holds on none
abbrev pub applies_by : Result Expression ConditionError → List ℕ → Bool
applies_by (Ok e) text = decision (tested_holds e text)
applies_by (Err error) text = false

-- whether the condition that a pattern is holds on a text
unfoldable pub applies : List ℕ → List ℕ → Bool
applies pattern text = applies_by (condition_of pattern) text

-- the automaton is that of the pattern's condition
abbrev pub IsForCondition : Result Expression ConditionError → Machine → Type 0
IsForCondition (Ok e) machine = IsFor machine e
IsForCondition (Err error) machine = ⊥
