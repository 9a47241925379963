use Rattle.std.proofs.Common.{◌≡◌, List, ℕ, subst, sym, Ok, Result, IfOk, chars, rules}
use Rattle.lazy_dfa.specs.Expression.{Expression}
use Rattle.lazy_dfa.specs.Machine.{Machine, IsFor}
use Rattle.lazy_dfa.specs.Refusals.{condition}
use Rattle.lazy_dfa.specs.declared.error.ConditionError.{ConditionError}
use Rattle.lazy_dfa.specs.ConditionOf.{condition_of}
use Rattle.icu_list.specs.Conditions.{IsForCondition}
use Rattle.icu_list.proofs.ConditionLaws.{ReadsConditions, is_for}
use Rattle.icu_list.proofs.provider.serde_dfa.SerdeDFA.new.Goals as goal

-- what was read is the automaton of the pattern
made : ReadsConditions → (pattern : List ℕ) (r : Result Machine ConditionError) (m : Machine)
    → IfOk r (λ c. (e : Expression) × condition pattern e × IsFor c e) → r ≡ Ok m
    → IsForCondition (condition_of pattern) m
made law pattern r m h e =
    let found =
    subst
    (λ (x : Result Machine ConditionError).
    IfOk x (λ c. (e : Expression) × condition pattern e × IsFor c e)) e h in
    is_for law pattern found.0 m found.1 found.2

pub invariant_of-result : goal.invariant_of-result
invariant_of-result c =
    subst (λ (m : Machine). IsForCondition (condition_of c.in_ok-pattern.pattern) m)
    (sym c.determinise.ensures.kept)
    (subst (λ (p : List ℕ). IsForCondition (condition_of p) c.in_ok-condition.condition)
    (sym c.in_ok-pattern.ensures.ok)
    (made c.a_pattern_is_read.ensures.ok
    (chars c.args.pattern.now) c.new.result c.in_ok-condition.condition c.new.ensures.ok
    (search rules)))
