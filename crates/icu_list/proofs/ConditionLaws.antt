-- A pattern that is a condition has one expression, and whether it holds on a text is decided by
-- that.
use Rattle.std.proofs.Common.{◌≡◌, ℕ, Bool, true, false, List, Result, Ok, Err, inl, inr, refl, sym}
use Rattle.std.proofs.Common.{subst, ◌∙◌}
use Rattle.std.specs.Prelude.{◌↔◌}
use Rattle.lazy_dfa.specs.ConditionOf.{condition_of}
use Rattle.lazy_dfa.specs.Expression.{Expression}
use Rattle.lazy_dfa.specs.Machine.{Machine, IsFor}
use Rattle.lazy_dfa.specs.Meaning.{holds}
use Rattle.lazy_dfa.specs.Refusals.{condition}
use Rattle.lazy_dfa.specs.declared.error.ConditionError.{ConditionError}
use Rattle.icu_list.specs.Deciding.{Tested, tested_holds}
use Rattle.icu_list.specs.Conditions.{decision, applies, applies_by, IsForCondition}

-- the law of lazy_dfa: a condition is read as its expression
abbrev pub ReadsConditions : Type 0
ReadsConditions = (pattern : List ℕ) (e : Expression) → condition pattern e
    → condition_of pattern ≡ Ok e

-- the automaton of a condition is that of the pattern
pub is_for : ReadsConditions → (pattern : List ℕ) (e : Expression) (m : Machine)
    → condition pattern e → IsFor m e → IsForCondition (condition_of pattern) m
is_for law pattern e m c f =
    subst (λ (r : Result Expression ConditionError). IsForCondition r m) (sym (law pattern e c)) f

-- what is answered is the decision
decided : {P : Type 0} (t : Tested P) (r : Bool) → (r ≡ true) ↔ P → r ≡ decision t
decided (inl p) r both = both.1 p
decided (inr non) true both = absurd (non (both.0 refl))
decided (inr non) false both = refl

-- what the automaton of an expression answers
applied_by : (o : Result Expression ConditionError) (m : Machine) (text : List ℕ) (r : Bool)
    → IsForCondition o m
    → ((e : Expression) → IsFor m e → (r ≡ true) ↔ holds e text) → r ≡ applies_by o text
applied_by (Ok e) m text r f h = decided (tested_holds e text) r (h e f)
applied_by (Err error) m text r f h = absurd f

-- what the automaton answers is whether the pattern's condition holds
pub applied : (pattern text : List ℕ) (m : Machine) (r : Bool)
    → IsForCondition (condition_of pattern) m
    → ((e : Expression) → IsFor m e → (r ≡ true) ↔ holds e text) → r ≡ applies pattern text
unfolding applies
applied pattern text m r f h = applied_by (condition_of pattern) m text r f h

-- a decision is true exactly where the fact holds
both_ways : {P : Type 0} (t : Tested P) → (decision t ≡ true) ↔ P
both_ways (inl p) = (λ e. p, λ p. refl)
both_ways (inr non) = (λ e. absurd cc, λ p. absurd (non p))

-- the law: a condition applies exactly where it holds
pub applies_is : ReadsConditions → (pattern : List ℕ) (e : Expression) (text : List ℕ)
    → condition pattern e → (applies pattern text ≡ true) ↔ holds e text
unfolding applies
applies_is law pattern e text c =
    subst (λ (r : Result Expression ConditionError). (applies_by r text ≡ true) ↔ holds e text)
    (sym (law pattern e c)) (both_ways (tested_holds e text))

-- the law: a pattern is the condition of one expression at most
pub one_expression : ReadsConditions → (pattern : List ℕ) (e f : Expression) → condition pattern e
    → condition pattern f → e ≡ f
one_expression law pattern e f c d = let same = sym (law pattern e c) ∙ law pattern f d in
    ok_is e f same where
      ok_is : (x y : Expression) → ◌≡◌ {A = Result Expression ConditionError} (Ok x) (Ok y) → x ≡ y
      ok_is x y h = cc
