-- Why a pattern is no condition, as an error of lists.
use Rattle.std.specs.Prelude.{◌≡◌, ◌≢◌, ℕ, List, Option, None, IsSomeAnd, chars}
use Rattle.lazy_dfa.specs.Refusals.{IsRefused}
use Rattle.lazy_dfa.specs.declared.error.ConditionError.{ConditionError}
use Rattle.lazy_dfa.specs.declared.error.ConditionError.TheVariants as condition
use Rattle.icu_list.specs.declared.error.DataError.{DataError}
use Rattle.icu_list.specs.declared.error.DataError.TheVariants.{InvalidPattern, CannotStore}
use Rattle.icu_list.specs.declared.error.DataError.TheVariants.{Condition, MissingLocale}
use Rattle.icu_list.specs.declared.error.DataError.TheVariants.{NotJsonForm, NoMemory}

-- the error of a condition as one of a pattern: want of memory is its own
abbrev pub error_of : ConditionError → DataError
error_of condition.NotAnchored = Condition condition.NotAnchored
error_of condition.TooLong = Condition condition.TooLong
error_of (condition.Syntax place) = Condition (condition.Syntax place)
error_of condition.NoMemory = NoMemory

-- why a pattern is no condition, unless memory ran out
abbrev pub IsConditionFault : List ℕ → DataError → Type 0
IsConditionFault pattern (Condition error) = (error ≢ condition.NoMemory) × IsRefused pattern error
IsConditionFault pattern NoMemory = Unit {0}
IsConditionFault pattern InvalidPattern = ⊥
IsConditionFault pattern CannotStore = ⊥
IsConditionFault pattern MissingLocale = ⊥
IsConditionFault pattern NotJsonForm = ⊥

-- why a JSON value is no condition: it is no text, or its text is none
abbrev pub IsJsonConditionFault : Option (List ℕ) → DataError → Type 0
IsJsonConditionFault text NotJsonForm = text ≡ None
IsJsonConditionFault text (Condition error) =
    IsSomeAnd text (λ bytes. IsConditionFault (chars bytes) (Condition error))
IsJsonConditionFault text NoMemory = Unit {0}
IsJsonConditionFault text InvalidPattern = ⊥
IsJsonConditionFault text CannotStore = ⊥
IsJsonConditionFault text MissingLocale = ⊥
