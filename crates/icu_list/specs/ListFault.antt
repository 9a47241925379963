-- The patterns that a list's texts are, or their first fault: start, middle, end and pair in this
-- order, then the special of the end and that of the pair, each condition before its pattern.
use Rattle.std.specs.Prelude.{◌≡◌, ℕ, Bool, true, false, List, [], ◌∷◌, ◌++◌, Option, Some, None}
use Rattle.std.specs.Prelude.{Result, Ok, Err}
use Rattle.lazy_dfa.specs.Expression.{Expression}
use Rattle.lazy_dfa.specs.declared.error.ConditionError.{ConditionError}
use Rattle.writeable_core.specs.Texts.{same_text}
use Rattle.lazy_dfa.specs.ConditionOf.{condition_of}
use Rattle.icu_list.specs.Pattern.{Pattern}
use Rattle.icu_list.specs.Patterns.{Patterns, opening_of, closing_of, Pair}
use Rattle.icu_list.specs.PatternTexts.{joiner, middle}
use Rattle.icu_list.specs.declared.error.DataError.{DataError}
use Rattle.icu_list.specs.declared.error.DataError.TheVariants.{Condition, NoMemory}

-- the texts of a special pattern
pub record SpecialTexts : Type 0 where
  pub condition : List ℕ
  pub pattern : List ℕ

-- the texts that a locale's patterns are read from
pub record ListTexts : Type 0 where
  pub start : List ℕ
  pub middle : List ℕ
  pub end : List ℕ
  pub pair : List ℕ
  pub end_special : Option SpecialTexts
  pub pair_special : Option SpecialTexts

-- the texts of patterns without specials
abbrev pub without_specials : List ℕ → List ℕ → List ℕ → List ℕ → ListTexts
without_specials start middle end pair =
    record {
      start = start;
      middle = middle;
      end = end;
      pair = pair;
      end_special = None;
      pair_special = None;
    }

-- why a text was refused, if it was
abbrev pub fault : {A : Type 0} → Result A DataError → Option DataError
fault (Ok x) = None
fault (Err e) = Some e

-- why a text is no condition, if it is none
abbrev pub condition_fault : Result Expression ConditionError → Option DataError
condition_fault (Ok e) = None
condition_fault (Err error) = Some (Condition error)

-- the first of some faults
abbrev pub first_fault : List (Option DataError) → Option DataError
first_fault [] = None
first_fault (None ∷ faults) = first_fault faults
first_fault (Some e ∷ faults) = Some e

-- a special pattern, of the end or of the pair: the end's has no prefix
abbrev pub special_faults : Bool → Option SpecialTexts → List (Option DataError)
special_faults prefix None = []
special_faults prefix (Some s) =
    condition_fault (condition_of s.condition) ∷ fault (joiner prefix true s.pattern) ∷ []

-- the first fault of a list's texts
abbrev pub list_fault : ListTexts → Option DataError
list_fault t =
    first_fault
    (fault (joiner true false t.start) ∷ fault (middle t.middle)
    ∷ fault (joiner false true t.end) ∷ fault (joiner true true t.pair)
    ∷ (special_faults false t.end_special ++ special_faults true t.pair_special))

-- the error is the fault, unless memory ran out
abbrev pub IsFault : Option DataError → DataError → Type 0
IsFault fault NoMemory = Unit {0}
IsFault fault error = fault ≡ Some error

-- no pair is stored where its text is that of the end
abbrev pub pair_for : Bool → Pattern → Option Pair
pair_for true p = None
pair_for false p = Some (record { default = p; special = None })

-- the patterns that four texts are, without specials
pub record ArePatternsOf (start_text middle_text end_text pair_text : List ℕ) (p : Patterns) :
    Type 0 where
  pub start : Pattern
  pub end : Pattern
  pub pair : Pattern
  pub start_is : joiner true false start_text ≡ Ok start
  pub middle_is : middle middle_text ≡ Ok p.middle
  pub end_is : joiner false true end_text ≡ Ok end
  pub pair_is : joiner true true pair_text ≡ Ok pair
  pub kept_start : p.start ≡ opening_of start
  pub kept_end : p.end ≡ record { default = closing_of end; special = None }
  pub kept_pair : p.pair ≡ pair_for (same_text pair_text end_text) pair
