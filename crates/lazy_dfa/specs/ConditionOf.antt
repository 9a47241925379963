-- The expression of a condition, or why a pattern is none, as a function. The grammar decides: the
-- function says what `condition` and `IsRefused` say (the law `a_pattern_is_read` in src/laws.rt).
use Rattle.std.specs.Prelude.{ℕ, ◌-◌, ◌==◌, nat_le, if◌then◌else◌, List, length, Option, Some, None}
use Rattle.std.specs.Prelude.{Result, Ok, Err}
use Rattle.lazy_dfa.specs.Expression.{Expression}
use Rattle.lazy_dfa.specs.Parsing.{behind, parse, needed, Found, Alternatives}
use Rattle.lazy_dfa.specs.Refusals.{most_characters}
use Rattle.lazy_dfa.specs.declared.error.ConditionError.{ConditionError}
use Rattle.lazy_dfa.specs.declared.error.ConditionError.TheVariants.{NotAnchored, TooLong, Syntax}

-- the expression where all of the text was read, and else how far it was
abbrev pub condition_read : List ℕ → Result Found ℕ → Result Expression ConditionError
condition_read text (Ok p) =
    if length p.rest == 0 then Ok p.tree else Err (Syntax (length text - length p.rest))
condition_read text (Err left) = Err (Syntax (length text - left))

-- the condition that stands behind `^`
abbrev pub condition_behind : Option (List ℕ) → Result Expression ConditionError
condition_behind None = Err NotAnchored
condition_behind (Some text) =
    if nat_le (length text) most_characters
    then condition_read text (parse (needed Alternatives text) Alternatives text)
    else Err TooLong

-- the expression of a condition, or why the pattern is none
unfoldable pub condition_of : List ℕ → Result Expression ConditionError
condition_of pattern = condition_behind (behind 94 pattern)
