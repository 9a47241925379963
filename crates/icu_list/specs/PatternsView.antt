-- What contracts see of stored patterns.
use Rattle.std.specs.Prelude.{ℕ, List, [], Option, Some, None}
use Rattle.std.specs.Option.{option_map}
use Rattle.icu_list.specs.Pattern.{Pattern}
use Rattle.icu_list.specs.Patterns.{SpecialClosing, Ending, SpecialPattern, Pair, Patterns}
use Rattle.icu_list.specs.Patterns.{opening_of, closing_of}
use Rattle.icu_list.specs.declared.provider.conditional.ConditionalListJoinerPattern.{ConditionalListJoinerPattern}
use Rattle.icu_list.specs.declared.provider.conditional.SpecialCasePattern.{SpecialCasePattern}

-- the special of an end
abbrev pub special_closing_of : SpecialCasePattern → SpecialClosing
special_closing_of s = record { condition = s.condition; pattern = closing_of s.pattern }

-- an end with its special
abbrev pub ending_of : ConditionalListJoinerPattern → Ending
ending_of c =
    record {
      default = closing_of c.default;
      special = option_map special_closing_of c.special_case;
    }

-- the special of a pair
abbrev pub special_pattern_of : SpecialCasePattern → SpecialPattern
special_pattern_of s = record { condition = s.condition; pattern = s.pattern }

-- a pair with its special
abbrev pub pair_of : ConditionalListJoinerPattern → Pair
pair_of c = record { default = c.default; special = option_map special_pattern_of c.special_case }

-- what stands before the first place of a special pattern, where there is one
abbrev pub prefix_of_special : Option SpecialCasePattern → List ℕ
prefix_of_special None = []
prefix_of_special (Some s) = s.pattern.prefix

-- the patterns of a start, a middle, an end and a pair
abbrev pub patterns : Pattern → List ℕ → ConditionalListJoinerPattern
    → Option ConditionalListJoinerPattern → Patterns
patterns start middle end pair = record {
  start = opening_of start;
  middle = middle;
  end = ending_of end;
  pair = option_map pair_of pair;
}
