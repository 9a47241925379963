-- What is known of a joined list's length before it is written.
use Rattle.std.specs.Prelude.{ℕ, zero, suc, List, ◌++◌, length, Option, Some, None}
use Rattle.std.specs.List.{fold}
use Rattle.writeable_core.specs.declared.length_hint.LengthHint.{LengthHint}
use Rattle.writeable_core.specs.Hint.{exact, hint_sum, hint_times, hint_either, text_hint}
use Rattle.icu_list.specs.Pattern.{Pattern, texts}
use Rattle.icu_list.specs.Patterns.{Opening, Closing, Ending, SpecialClosing, Pair, SpecialPattern}
use Rattle.icu_list.specs.Patterns.{Patterns, whole}

-- the length of a pattern's texts
abbrev pub pattern_hint : Pattern → LengthHint
pattern_hint p = text_hint (texts p)

-- the length of a start's texts
abbrev pub opening_hint : Opening → LengthHint
opening_hint p = text_hint (p.prefix ++ p.between)

-- one pattern, or another under a condition
abbrev pub closing_hint : Closing → Option SpecialClosing → LengthHint
closing_hint default None = pattern_hint (whole default)
closing_hint default (Some special) =
    hint_either (pattern_hint (whole default)) (pattern_hint (whole special.pattern))

-- the same of a pair
abbrev pub choice_hint : Pattern → Option SpecialPattern → LengthHint
choice_hint default None = pattern_hint default
choice_hint default (Some special) =
    hint_either (pattern_hint default) (pattern_hint special.pattern)

-- the end, or its special
abbrev pub end_hint : Ending → LengthHint
end_hint end = closing_hint end.default end.special

-- the pattern of two items
abbrev pub pair_hint : Ending → Option Pair → LengthHint
pair_hint end None = end_hint end
pair_hint end (Some pair) = choice_hint pair.default pair.special

-- the patterns' part, by the number of items
abbrev pub patterns_hint : Patterns → ℕ → LengthHint
patterns_hint p zero = exact 0
patterns_hint p (suc zero) = exact 0
patterns_hint p (suc (suc zero)) = pair_hint p.end p.pair
patterns_hint p (suc (suc (suc n))) =
    hint_sum (hint_sum (opening_hint p.start) (hint_times (text_hint p.middle) n)) (end_hint p.end)

-- the items' part
abbrev pub items_hint : List LengthHint → LengthHint
items_hint hints = fold hint_sum (exact 0) hints

-- the items' part and the patterns' part
abbrev pub list_hint : Patterns → List LengthHint → LengthHint
list_hint p hints = hint_sum (items_hint hints) (patterns_hint p (length hints))
