-- A stored pattern with a special: which of the two serves before a last item, and what is known of
-- its length.
use Rattle.std.specs.Prelude.{ℕ, List, Option, Some, None, if◌then◌else◌}
use Rattle.writeable_core.specs.declared.length_hint.LengthHint.{LengthHint}
use Rattle.writeable_core.specs.Hint.{hint_either}
use Rattle.icu_list.specs.Conditions.{applies}
use Rattle.icu_list.specs.Pattern.{Pattern}
use Rattle.icu_list.specs.ListHint.{pattern_hint}
use Rattle.icu_list.specs.declared.provider.conditional.ConditionalListJoinerPattern.{ConditionalListJoinerPattern}
use Rattle.icu_list.specs.declared.provider.conditional.SpecialCasePattern.{SpecialCasePattern}

-- the special where its condition holds on the last item
abbrev pub chosen_by : Pattern → Option SpecialCasePattern → List ℕ → Pattern
chosen_by default None last = default
chosen_by default (Some special) last =
    if applies special.condition last then special.pattern else default

-- the pattern that serves before a last item
abbrev pub chosen : ConditionalListJoinerPattern → List ℕ → Pattern
chosen c last = chosen_by c.default c.special_case last

-- one pattern, or another under a condition
abbrev pub hint_by : Pattern → Option SpecialCasePattern → LengthHint
hint_by default None = pattern_hint default
hint_by default (Some special) = hint_either (pattern_hint default) (pattern_hint special.pattern)

-- what is known of the chosen pattern's length
abbrev pub conditional_hint : ConditionalListJoinerPattern → LengthHint
conditional_hint c = hint_by c.default c.special_case
