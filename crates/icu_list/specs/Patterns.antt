-- The patterns of a list: start, middle, end and pair (UTS 35, List Patterns). The start has
-- nothing behind its second place, the middle nothing before its first or behind its second, the
-- end nothing before its first.
use Rattle.std.specs.Prelude.{ℕ, List, [], Option, Some, None, if◌then◌else◌}
use Rattle.icu_list.specs.Conditions.{applies}
use Rattle.icu_list.specs.Pattern.{Pattern, pattern}

-- a pattern with nothing behind the second place
pub record Opening : Type 0 where
  pub prefix : List ℕ
  pub between : List ℕ

-- a pattern with nothing before the first place
pub record Closing : Type 0 where
  pub between : List ℕ
  pub suffix : List ℕ

-- the pattern in place of another where its condition holds on the last item
pub record SpecialClosing : Type 0 where
  pub condition : List ℕ
  pub pattern : Closing

-- the end, with its special
pub record Ending : Type 0 where
  pub default : Closing
  pub special : Option SpecialClosing

-- a special pattern of two items
pub record SpecialPattern : Type 0 where
  pub condition : List ℕ
  pub pattern : Pattern

-- the pattern of two items, with its special
pub record Pair : Type 0 where
  pub default : Pattern
  pub special : Option SpecialPattern

-- Where no pair is stored, the end serves for two items.
pub record Patterns : Type 0 where
  pub start : Opening
  pub middle : List ℕ
  pub end : Ending
  pub pair : Option Pair

-- a start pattern
abbrev pub opening_of : Pattern → Opening
opening_of p = record { prefix = p.prefix; between = p.between }

-- an end pattern
abbrev pub closing_of : Pattern → Closing
closing_of p = record { between = p.between; suffix = p.suffix }

-- an end pattern as a pattern of two items
abbrev pub whole : Closing → Pattern
whole c = pattern [] c.between c.suffix

-- the special where its condition holds on the last item
abbrev pub closing_for : Closing → Option SpecialClosing → List ℕ → Closing
closing_for default None last = default
closing_for default (Some special) last =
    if applies special.condition last then special.pattern else default

-- the special where its condition holds on the last item
abbrev pub pattern_for : Pattern → Option SpecialPattern → List ℕ → Pattern
pattern_for default None last = default
pattern_for default (Some special) last =
    if applies special.condition last then special.pattern else default

-- the end pattern before a last item
abbrev pub end_for : Patterns → List ℕ → Closing
end_for p last = closing_for p.end.default p.end.special last

-- the stored pair, or else the end
abbrev pub two_by : Closing → Option Pair → List ℕ → Pattern
two_by end None last = whole end
two_by end (Some pair) last = pattern_for pair.default pair.special last

-- the pattern of two items, by the second
abbrev pub two_for : Patterns → List ℕ → Pattern
two_for p last = two_by (end_for p last) p.pair last
