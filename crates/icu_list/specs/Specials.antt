-- Patterns with a special end or a special pair.
use Rattle.std.specs.Prelude.{Option, Some, None}
use Rattle.icu_list.specs.Pattern.{Pattern}
use Rattle.icu_list.specs.Patterns.{Patterns, Closing, SpecialClosing, Pair, SpecialPattern, whole}

-- the patterns with a special end
abbrev pub with_end : Patterns → SpecialClosing → Patterns
with_end p special =
    record {
      start = p.start;
      middle = p.middle;
      end = record { default = p.end.default; special = Some special };
      pair = p.pair;
    }

-- the pair's default: where none is stored, that of the end
abbrev pub pair_default : Closing → Option Pair → Pattern
pair_default end None = whole end
pair_default end (Some pair) = pair.default

-- the patterns with a special pair
abbrev pub with_pair : Patterns → SpecialPattern → Patterns
with_pair p special =
    record {
      start = p.start;
      middle = p.middle;
      end = p.end;
      pair =
          Some (record { default = pair_default p.end.default p.pair; special = Some special });
    }
