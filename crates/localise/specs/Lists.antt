-- Which patterns the texts of a list are (UTS 35, List Patterns), the special end being read as an
-- end.
use Rattle.std.specs.Prelude.{◌≡◌, Bool, true, false, Option, Some, None, Ok}
use Rattle.std.specs.Option.{option_map}
use Rattle.icu_list.specs.ListFault.{ArePatternsOf, ListTexts, SpecialTexts, list_fault}
use Rattle.icu_list.specs.Pattern.{Pattern}
use Rattle.icu_list.specs.Patterns.{Patterns, closing_of}
use Rattle.icu_list.specs.PatternTexts.{joiner}
use Rattle.icu_list.specs.Specials.{with_end, with_pair}
use Rattle.localise_texts.specs.declared.patterns.PatternTexts.{PatternTexts}
use Rattle.localise_texts.specs.declared.patterns.Special.{Special}

-- the texts of a special pattern
abbrev pub special_texts : Special → SpecialTexts
special_texts s = record { condition = s.condition; pattern = s.pattern }

-- the texts of a list
abbrev pub list_texts : PatternTexts → ListTexts
list_texts t =
    record {
      start = t.start;
      middle = t.middle;
      end = t.end;
      pair = t.pair;
      end_special = option_map special_texts t.end_special;
      pair_special = option_map special_texts t.pair_special;
    }

-- the pattern of a special text, where a prefix is allowed or not
abbrev pub IsSpecialPattern : Bool → SpecialTexts → Pattern → Type 0
IsSpecialPattern prefix t p = joiner prefix true t.pattern ≡ Ok p

-- patterns with a special end, where there is one
abbrev pub EndsWith : Option SpecialTexts → Patterns → Patterns → Type 0
EndsWith None plain p = p ≡ plain
EndsWith (Some t) plain p =
    (s : Pattern) × IsSpecialPattern false t s
    × (p ≡ with_end plain (record { condition = t.condition; pattern = closing_of s }))

-- patterns with a special pair, where there is one
abbrev pub PairsWith : Option SpecialTexts → Patterns → Patterns → Type 0
PairsWith None plain p = p ≡ plain
PairsWith (Some t) plain p =
    (s : Pattern) × IsSpecialPattern true t s
    × (p ≡ with_pair plain (record { condition = t.condition; pattern = s }))

-- the texts are these patterns
pub record ArePatterns (t : ListTexts) (p : Patterns) : Type 0 where
  pub faultless : list_fault t ≡ None
  pub plain : Patterns
  pub four : ArePatternsOf t.start t.middle t.end t.pair plain
  pub ended : Patterns
  pub end : EndsWith t.end_special plain ended
  pub pair : PairsWith t.pair_special ended p
