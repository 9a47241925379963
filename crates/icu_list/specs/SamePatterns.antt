-- When two patterns are equal: each of their texts is.
use Rattle.std.specs.Prelude.{Bool, ◌&&◌}
use Rattle.std.specs.Option.{option_eq}
use Rattle.std.specs.Cmp.{IsPartialEquivalence, IsEquivalence, on_equiv, and_equiv}
use Rattle.std.specs.Cmp.{partial_equiv_from_equiv}
use Rattle.std.specs.Cmp.Lexicographic.{nat_list_eq_equiv, options_equiv}
use Rattle.writeable_core.specs.Texts.{same_text}
use Rattle.icu_list.specs.Pattern.{Pattern}
use Rattle.icu_list.specs.Patterns.{Opening, Closing, SpecialClosing, Ending, SpecialPattern, Pair}
use Rattle.icu_list.specs.Patterns.{Patterns}

-- equal patterns
abbrev pub same_pattern : Pattern → Pattern → Bool
same_pattern a b = same_text a.prefix b.prefix
    && (same_text a.between b.between && same_text a.suffix b.suffix)

-- equal starts
abbrev pub same_opening : Opening → Opening → Bool
same_opening a b = same_text a.prefix b.prefix && same_text a.between b.between

-- equal ends
abbrev pub same_closing : Closing → Closing → Bool
same_closing a b = same_text a.between b.between && same_text a.suffix b.suffix

-- conditions are equal where their texts are
abbrev pub same_special_closing : SpecialClosing → SpecialClosing → Bool
same_special_closing a b = same_text a.condition b.condition && same_closing a.pattern b.pattern

-- equal ends, with their specials
abbrev pub same_ending : Ending → Ending → Bool
same_ending a b = same_closing a.default b.default
    && option_eq same_special_closing a.special b.special

-- equal specials of a pair
abbrev pub same_special_pattern : SpecialPattern → SpecialPattern → Bool
same_special_pattern a b = same_text a.condition b.condition && same_pattern a.pattern b.pattern

-- equal pairs, with their specials
abbrev pub same_pair : Pair → Pair → Bool
same_pair a b = same_pattern a.default b.default
    && option_eq same_special_pattern a.special b.special

-- the patterns of a list are equal where start, middle, end and pair are
abbrev pub same_patterns : Patterns → Patterns → Bool
same_patterns a b =
    same_opening a.start b.start
    && (same_text a.middle b.middle
    && (same_ending a.end b.end && option_eq same_pair a.pair b.pair))

-- ---- these are equivalences

-- of texts
text_laws : IsEquivalence same_text
text_laws = nat_list_eq_equiv

-- of patterns
pattern_laws : IsEquivalence same_pattern
pattern_laws =
    and_equiv (on_equiv (λ (p : Pattern). p.prefix) text_laws)
    (and_equiv (on_equiv (λ (p : Pattern). p.between) text_laws)
    (on_equiv (λ (p : Pattern). p.suffix) text_laws))

-- of starts
opening_laws : IsEquivalence same_opening
opening_laws =
    and_equiv (on_equiv (λ (p : Opening). p.prefix) text_laws)
    (on_equiv (λ (p : Opening). p.between) text_laws)

-- of ends
closing_laws : IsEquivalence same_closing
closing_laws =
    and_equiv (on_equiv (λ (p : Closing). p.between) text_laws)
    (on_equiv (λ (p : Closing). p.suffix) text_laws)

-- of specials of an end
special_closing_laws : IsEquivalence same_special_closing
special_closing_laws =
    and_equiv (on_equiv (λ (s : SpecialClosing). s.condition) text_laws)
    (on_equiv (λ (s : SpecialClosing). s.pattern) closing_laws)

-- of ends with their specials
ending_laws : IsEquivalence same_ending
ending_laws =
    and_equiv (on_equiv (λ (e : Ending). e.default) closing_laws)
    (on_equiv (λ (e : Ending). e.special) (options_equiv special_closing_laws))

-- of specials of a pair
special_pattern_laws : IsEquivalence same_special_pattern
special_pattern_laws =
    and_equiv (on_equiv (λ (s : SpecialPattern). s.condition) text_laws)
    (on_equiv (λ (s : SpecialPattern). s.pattern) pattern_laws)

-- of pairs with their specials
pair_laws : IsEquivalence same_pair
pair_laws =
    and_equiv (on_equiv (λ (p : Pair). p.default) pattern_laws)
    (on_equiv (λ (p : Pair). p.special) (options_equiv special_pattern_laws))

-- equality of patterns is an equivalence
pub same_pattern_laws : IsPartialEquivalence same_pattern
same_pattern_laws = partial_equiv_from_equiv pattern_laws

-- equality of the patterns of lists is an equivalence
pub same_patterns_laws : IsPartialEquivalence same_patterns
same_patterns_laws =
    partial_equiv_from_equiv
    (and_equiv (on_equiv (λ (p : Patterns). p.start) opening_laws)
    (and_equiv (on_equiv (λ (p : Patterns). p.middle) text_laws)
    (and_equiv (on_equiv (λ (p : Patterns). p.end) ending_laws)
    (on_equiv (λ (p : Patterns). p.pair) (options_equiv pair_laws)))))
