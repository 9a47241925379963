-- Patterns as they are stored.
use Rattle.std.specs.Prelude.{if◌then◌else◌, unwrap_or}
use Rattle.std.specs.Option.{option_map}
use Rattle.std.proofs.Common.{◌≡◌, ℕ, Bool, true, false, List, [], Option, Some, None, Ok, refl, ap}
use Rattle.std.proofs.Common.{◌∙◌}
use Rattle.writeable_core.specs.Texts.{same_text}
use Rattle.icu_list.specs.Conditions.{applies}
use Rattle.icu_list.specs.Pattern.{Pattern, pattern}
use Rattle.icu_list.specs.PatternTexts.{pattern_of, is_empty, joiner, joiner_by, middle}
use Rattle.icu_list.specs.Patterns.{closing_of, whole, closing_for, pattern_for, two_for}
use Rattle.icu_list.specs.PatternsView.{special_closing_of, special_pattern_of, pair_of}
use Rattle.icu_list.specs.PatternsView.{prefix_of_special, patterns}
use Rattle.icu_list.specs.Choices.{chosen_by, chosen}
use Rattle.icu_list.specs.Frames.{Frame, frame_two}
use Rattle.icu_list.specs.ListFault.{ArePatternsOf, pair_for}
use Rattle.icu_list.specs.declared.provider.conditional.ConditionalListJoinerPattern.{ConditionalListJoinerPattern}
use Rattle.icu_list.specs.declared.provider.conditional.SpecialCasePattern.{SpecialCasePattern}
use Rattle.icu_list.proofs.Reading.{not_allowed_prefix}

-- ---- the pattern that serves for two items

-- a pattern without prefix is an end pattern
is_whole : (p : Pattern) → p.prefix ≡ [] → p ≡ whole (closing_of p)
is_whole p e = ap (λ (x : List ℕ). pattern x p.between p.suffix) e

-- the end that is chosen
end_chosen : (default : Pattern) (special : Option SpecialCasePattern) (last : List ℕ)
    → default.prefix ≡ [] → prefix_of_special special ≡ []
    → chosen_by default special last
    ≡ whole (closing_for (closing_of default) (option_map special_closing_of special) last)
end_chosen default None last e f = is_whole default e
end_chosen default (Some s) last e f = by (applies s.condition last) where
  by : (b : Bool)
      → (if b then s.pattern else default)
      ≡ whole (if b then closing_of s.pattern else closing_of default)
  by true = is_whole s.pattern f
  by false = is_whole default e

-- the pair that is chosen
pair_chosen : (default : Pattern) (special : Option SpecialCasePattern) (last : List ℕ)
    → chosen_by default special last
    ≡ pattern_for default (option_map special_pattern_of special) last
pair_chosen default None last = refl
pair_chosen default (Some s) last = refl

-- the pattern of two items that is chosen
pub two_chosen : (start : Pattern) (between : List ℕ) (end : ConditionalListJoinerPattern)
    (pair : Option ConditionalListJoinerPattern) (last : List ℕ)
    → end.default.prefix ≡ [] → prefix_of_special end.special_case ≡ []
    → chosen (unwrap_or pair end) last ≡ two_for (patterns start between end pair) last
two_chosen start between end None last e f = end_chosen end.default end.special_case last e f
two_chosen start between end (Some p) last e f = pair_chosen p.default p.special_case last

-- the texts round a list of two
abbrev pub frame : List ℕ → List ℕ → List ℕ → Frame
frame before between behind =
    record { before = before; first = between; between = between; last = between; behind = behind }

-- these are the texts of the pattern
pub frame_is : (before between behind : List ℕ) (q : Pattern) → before ≡ q.prefix
    → between ≡ q.between → behind ≡ q.suffix → frame before between behind ≡ frame_two q
frame_is before between behind q e f h =
    ap (λ (x : List ℕ). frame x between behind) e ∙ ap (λ (x : List ℕ). frame q.prefix x behind) f
    ∙ ap (λ (x : List ℕ). frame q.prefix q.between x) h

-- ---- four texts

-- an end pattern is read as a pair alike
shared_by : (b : Bool) (q p : Pattern) → is_empty q.prefix ≡ b
    → joiner_by false true (Some q) ≡ Ok p → joiner_by true true (Some q) ≡ Ok p
shared_by true q p e h = rw e at h
shared_by false q p e h = let no = not_allowed_prefix false true q e in absurd cc

-- an end pattern is a pair pattern
pub shared : (text : List ℕ) (p : Pattern) → joiner false true text ≡ Ok p
    → joiner true true text ≡ Ok p
shared text p h = by (pattern_of text) h where
  by : (o : Option Pattern) → joiner_by false true o ≡ Ok p → joiner_by true true o ≡ Ok p
  by None h = absurd cc
  by (Some q) h = shared_by (is_empty q.prefix) q p refl h

-- patterns made of their texts
pub made : (s m e t : List ℕ) (start last two : Pattern) (between : List ℕ)
    (end : ConditionalListJoinerPattern) (pair : Option ConditionalListJoinerPattern)
    → joiner true false s ≡ Ok start → middle m ≡ Ok between → joiner false true e ≡ Ok last
    → joiner true true t ≡ Ok two
    → end.default ≡ last → end.special_case ≡ None
    → option_map pair_of pair ≡ pair_for (same_text t e) two
    → ArePatternsOf s m e t (patterns start between end pair)
made s m e t start last two between end pair hs hm he ht default special kept = record {
  start = start;
  end = last;
  pair = two;
  start_is = hs;
  middle_is = hm;
  end_is = he;
  pair_is = ht;
  kept_start = refl;
  kept_end =
      ap
      (λ (p : Pattern).
      record {
        default = closing_of p;
        special = option_map special_closing_of end.special_case;
      }) default
      ∙ ap (λ (o : Option SpecialCasePattern).
      record { default = closing_of last; special = option_map special_closing_of o }) special;
  kept_pair = kept;
}

-- no pair is stored
pub pair_none : (b : Bool) (two : Pattern) → b ≡ true → option_map pair_of None ≡ pair_for b two
pair_none true two e = refl
pair_none false two e = absurd cc

-- a pair is stored
pub pair_some : (b : Bool) (two : Pattern) (c : ConditionalListJoinerPattern) → b ≡ false
    → c.default ≡ two → c.special_case ≡ None → option_map pair_of (Some c) ≡ pair_for b two
pair_some true two c e d s = absurd cc
pair_some false two c e d s =
    ap
    (λ (p : Pattern).
    Some (record { default = p; special = option_map special_pattern_of c.special_case })) d
    ∙ ap
    (λ (o : Option SpecialCasePattern).
    Some (record { default = two; special = option_map special_pattern_of o })) s
