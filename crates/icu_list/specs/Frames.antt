-- A list from left to right: what stands before the first item, behind each but the last two,
-- between the last two, and behind the last. Private contracts cite it; the nested substitution
-- decides (proofs/Framing.antt).
use Rattle.std.specs.Prelude.{ℕ, Bool, true, false, List, [], ◌∷◌, ◌++◌}
use Rattle.std.specs.Str.{chars}
use Rattle.icu_list.specs.Pattern.{Pattern}
use Rattle.icu_list.specs.Patterns.{Patterns, Closing, end_for, two_for}
use Rattle.icu_list.specs.declared.provider.joints.Joints.{Joints}

-- the texts before, between and behind the items
pub record Frame : Type 0 where
  pub before : List ℕ
  pub first : List ℕ
  pub between : List ℕ
  pub last : List ℕ
  pub behind : List ℕ

-- the frame that the code holds
abbrev pub frame_of : Joints → Frame
frame_of j =
    record {
      before = chars j.before.now;
      first = chars j.first.now;
      between = chars j.middle.now;
      last = chars j.last.now;
      behind = chars j.behind.now;
    }

-- the frame of two items, and of more
abbrev pub frame_two : Pattern → Frame
frame_two p =
    record {
      before = p.prefix;
      first = p.between;
      between = p.between;
      last = p.between;
      behind = p.suffix;
    }

-- the texts round three items or more
abbrev pub frame_more : Patterns → Closing → Frame
frame_more p end =
    record {
      before = p.start.prefix;
      first = p.start.between;
      between = p.middle;
      last = end.between;
      behind = end.suffix;
    }

-- the texts round the items of a list
abbrev pub frame_for : Patterns → Bool → List ℕ → Frame
frame_for p true last = frame_two (two_for p last)
frame_for p false last = frame_more p (end_for p last)

module _ {A : Type 0} (literal : List ℕ → List A) (f : Frame) (z : List A) where
  -- what is left behind an item: each further one with the text before it, and the last one
  abbrev pub left : List ℕ → List (List A) → List A
  left between [] = (literal f.last ++ z) ++ literal f.behind
  left between (b ∷ items) = (literal between ++ b) ++ left f.between items

-- a first item, those up to the last, and the last
abbrev pub whole : {A : Type 0} → (List ℕ → List A) → Frame → List A → List (List A)
    → List A → List A
whole literal f a inner z = (literal f.before ++ a) ++ left literal f z f.first inner
