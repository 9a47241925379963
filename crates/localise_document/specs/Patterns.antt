-- How a locale joins lists, as a document says it.
use Rattle.std.specs.Prelude.{ℕ, List, [], ◌∷◌, codes, Option, Some, None, if◌then◌else◌}
use Rattle.std.specs.Prelude.{option_map, option_and_then}
use Rattle.serde_json.specs.Data.{Data, Members}
use Rattle.serde_json.specs.Find.{as_object, get_member}
use Rattle.localise_texts.specs.declared.patterns.PatternTexts.{PatternTexts}
use Rattle.localise_texts.specs.declared.patterns.Special.{Special}
use Rattle.localise_document.specs.Members.{has_only}
use Rattle.localise_document.specs.Shape.{text_of}

-- what is read behind a first step
infixl 10 ◌>>=◌
abbrev pub ◌>>=◌ : {A B : Type 0} → Option A → (A → Option B) → Option B
(Some x) >>= f = f x
None >>= f = None

-- a text that must be there
abbrev pub text_in : Option Data → Option (List ℕ)
text_in member = option_and_then text_of member

-- the names of a special's members
abbrev pub special_names : List (List ℕ)
special_names = codes "condition" ∷ codes "pattern" ∷ []

-- a condition on the last item, and the pattern that it calls for
unfoldable pub special_in : Members → Option Special
special_in ms = do
  condition ← text_in (get_member (codes "condition") ms)
  pattern ← text_in (get_member (codes "pattern") ms)
  Some (record { condition = condition; pattern = pattern })

-- an object's members, which have no other names than these
abbrev pub only_members : List (List ℕ) → Data → Option Members
only_members names d =
    option_and_then (λ ms. if has_only names ms then Some ms else None) (as_object d)

-- the special that a value is
unfoldable pub special_of : Data → Option Special
special_of d = do
  ms ← only_members special_names d
  special_in ms

-- a special that may be absent: Some None where it is
abbrev pub optional_special : Option Data → Option (Option Special)
optional_special None = Some None
optional_special (Some d) = option_map (λ special. Some special) (special_of d)

-- the names of a patterns object's members
abbrev pub pattern_names : List (List ℕ)
pattern_names =
    codes "end" ∷ codes "end_special" ∷ codes "middle" ∷ codes "pair" ∷ codes "pair_special"
    ∷ codes "start" ∷ []

-- four patterns, and specials that may be absent
unfoldable pub patterns_in : Members → Option PatternTexts
patterns_in ms = do
  start ← text_in (get_member (codes "start") ms)
  middle ← text_in (get_member (codes "middle") ms)
  end ← text_in (get_member (codes "end") ms)
  pair ← text_in (get_member (codes "pair") ms)
  end_special ← optional_special (get_member (codes "end_special") ms)
  pair_special ← optional_special (get_member (codes "pair_special") ms)
  Some
      (record {
        start = start;
        middle = middle;
        end = end;
        pair = pair;
        end_special = end_special;
        pair_special = pair_special;
      })

-- the patterns that a value is
unfoldable pub patterns_of : Data → Option PatternTexts
patterns_of d = do
  ms ← only_members pattern_names d
  patterns_in ms

-- the pattern that stands where none is given
abbrev pub default_pattern : List ℕ
default_pattern = codes "{0}, {1}"

-- the patterns of a document without a root
abbrev pub default_patterns : PatternTexts
default_patterns =
    record {
      start = default_pattern;
      middle = default_pattern;
      end = default_pattern;
      pair = default_pattern;
      end_special = None;
      pair_special = None;
    }
