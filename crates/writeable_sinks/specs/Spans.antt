-- Where the parts of a marked text lie.
use Rattle.std.specs.Prelude.{ℕ, List, [], ◌∷◌, ◌++◌, nat_lt, if◌then◌else◌}
use Rattle.writeable_core.specs.Hint.{byte_length}
use Rattle.writeable_core.specs.Marks.{Mark, Character, Open, PartName, part_name, characters}
use Rattle.writeable_core.specs.Marks.{inside, Nests}
use Rattle.writeable_sinks.specs.declared.parts_sink.PartSpan.{PartSpan}

-- a part and the bytes that it spans, the last one excluded
pub record Span : Type 0 where
  pub start : ℕ
  pub end : ℕ
  pub part : PartName

abbrev pub span_of : PartSpan → Span
span_of span = record { start = span.start; end = span.end; part = part_name span.part }

-- the span from one byte to another, where it isn't empty
abbrev pub span_unless_empty : ℕ → ℕ → PartName → List Span
span_unless_empty start end part =
    if nat_lt start end then record { start = start; end = end; part = part } ∷ [] else []

-- The spans of a marked text, in order of closing, without empty ones. A mark closes the part that
-- was opened last among those that are open, which is the one since whose opening all marks nest.
pub data Spans : List Mark → List Span → Type 0 where
  nothing : Spans [] []
  character : (c : ℕ) (marks : List Mark) (spans : List Span) → Spans marks spans
      → Spans (marks ++ Character c ∷ []) spans
  opening : (part : PartName) (marks : List Mark) (spans : List Span) → Spans marks spans
      → Spans (marks ++ Open part ∷ []) spans
  closing : (part : PartName) (front inner : List Mark) (spans : List Span)
      → Spans (front ++ Open part ∷ inner) spans → Nests inner
      → Spans (front ++ inside part inner)
      (spans ++ span_unless_empty (byte_length (characters front))
      (byte_length (characters (front ++ inner))) part)
