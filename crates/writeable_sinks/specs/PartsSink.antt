-- What a contract sees of a `PartsSink`, and how a marked text changes it.
use Rattle.std.specs.Prelude.{◌≡◌, ℕ, List, [], ◌∷◌, ◌++◌, Option, Some, None, option_and_then}
use Rattle.writeable_core.specs.Hint.{byte_length}
use Rattle.writeable_core.specs.Marks.{Mark, Character, Open, Close, PartName}
use Rattle.writeable_sinks.specs.Spans.{Span, span_unless_empty}

-- a part that is open, and the byte that it began at
pub record Begun : Type 0 where
  pub start : ℕ
  pub part : PartName

-- the text, the parts that are open from the one that was opened last on, and the spans of those
-- that were closed
pub record Parts : Type 0 where
  pub text : List ℕ
  pub begun : List Begun
  pub spans : List Span

abbrev pub parts : List ℕ → List Begun → List Span → Parts
parts text begun spans = record { text = text; begun = begun; spans = spans }

-- nothing was taken
abbrev pub no_parts : Parts
no_parts = parts [] [] []

-- the sink with a text at its end
abbrev pub with_text : Parts → List ℕ → Parts
with_text sink text = parts (sink.text ++ text) sink.begun sink.spans

-- the sink with a part that begins here
abbrev pub with_part : Parts → PartName → Parts
with_part sink part =
    parts sink.text (record { start = byte_length sink.text; part = part } ∷ sink.begun) sink.spans

-- the sink with the span of a part that ends here, if it isn't empty
abbrev pub with_span : Parts → Begun → Parts
with_span sink part =
    parts sink.text sink.begun
    (sink.spans ++ span_unless_empty part.start (byte_length sink.text) part.part)

-- the sink once the part that was opened last is closed; None where none is open
abbrev pub without_part : Parts → List Begun → Option Parts
without_part sink [] = None
without_part sink (last ∷ others) =
    Some
    (parts sink.text others
    (sink.spans ++ span_unless_empty last.start (byte_length sink.text) last.part))

-- the sink after a marked text; None where that closes a part and none is open
abbrev pub parts_after : Parts → List Mark → Option Parts
parts_after sink [] = Some sink
parts_after sink (Character c ∷ marks) = parts_after (with_text sink (c ∷ [])) marks
parts_after sink (Open part ∷ marks) = parts_after (with_part sink part) marks
parts_after sink (Close ∷ marks) =
    option_and_then (λ now. parts_after now marks) (without_part sink sink.begun)

-- the sink took a text
abbrev pub TookText : Parts → List ℕ → Parts → Type 0
TookText before text now = now ≡ with_text before text

-- the sink took a marked text
abbrev pub TookMarks : Parts → List Mark → Parts → Type 0
TookMarks before marks now = parts_after before marks ≡ Some now
