-- How a catalog keeps its messages: one buffer, and a table of ranges in it, whose keys ascend.
use Rattle.std.specs.Prelude.{◌≡◌, ℕ, ◌-◌, ◌≤◌, true, false, List, [], ◌∷◌, Option, Some, None}
use Rattle.std.specs.Prelude.{if◌then◌else◌, encode_utf8_all, length, take, drop, map}
use Rattle.std.specs.Option.{option_or}
use Rattle.std.specs.List.{list_all, AllByRecursion}
use Rattle.std.specs.List.Sorted.{IsStrictlySortedBy}
use Rattle.std.specs.Ordering.{nat_cmp}
use Rattle.std.specs.Cmp.Lexicographic.{slice_cmp}
use Rattle.std.specs.Str.{is_utf8, chars}
use Rattle.gettext.specs.declared.spans.Span.{Span}
use Rattle.gettext.specs.declared.spans.Row.{Row}
use Rattle.writeable_core.specs.Texts.{same_text}
use Rattle.gettext.specs.Messages.{Message, Messages, lookup, bound, has_id}
use Rattle.gettext.specs.declared.plurals.rule.PluralRule.{PluralRule}
use Rattle.gettext.specs.Rule.{rule_shown}
use Rattle.gettext.specs.Layout.{pieces_of}

-- what clauses see of the entries of a catalog
pub record Held : Type 0 where
  pub rule : PluralRule
  pub pairs : List Message
  pub buffer : List ℕ

-- the messages of a catalog
abbrev pub messages_of : Held → Messages
messages_of h = record { rule = rule_shown h.rule; pairs = h.pairs }

-- the bytes of a range
abbrev pub bytes_at : List ℕ → Span → List ℕ
bytes_at buffer span = take (span.end - span.start) (drop span.start buffer)

-- the bytes of the key of a row
unfoldable pub key_bytes : List ℕ → Row → List ℕ
key_bytes buffer row = bytes_at buffer row.key

-- the bytes of each form of a row
unfoldable pub form_bytes : List ℕ → Row → List (List ℕ)
form_bytes buffer row = pieces_of (bytes_at buffer row.forms)

-- the message of a row
unfoldable pub message_at : List ℕ → Row → Message
message_at buffer row = record {
  key = chars (key_bytes buffer row);
  forms = map chars (form_bytes buffer row);
}

-- what rows of a buffer and a rule hold
unfoldable pub held : List ℕ → List Row → PluralRule → Held
held buffer rows rule = record {
  rule = rule;
  pairs = map (message_at buffer) rows;
  buffer = buffer;
}

-- the last row with the bytes of a key
abbrev pub row_for : List ℕ → List Row → List ℕ → Option Row
row_for buffer [] key = None
row_for buffer (r ∷ rs) key =
    option_or (row_for buffer rs key) (if same_text (key_bytes buffer r) key then Some r else None)

-- a range lies in the buffer
pub record LiesIn (buffer : List ℕ) (span : Span) : Type 0 where
  pub ordered : span.start ≤ span.end
  pub inside : span.end ≤ length buffer

-- the ranges of a row lie in the buffer, and its texts are UTF-8
pub record IsRowOf (buffer : List ℕ) (row : Row) : Type 0 where
  pub key_inside : LiesIn buffer row.key
  pub key : is_utf8 (key_bytes buffer row) ≡ true
  pub forms_inside : LiesIn buffer row.forms
  pub forms : list_all is_utf8 (form_bytes buffer row) ≡ true

-- each row fits, and the keys ascend, so that no two are one
pub record IsTable (buffer : List ℕ) (rows : List Row) : Type 0 where
  pub rows_fit : AllByRecursion (IsRowOf buffer) rows
  pub keys_ascend : IsStrictlySortedBy (slice_cmp nat_cmp) (map (key_bytes buffer) rows)

-- the table finds what the rows find, in whatever order they are
pub record Sorts (buffer : List ℕ) (rows sorted : List Row) : Type 0 where
  pub table : IsTable buffer sorted
  pub finds : (q : List ℕ) → row_for buffer sorted q ≡ row_for buffer rows q

-- at most one message has an empty id
abbrev pub HasOneHeader : List Message → Type 0
HasOneHeader pairs = (k q : List ℕ) (m n : Message) → lookup pairs k ≡ Some m
    → lookup pairs q ≡ Some n → has_id k ≡ false → has_id q ≡ false → k ≡ q

-- the table, and what bounds the numbers of its forms
pub record Keeps (buffer : List ℕ) (rows : List Row) (rule : PluralRule)
    (plurals : Option ℕ) : Type 0 where
  pub table : IsTable buffer rows
  pub header : HasOneHeader (map (message_at buffer) rows)
  pub bounded : plurals ≡ bound (messages_of (held buffer rows rule))

-- where a piece of a text stands, if there is one
abbrev pub IsPieceSpan : List ℕ → Option (ℕ × ℕ) → Option (List ℕ) → Type 0
IsPieceSpan text None piece = piece ≡ None
IsPieceSpan text (Some span) piece = (span.0 ≤ span.1) × (span.1 ≤ length text)
    × (piece ≡ Some (take (span.1 - span.0) (drop span.0 text)))

-- where the text of a form stands in the buffer, in UTF-8, if there is one
abbrev pub IsRangeOf : List ℕ → Option (ℕ × ℕ) → Option (ℕ × List ℕ) → Type 0
IsRangeOf buffer None None = Unit {0}
IsRangeOf buffer (Some range) (Some form) = (range.0 ≤ range.1) × (range.1 ≤ length buffer)
    × (take (range.1 - range.0) (drop range.0 buffer) ≡ encode_utf8_all form.1)
IsRangeOf buffer None (Some form) = ⊥
IsRangeOf buffer (Some range) None = ⊥
