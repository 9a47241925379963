-- What an MO file means (GNU gettext manual, section 10.3).
use Rattle.std.specs.Prelude.{◌≡◌, ◌⊎◌, ℕ, suc, ◌≤◌, ◌<◌, Bool, true, false, ◌||◌, List, [], ◌∷◌}
use Rattle.std.specs.Prelude.{length, take, map, codes, Option, Some, None, ◌==◌, if◌then◌else◌}
use Rattle.std.specs.Prelude.{encode_utf8_all}
use Rattle.std.specs.List.{slice_get, list_any}
use Rattle.std.specs.Option.{option_and_then, unwrap_or}
use Rattle.std.specs.Str.{chars}
use Rattle.gettext.specs.declared.encoding.Encoding.{Encoding}
use Rattle.gettext.specs.declared.encoding.Encoding.TheVariants.{Utf8}
use Rattle.gettext.specs.Options.{Options}
use Rattle.gettext.specs.Encoding.{IsText, text_in, encoding_of}
use Rattle.gettext.specs.Metadata.{Field, fields_of, value_of, charset_in, plural_in}
use Rattle.gettext.specs.Expression.{Expression}
use Rattle.gettext.specs.Grammar.{expr}
use Rattle.gettext.specs.Messages.{Message, Messages, Rule, Default, Expr, Function, has_id}
use Rattle.gettext.specs.Layout.{is_nul, little_endian, big_endian, count_of, originals_of}
use Rattle.gettext.specs.Layout.{translations_of, original_of, translation_of, head_of, pieces_of}
use Rattle.gettext.specs.Layout.{LiesInside}

-- ---- the metadata

-- form 0 of row 0, where its id is empty
abbrev pub header_text : List Message → Option (List ℕ)
header_text [] = None
header_text (m ∷ ms) = if has_id m.key then None else slice_get m.forms 0

-- the fields of a header, of which there are none without one
abbrev pub fields_of_header : Option (List ℕ) → Option (List Field)
fields_of_header None = Some []
fields_of_header (Some text) = fields_of (encode_utf8_all text)

-- the fields of the metadata, which are none where there is no header
abbrev pub header_fields : List Message → Option (List Field)
header_fields pairs = fields_of_header (header_text pairs)

-- the name of the encoding among the fields
abbrev pub charset_of : List Field → Option (List ℕ)
charset_of fields = option_and_then charset_in (value_of fields (codes "Content-Type"))

-- the plural expression among the fields
abbrev pub plural_of : List Field → Option (List ℕ)
plural_of fields = option_and_then plural_in (value_of fields (codes "Plural-Forms"))

-- the encoding that is forced, else the one that a label names, else UTF-8
abbrev pub encoding_by : Option Encoding → Option (List ℕ) → Option Encoding
encoding_by (Some forced) charset = Some forced
encoding_by None None = Some Utf8
encoding_by None (Some label) = encoding_of label

-- the encoding of the rows behind the metadata: the one that is forced, else the one that the
-- charset names, else UTF-8
abbrev pub named_encoding : Options → List Field → Option Encoding
named_encoding o fields = encoding_by o.encoding (charset_of fields)

-- the encoding of row 0: the one that is forced, else UTF-8
abbrev pub first_encoding : Options → Encoding
first_encoding o = unwrap_or o.encoding Utf8

-- a forced function is the rule, else an expression that is there, else the default
abbrev pub IsRuleBy : Bool → Option (List ℕ) → Rule → Type 0
IsRuleBy true plural rule = rule ≡ Function
IsRuleBy false None rule = rule ≡ Default
IsRuleBy false (Some plural) rule = (e : Expression) × expr (chars plural) e × (rule ≡ Expr e)

-- the rule of a file with these fields
abbrev pub IsRule : Options → List Field → Rule → Type 0
IsRule o fields rule = IsRuleBy o.forced (plural_of fields) rule

-- ---- what a file means

-- each piece of bytes is the text in its place
abbrev pub AreTexts : Encoding → List (List ℕ) → List (List ℕ) → Type 0
AreTexts e [] [] = Unit {0}
AreTexts e (bytes ∷ pieces) (text ∷ texts) = IsText e bytes text × AreTexts e pieces texts
AreTexts e [] (text ∷ texts) = ⊥
AreTexts e (bytes ∷ pieces) [] = ⊥

-- What row i of the file says is the message. Byte 4 is U+0004 in each encoding, so the head says
-- the whole key: the context, U+0004 and the id, or the id. An id is empty at row 0 alone.
pub record IsRow (b : List ℕ) (e : Encoding) (i : ℕ) (m : Message) : Type 0 where
  pub original : LiesInside b (originals_of b) i
  pub ended : list_any is_nul (original_of b i) ≡ true
  pub key : IsText e (head_of (original_of b i)) m.key
  pub id : ((i == 0) || has_id m.key) ≡ true
  pub translation : LiesInside b (translations_of b) i
  pub forms : AreTexts e (pieces_of (translation_of b i)) m.forms

-- the messages are rows i, i + 1 and so on, row i in one encoding and those behind it in another
abbrev pub AreRows : List ℕ → Encoding → Encoding → ℕ → List Message → Type 0
AreRows b e later i [] = Unit {0}
AreRows b e later i (m ∷ ms) = IsRow b e i m × AreRows b later later (suc i) ms

-- the file means c, read as the options ask
pub record entries (b : List ℕ) (o : Options) (c : Messages) : Type 0 where
  pub header : 28 ≤ length b
  pub magic : (take 4 b ≡ little_endian) ⊎ (take 4 b ≡ big_endian)
  pub originals : originals_of b ≤ length b
  pub translations : translations_of b ≤ length b
  pub count : length c.pairs ≡ count_of b
  pub fields : List Field
  pub metadata : header_fields c.pairs ≡ Some fields
  pub encoding : Encoding
  pub charset : named_encoding o fields ≡ Some encoding
  pub rows : AreRows b (first_encoding o) encoding 0 c.pairs
  pub rule : IsRule o fields c.rule

-- ---- the encodings of a file's rows

-- the message of a row of texts in an encoding
unfoldable pub row_message : List ℕ → Encoding → ℕ → Message
row_message b e i = record {
  key = text_in e (head_of (original_of b i));
  forms = map (text_in e) (pieces_of (translation_of b i));
}

-- the fields of the metadata of a file with a row
unfoldable pub fields_in_file : List ℕ → Options → Option (List Field)
fields_in_file b o = header_fields (row_message b (first_encoding o) 0 ∷ [])

-- the encoding of the rows behind row 0
unfoldable pub later_encoding : List ℕ → Options → Encoding
later_encoding b o = unwrap_or (named_encoding o (unwrap_or (fields_in_file b o) [])) Utf8

-- the encoding of row i
abbrev pub encoding_at : List ℕ → Options → ℕ → Encoding
encoding_at b o i = if i == 0 then first_encoding o else later_encoding b o

-- each row of the file is in UTF-8
abbrev pub IsInUtf8 : List ℕ → Options → Type 0
IsInUtf8 b o = (i : ℕ) → i < count_of b → encoding_at b o i ≡ Utf8
