-- The metadata of a catalog: the translation of the empty id (GNU gettext manual, 'Filling in the
-- Header Entry'). Texts are given by their bytes in UTF-8. All that they are cut at is ASCII.
use Rattle.std.specs.Prelude.{ℕ, ◌^◌, Bool, not, ◌&&◌, ◌||◌, List, [], ◌∷◌, length, drop, map}
use Rattle.std.specs.Prelude.{codes, Option, Some, None, nat_lt, nat_eq, ◌==◌, if◌then◌else◌}
use Rattle.std.specs.Option.{option_map, option_or, option_and_then}
use Rattle.std.specs.List.{list_all, slice_split, starts_with}
use Rattle.std.specs.Char.{is_ascii_digit}
use Rattle.std.specs.Str.{trim}
use Rattle.std.specs.Str.Parse.{digits_value, without_leading_plus}
use Rattle.std.specs.Cmp.Lexicographic.{slice_cmp}
use Rattle.writeable_core.specs.Texts.{same_text}
use Rattle.std.specs.Ordering.{nat_cmp}
use Rattle.std.specs.Borrow.{Bor}
use Rattle.std.specs.BTreeMap.{BTreeMap}
use Rattle.std.specs.Coded.{Coded, coded_ℕ, coded_list}
use Rattle.std.specs.FinMap.{FinMap, get, from_entries, code}

-- a name, and the value that it has
pub record Field : Type 0 where
  pub name : List ℕ
  pub value : List ℕ

-- what lines end at
abbrev pub is_line_feed : ℕ → Bool
is_line_feed c = c == 10

-- what stands between the name and the value of a line
abbrev pub is_colon : ℕ → Bool
is_colon c = c == 58

-- what the pieces of Plural-Forms end at
abbrev pub is_semicolon : ℕ → Bool
is_semicolon c = c == 59

-- what stands between the name and the value of a piece
abbrev pub is_equals_sign : ℕ → Bool
is_equals_sign c = c == 61

-- what stands before the first character of a kind, and what behind it
abbrev pub cut_at : (ℕ → Bool) → List ℕ → Option (List ℕ × List ℕ)
cut_at p [] = None
cut_at p (c ∷ cs) = if p c then Some ([], cs) else option_map (λ x. (c ∷ x.0, x.1)) (cut_at p cs)

-- a name and a value with such a character between them, and white space around both
abbrev pub field_of : (ℕ → Bool) → List ℕ → Option Field
field_of p text = option_map (λ x. record { name = trim x.0; value = trim x.1 }) (cut_at p text)

-- the fields of the lines that aren't empty; there are none where one of these has no colon
abbrev pub fields_in : List (List ℕ) → Option (List Field)
fields_in [] = Some []
fields_in (line ∷ lines) =
    if length line == 0
    then fields_in lines
    else option_and_then (λ f. option_map (λ fs. f ∷ fs) (fields_in lines)) (field_of is_colon line)

-- the fields of the metadata, line by line
unfoldable pub fields_of : List ℕ → Option (List Field)
fields_of text = fields_in (slice_split is_line_feed text)

-- the value of the last field whose name passes a test
abbrev pub last_value : (List ℕ → Bool) → List Field → Option (List ℕ)
last_value p [] = None
last_value p (f ∷ fs) = option_or (last_value p fs) (if p f.name then Some f.value else None)

-- the value of the last field with that name
unfoldable pub value_of : List Field → List ℕ → Option (List ℕ)
value_of fields name = last_value (same_text name) fields

-- ---- the charset

-- what stands behind the first place of a word, and what before it
abbrev pub after_word : List ℕ → List ℕ → Option (List ℕ)
after_word word [] = None
after_word word (c ∷ cs) =
    if starts_with nat_eq (c ∷ cs) word then Some (drop (length word) (c ∷ cs))
    else after_word word cs

-- what stands before the first place of a word, or the whole text
abbrev pub before_word : List ℕ → List ℕ → List ℕ
before_word word [] = []
before_word word (c ∷ cs) = if starts_with nat_eq (c ∷ cs) word then [] else c ∷ before_word word cs

-- what the name of the encoding stands behind
abbrev pub charset_word : List ℕ
charset_word = codes "charset="

-- the name of the encoding in the value of Content-Type
unfoldable pub charset_in : List ℕ → Option (List ℕ)
charset_in content_type =
    option_map (before_word charset_word) (after_word charset_word content_type)

-- ---- plural forms

-- a field, where there is one, before others
abbrev pub field_before : Option Field → List Field → List Field
field_before None fields = fields
field_before (Some f) fields = f ∷ fields

-- the pieces that have an equals sign
abbrev pub fields_among : List (List ℕ) → List Field
fields_among [] = []
fields_among (piece ∷ pieces) = field_before (field_of is_equals_sign piece) (fields_among pieces)

-- the value of Plural-Forms as fields
unfoldable pub plural_fields : List ℕ → List Field
plural_fields text = fields_among (slice_split is_semicolon text)

-- the expression in the value of Plural-Forms
unfoldable pub plural_in : List ℕ → Option (List ℕ)
plural_in text = value_of (plural_fields text) (codes "plural")

-- the two names of the number of plurals
abbrev pub names_count : List ℕ → Bool
names_count name = same_text name (codes "nplurals") || same_text name (codes "n_plurals")

-- a decimal number below 2 ^ 64, which a plus sign may stand before
unfoldable pub number_in : List ℕ → Option ℕ
number_in text =
    let digits = without_leading_plus text in
    if not (length digits == 0) && list_all is_ascii_digit digits
    && nat_lt (digits_value 10 digits) (2 ^ 64)
    then Some (digits_value 10 digits) else None

-- the number of plurals in the value of Plural-Forms
unfoldable pub count_in : List ℕ → Option ℕ
count_in text = option_and_then number_in (last_value names_count (plural_fields text))

-- ---- what contracts see

-- what each name gives
abbrev pub FieldMap : Type 0
FieldMap = FinMap (slice_cmp nat_cmp) (List ℕ)

-- that a map of texts is data, as a model asks
abbrev pub field_map_code : Coded FieldMap
field_map_code = code (coded_list coded_ℕ) (coded_list coded_ℕ)

-- the value that a map has under a name
abbrev pub gives : FieldMap → List ℕ → Option (List ℕ)
gives map name = get map name

-- the map of texts that a map of borrowed texts is
unfoldable pub field_map : BTreeMap (Bor (List ℕ)) (Bor (List ℕ)) → FieldMap
field_map m = from_entries (map (λ e. (e.0.now, e.1.now)) m.entries)

-- a name and a value that are borrowed
abbrev pub shown : Bor (List ℕ) × Bor (List ℕ) → Field
shown x = record { name = x.0.now; value = x.1.now }
