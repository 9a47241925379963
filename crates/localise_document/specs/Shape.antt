-- Shapes of JSON values (RFC 8259): what is read of a value, or what of it is misshapen.
use Rattle.std.specs.Prelude.{ℕ, ◌+◌, List, [], ◌∷◌, Option, Some, None, Result, Ok, Err, ok_or}
use Rattle.std.specs.Prelude.{if◌then◌else◌, option_map, option_and_then}
use Rattle.std.specs.Str.{chars}
use Rattle.serde_json.specs.Data.{Data, Items, no_items, item, Members}
use Rattle.serde_json.specs.Find.{as_array, as_number, as_object, as_str, as_u64}
use Rattle.localise_document.specs.Members.{has_only}
use Rattle.localise_document.specs.declared.place.Field.{Field}
use Rattle.localise_document.specs.declared.place.Field.TheVariants.{Whole}
use Rattle.localise_document.specs.declared.place.Section.{Section}
use Rattle.localise_document.specs.declared.place.ShapePlace.{ShapePlace}

-- what is misshapen first, or what is read behind a first step
infixl 10 ◌>>=◌
abbrev pub ◌>>=◌ : {A B F : Type 0} → Result A F → (A → Result B F) → Result B F
(Ok x) >>= f = f x
(Err e) >>= f = Err e

-- ---- values

-- a text, as its characters
abbrev pub text_of : Data → Option (List ℕ)
text_of d = option_map chars (as_str d)

-- a whole number below 2 ^ 64
abbrev pub count_of : Data → Option ℕ
count_of d = option_and_then as_u64 (as_number d)

-- each text of a list
abbrev pub each_text : Items → Option (List (List ℕ))
each_text no_items = Some []
each_text (item d ds) =
    option_and_then (λ text. option_map (λ rest. text ∷ rest) (each_text ds)) (text_of d)

-- a list of texts
abbrev pub text_list_of : Data → Option (List (List ℕ))
text_list_of d = option_and_then each_text (as_array d)

-- ---- members of an object

-- a member that must be there
abbrev pub needed : {A F : Type 0} → (Data → Option A) → F → Option Data → Result A F
needed f fault None = Err fault
needed f fault (Some d) = ok_or (f d) fault

-- a member that may be absent
abbrev pub optional : {A F : Type 0} → (Data → Option A) → F → Option Data → Result (Option A) F
optional f fault None = Ok None
optional f fault (Some d) = ok_or (option_map (λ a. Some a) (f d)) fault

-- a member in whose place something else stands where it is absent
abbrev pub optional_or : {A F : Type 0} → A → (Data → Option A) → F → Option Data → Result A F
optional_or absent f fault None = Ok absent
optional_or absent f fault (Some d) = ok_or (f d) fault

-- an object's members, which have no other names than these
abbrev pub members_in : {F : Type 0} → List (List ℕ) → (whole unknown : F) → Data → Result Members F
members_in names whole unknown d = do
  ms ← ok_or (as_object d) whole
  if has_only names ms then Ok ms else Err unknown

-- ---- places

-- a place that is in no row
abbrev pub place_of : Section → Field → ShapePlace
place_of section field = record { section = section; index = 0; field = field }

-- a field of a row, as a place
abbrev pub in_row : {A : Type 0} → Section → ℕ → Result A Field → Result A ShapePlace
in_row section index (Ok row) = Ok row
in_row section index (Err field) = Err (record { section = section; index = index; field = field })

-- the rows of a list from a row of this number on, or the first misshapen one
abbrev pub rows_from : {A : Type 0} → (Data → Result A Field) → Section → ℕ → Items
    → Result (List A) ShapePlace
rows_from row section index no_items = Ok []
rows_from row section index (item d ds) = do
  first ← in_row section index (row d)
  rest ← rows_from row section (index + 1) ds
  Ok (first ∷ rest)

-- a list of rows; what isn't a list is misshapen by the field that stands for the whole of it
abbrev pub list_of : {A : Type 0} → (Data → Result A Field) → Section → (whole : Field) → Data
    → Result (List A) ShapePlace
list_of row section whole d = do
  ds ← ok_or (as_array d) (place_of section whole)
  rows_from row section 0 ds

-- a list that must be there
abbrev pub needed_list : {A : Type 0} → (Data → Result A Field) → Section → Option Data
    → Result (List A) ShapePlace
needed_list row section None = Err (place_of section Whole)
needed_list row section (Some d) = list_of row section Whole d
