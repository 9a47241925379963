-- Patterns as JSON objects: `string` is the text without placeholders, and `index_1` the place of
-- the second item in it, in bytes.
use Rattle.std.specs.Prelude.{◌≡◌, ℕ, ◌≤◌, List, ◌++◌, Option, Some, codes, chars, option_and_then}
use Rattle.std.specs.Prelude.{encode_utf8_all}
use Rattle.serde_json.specs.Data.{Data, object, member, no_members, number, unsigned, string}
use Rattle.writeable_core.specs.Hint.{byte_length}
use Rattle.serde_json.specs.Find.{get, as_str, as_u64, as_number}
use Rattle.icu_list.specs.Pattern.{Pattern, IsPlace, pattern_at, texts}
use Rattle.icu_list.specs.declared.error.DataError.{DataError}
use Rattle.icu_list.specs.declared.error.DataError.TheVariants.{InvalidPattern, CannotStore}
use Rattle.icu_list.specs.declared.error.DataError.TheVariants.{Condition, MissingLocale}
use Rattle.icu_list.specs.declared.error.DataError.TheVariants.{NotJsonForm, NoMemory}

-- the object of a pattern; what stands before the first item isn't told apart
abbrev pub json_of : Pattern → Data
json_of p =
    object (member (codes "index_1") (number (unsigned (byte_length (p.prefix ++ p.between))))
    (member (codes "string") (string (encode_utf8_all (texts p))) no_members))

-- a place in the text, of those that are stored
pub record IsStoredPlace (text : List ℕ) (place : ℕ) : Type 0 where
  pub small : place ≤ 255
  pub boundary : IsPlace text place

-- the text of the member `string`, and the number of the member `index_1`
abbrev pub string_of : Data → Option (List ℕ)
string_of d = option_and_then as_str (get (codes "string") d)

-- the number of the member `index_1`
abbrev pub place_of : Data → Option ℕ
place_of d = option_and_then as_u64 (option_and_then as_number (get (codes "index_1") d))

-- the pattern of an object
pub record IsOfJson (d : Data) (p : Pattern) : Type 0 where
  pub text : List ℕ
  pub place : ℕ
  pub string_is : string_of d ≡ Some text
  pub place_is : place_of d ≡ Some place
  pub stored : IsStoredPlace (chars text) place
  pub pattern_is : p ≡ pattern_at (chars text) 0 place

-- no text and place that can be stored
abbrev pub HasNoPattern : Data → Type 0
HasNoPattern d = (text : List ℕ) (place : ℕ) → string_of d ≡ Some text → place_of d ≡ Some place
    → IsStoredPlace (chars text) place → ⊥

-- why an object is no pattern, unless memory ran out
abbrev pub IsJsonFault : Data → DataError → Type 0
IsJsonFault d NotJsonForm = HasNoPattern d
IsJsonFault d NoMemory = Unit {0}
IsJsonFault d InvalidPattern = ⊥
IsJsonFault d CannotStore = ⊥
IsJsonFault d (Condition error) = ⊥
IsJsonFault d MissingLocale = ⊥

-- the place isn't one that is stored, or memory ran out
abbrev pub IsUnplaced : List ℕ → ℕ → DataError → Type 0
IsUnplaced text place NotJsonForm = IsStoredPlace text place → ⊥
IsUnplaced text place NoMemory = Unit {0}
IsUnplaced text place InvalidPattern = ⊥
IsUnplaced text place CannotStore = ⊥
IsUnplaced text place (Condition error) = ⊥
IsUnplaced text place MissingLocale = ⊥
