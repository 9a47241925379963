-- Which texts are list patterns (UTS 35, List Patterns): the items' places are `{0}` and `{1}`.
use Rattle.std.specs.Prelude.{◌≡◌, ℕ, ◌-◌, Bool, true, false, ◌||◌, ◌&&◌, nat_le, nat_eq}
use Rattle.std.specs.Prelude.{if◌then◌else◌, List, [], ◌∷◌, ◌++◌, length, take, drop, codes, Option}
use Rattle.std.specs.Prelude.{Some, None, Result, Ok, Err, ◌<◌}
use Rattle.std.specs.List.{starts_with, ends_with}
use Rattle.std.specs.Option.{option_map}
use Rattle.writeable_core.specs.Hint.{byte_length}
use Rattle.writeable_core.specs.FirstFailure.{Condition, first_failure}
use Rattle.icu_list.specs.Pattern.{Pattern, pattern}
use Rattle.icu_list.specs.declared.error.DataError.{DataError}
use Rattle.icu_list.specs.declared.error.DataError.TheVariants.{InvalidPattern, CannotStore}
use Rattle.icu_list.specs.declared.error.DataError.TheVariants.{NoMemory}

-- what stands in a text before the first occurrence of a word, and what stands behind that
abbrev pub cut : List ℕ → List ℕ → Option (List ℕ × List ℕ)
cut word [] = None
cut word (c ∷ text) =
    if starts_with nat_eq (c ∷ text) word
    then Some ([], drop (length word) (c ∷ text))
    else option_map (λ x. (c ∷ x.0, x.1)) (cut word text)

-- where the first and the second item stand
abbrev pub first_item : List ℕ
first_item = codes "{0}"

-- where the second item stands
abbrev pub second_item : List ℕ
second_item = codes "{1}"

-- a pattern by what stands before the first item, whether a second item stands there, and what
-- stands before and behind the first second item behind it
abbrev pub pattern_by : List ℕ → Option (List ℕ × List ℕ) → Option (List ℕ × List ℕ)
    → Option Pattern
pattern_by prefix None (Some x) = Some (pattern prefix x.0 x.1)
pattern_by prefix None None = None
pattern_by prefix (Some early) x = None

-- a pattern, by the cut at the first item
abbrev pub pattern_behind : Option (List ℕ × List ℕ) → Option Pattern
pattern_behind None = None
pattern_behind (Some x) = pattern_by x.0 (cut second_item x.0) (cut second_item x.1)

-- The pattern of a text that has a first `{0}` before its first `{1}`.
abbrev pub pattern_of : List ℕ → Option Pattern
pattern_of text = pattern_behind (cut first_item text)

-- the text has no character
abbrev pub is_empty : List ℕ → Bool
is_empty [] = true
is_empty (c ∷ text) = false

-- how many bytes of prefix and between are stored at most
abbrev pub most_bytes : ℕ
most_bytes = 255

-- what is asked of a pattern, where a prefix and a suffix are allowed or not
abbrev pub joiner_conditions : Bool → Bool → Pattern → List (Condition DataError)
joiner_conditions prefix suffix p =
    (prefix || is_empty p.prefix, InvalidPattern)
    ∷ (suffix || is_empty p.suffix, InvalidPattern)
    ∷ (nat_le (byte_length (p.prefix ++ p.between)) most_bytes, CannotStore)
    ∷ []

-- a value, unless there is a fault
abbrev pub unless : {A : Type 0} → A → Option DataError → Result A DataError
unless x None = Ok x
unless x (Some fault) = Err fault

-- a pattern, where its prefix and its suffix are allowed and it can be stored
abbrev pub joiner_by : Bool → Bool → Option Pattern → Result Pattern DataError
joiner_by prefix suffix None = Err InvalidPattern
joiner_by prefix suffix (Some p) = unless p (first_failure (joiner_conditions prefix suffix p))

-- the pattern that a text is, or its first fault
abbrev pub joiner : Bool → Bool → List ℕ → Result Pattern DataError
joiner prefix suffix text = joiner_by prefix suffix (pattern_of text)

-- a middle pattern has six characters or more (and so six bytes), begins `{0}` and ends `{1}`
abbrev pub is_middle : List ℕ → Bool
is_middle text = nat_le 6 (length text)
    && (starts_with nat_eq text first_item && ends_with nat_eq text second_item)

-- what stands between the two items of a middle pattern
abbrev pub middle : List ℕ → Result (List ℕ) DataError
middle text =
    if is_middle text then Ok (take (length text - 6) (drop 3 text)) else Err InvalidPattern

-- the error is the fault, unless memory ran out
abbrev pub IsFaultOf : {A : Type 0} → Result A DataError → DataError → Type 0
IsFaultOf reading NoMemory = Unit {0}
IsFaultOf reading error = reading ≡ Err error

-- so many bytes of prefix and between can't be stored, or memory ran out
abbrev pub IsFaultStoring : ℕ → DataError → Type 0
IsFaultStoring bytes NoMemory = Unit {0}
IsFaultStoring bytes error = (error ≡ CannotStore) × (most_bytes < bytes)
