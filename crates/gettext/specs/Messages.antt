-- What a catalog of messages means, apart from any file. A text is a list of characters.
use Rattle.std.specs.Prelude.{◌≡◌, ℕ, Bool, true, false, not, ◌&&◌, List, [], ◌∷◌, ◌++◌, length}
use Rattle.std.specs.Prelude.{codes, Option, Some, None, ◌==◌, nat_lt, if◌then◌else◌}
use Rattle.std.specs.Prelude.{encode_utf8_all}
use Rattle.std.specs.Option.{option_or, option_map, option_and_then}
use Rattle.std.specs.List.{slice_get}
use Rattle.std.specs.Borrow.{Bor}
use Rattle.std.specs.Str.{chars}
use Rattle.gettext.specs.Optional.{◌>>=◌}
use Rattle.writeable_core.specs.Texts.{same_text}
use Rattle.gettext.specs.Expression.{Expression, value}
use Rattle.gettext.specs.Metadata.{Field, fields_of, value_of, count_in}

-- a message: what it is looked up by, and its forms
pub record Message : Type 0 where
  pub key : List ℕ
  pub forms : List (List ℕ)

-- how the number of a form follows from a count
pub data Rule : Type 0 where
  Default : Rule
  Expr : Expression → Rule
  Function : Rule

-- what a file means: its messages in the order of its rows, and its plural rule
pub record Messages : Type 0 where
  pub rule : Rule
  pub pairs : List Message

-- ---- keys

-- the context, U+0004 and the id as one text, or the id alone (GNU gettext manual, section 10.3)
abbrev pub key_of : Option (List ℕ) → List ℕ → List ℕ
key_of None id = id
key_of (Some context) id = context ++ 4 ∷ id

-- the key of a context that is borrowed and an id, both in UTF-8
abbrev pub key_asked : Option (Bor (List ℕ)) → List ℕ → List ℕ
key_asked context id = key_of (option_map (λ s. chars s.now) context) (chars id)

-- the same key in UTF-8
abbrev pub key_bytes_asked : Option (Bor (List ℕ)) → List ℕ → List ℕ
key_bytes_asked context id = key_of (option_map (λ s. s.now) context) id

-- whether the first U+0004 is the last character
abbrev pub ends_context : List ℕ → Bool
ends_context [] = false
ends_context (c ∷ cs) = if c == 4 then length cs == 0 else ends_context cs

-- whether the id of a key isn't empty
abbrev pub has_id : List ℕ → Bool
has_id key = not (length key == 0) && not (ends_context key)

-- the last message with the key
abbrev pub lookup : List Message → List ℕ → Option Message
lookup [] key = None
lookup (m ∷ ms) key = option_or (lookup ms key) (if same_text m.key key then Some m else None)

-- Two lists of messages with one rule that every look-up finds alike, in whatever order they are.
pub record StandsFor (kept c : Messages) : Type 0 where
  pub rule : kept.rule ≡ c.rule
  pub lookups : (key : List ℕ) → lookup kept.pairs key ≡ lookup c.pairs key

-- ---- forms

-- the number of the form for n by an expression, or by the default rule: 0 for 1, and 1 for every
-- other count
abbrev pub value_by : Option Expression → ℕ → Option ℕ
value_by None n = Some (if n == 1 then 0 else 1)
value_by (Some e) n = value e n

-- the number of the form for n by the rule of a file, which doesn't tell that of a forced function
abbrev pub value_of_rule : Rule → ℕ → Option ℕ
value_of_rule Default n = value_by None n
value_of_rule (Expr e) n = value_by (Some e) n
value_of_rule Function n = None

-- The number of the form for n. Where a function is forced, the number that it answered at n is
-- given.
abbrev pub number_for : Rule → Option ℕ → ℕ → Option ℕ
number_for rule (Some number) n = Some number
number_for rule None n = value_of_rule rule n

-- the message with an empty id, which has the metadata
abbrev pub header_of : List Message → Option Message
header_of [] = None
header_of (m ∷ ms) = option_or (header_of ms) (if has_id m.key then None else Some m)

-- the number of plurals that metadata name
abbrev pub plurals_among : List Field → Option ℕ
plurals_among fields = option_and_then count_in (value_of fields (codes "Plural-Forms"))

-- the number of plurals that a text of metadata names
unfoldable pub plurals_of : List ℕ → Option ℕ
plurals_of text = fields_of (encode_utf8_all text) >>= plurals_among

-- the number of plurals that a message with the metadata names
abbrev pub plurals_named : Message → Option ℕ
plurals_named m = slice_get m.forms 0 >>= plurals_of

-- what the numbers of forms are below, where something bounds them: a forced function's aren't
-- bounded
abbrev pub bound_by : Rule → List Message → Option ℕ
bound_by Function pairs = None
bound_by Default pairs = header_of pairs >>= plurals_named
bound_by (Expr e) pairs = header_of pairs >>= plurals_named

-- what the numbers of the forms of messages are below
abbrev pub bound : Messages → Option ℕ
bound c = bound_by c.rule c.pairs

-- whether a number is below what bounds it
abbrev pub is_within : Option ℕ → ℕ → Bool
is_within None number = true
is_within (Some b) number = nat_lt number b

-- the message's form with that number
unfoldable pub numbered : Messages → List ℕ → ℕ → Option (ℕ × List ℕ)
numbered c key number = do
  message ← lookup c.pairs key
  text ← slice_get message.forms number
  Some (number, text)

-- the same, but that the bound leaves out the number
unfoldable pub numbered_within : Messages → List ℕ → ℕ → Option (ℕ × List ℕ)
numbered_within c key number = if is_within (bound c) number then numbered c key number else None

-- The form for n of the message with the key, as its number and its text. Given is the number that
-- a forced function answered at n, where one is forced.
unfoldable pub form : Messages → Option ℕ → List ℕ → ℕ → Option (ℕ × List ℕ)
form c given key n = do
  number ← number_for c.rule given n
  numbered_within c key number

-- how many forms the message with the key has
abbrev pub count_of_forms : Messages → List ℕ → Option ℕ
count_of_forms c key = option_map (λ m. length m.forms) (lookup c.pairs key)

-- what stands for a message that isn't there: the id for 1, else the plural id
abbrev pub own_words : ℕ → List ℕ → List ℕ → List ℕ
own_words n id plural = if n == 1 then id else plural

-- the text of a form, or another text where there is none
abbrev pub text_or : Option (ℕ × List ℕ) → List ℕ → List ℕ
text_or None other = other
text_or (Some form) other = form.1
