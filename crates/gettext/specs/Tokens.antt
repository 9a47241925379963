-- The tokens of plural expressions.
use Rattle.std.specs.Prelude.{◌≡◌, ℕ, ◌^◌, Bool, true, false, ◌&&◌, ◌||◌, List, [], ◌∷◌, length}
use Rattle.std.specs.Prelude.{drop, Option, Some, None, find, nat_eq, nat_lt, nat_le, ◌==◌}
use Rattle.std.specs.Prelude.{if◌then◌else◌, codes}
use Rattle.std.specs.Option.{option_map}
use Rattle.std.specs.Char.{is_ascii_digit}
use Rattle.std.specs.Str.Parse.{digits_value}
use Rattle.std.specs.List.{starts_with, take_while}
use Rattle.gettext.specs.declared.plurals.expression.Operator.TheVariants.{Equal, NotEqual}
use Rattle.gettext.specs.declared.plurals.expression.Operator.TheVariants.{GreaterOrEqual}
use Rattle.gettext.specs.declared.plurals.expression.Operator.TheVariants.{SmallerOrEqual, Greater}
use Rattle.gettext.specs.declared.plurals.expression.Operator.TheVariants.{Smaller, And, Or, Modulo}
use Rattle.gettext.specs.declared.plurals.expression.Operator.TheVariants.{Add, Subtract, Multiply}
use Rattle.gettext.specs.declared.plurals.expression.Operator.TheVariants.{Divide}
use Rattle.gettext.specs.declared.plurals.tokens.Token.{Token}
use Rattle.gettext.specs.declared.plurals.tokens.Token.TheVariants.{Name, Numeral, Open, Close}
use Rattle.gettext.specs.declared.plurals.tokens.Token.TheVariants.{Question, Colon, Bang, Operator}

-- The words of the language. One that begins another stands behind it.
abbrev pub words : List (List ℕ × Token)
words =
    (codes "==", Operator Equal)
    ∷ (codes "!=", Operator NotEqual)
    ∷ (codes ">=", Operator GreaterOrEqual)
    ∷ (codes "<=", Operator SmallerOrEqual)
    ∷ (codes "&&", Operator And)
    ∷ (codes "||", Operator Or)
    ∷ (codes ">", Operator Greater)
    ∷ (codes "<", Operator Smaller)
    ∷ (codes "%", Operator Modulo)
    ∷ (codes "+", Operator Add)
    ∷ (codes "-", Operator Subtract)
    ∷ (codes "*", Operator Multiply)
    ∷ (codes "/", Operator Divide)
    ∷ (codes "!", Bang)
    ∷ (codes "n", Name)
    ∷ (codes "(", Open)
    ∷ (codes ")", Close)
    ∷ (codes "?", Question)
    ∷ (codes ":", Colon)
    ∷ []

-- the first of the words that the text begins with
unfoldable pub word_at : List ℕ → Option (List ℕ × Token)
word_at text = find (λ w. starts_with nat_eq text w.0) words

-- a word as its token and its length
abbrev pub measured : List ℕ × Token → Token × ℕ
measured w = (w.1, length w.0)

-- the number that the digits at the front spell, which has at most 64 bits
unfoldable pub numeral_at : List ℕ → Option (Token × ℕ)
numeral_at text =
    let digits = take_while is_ascii_digit text in
    if nat_lt (digits_value 10 digits) (2 ^ 64)
    then Some (Numeral (digits_value 10 digits), length digits) else None

-- The token that a text begins with, and its length. It is as long as it can be.
unfoldable pub token_at : List ℕ → Option (Token × ℕ)
token_at text =
    if length (take_while is_ascii_digit text) == 0
    then option_map measured (word_at text) else numeral_at text

-- space and U+0009 to U+000D
abbrev pub is_space : ℕ → Bool
is_space c = (c == 32) || (nat_le 9 c && nat_le c 13)

-- The text is the tokens, with white space before, between and behind them.
pub data Reads : List ℕ → List Token → Type 0 where
  ends : Reads [] []
  space : {c : ℕ} {text : List ℕ} {tokens : List Token} → is_space c ≡ true → Reads text tokens
      → Reads (c ∷ text) tokens
  token : {c : ℕ} {text : List ℕ} {t : Token} {len : ℕ} {tokens : List Token} → is_space c ≡ false
      → token_at (c ∷ text) ≡ Some (t, len) → Reads (drop len (c ∷ text)) tokens
      → Reads (c ∷ text) (t ∷ tokens)

-- the text is no tokens
pub record IsUnreadable (text : List ℕ) : Type 0 where
  pub none : (tokens : List Token) → Reads text tokens → ⊥
