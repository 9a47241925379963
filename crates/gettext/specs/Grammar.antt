-- The grammar of plural expressions in levels, as in C (GNU gettext manual, 'Additional functions
-- for plural forms').
use Rattle.std.specs.Prelude.{◌≡◌, ◌≢◌, ℕ, ◌+◌, ◌≤◌, max, List, [], ◌∷◌, ◌++◌}
use Rattle.gettext.specs.declared.plurals.expression.Operator.{Operator}
use Rattle.gettext.specs.declared.plurals.expression.Operator.TheVariants.{Equal, NotEqual}
use Rattle.gettext.specs.declared.plurals.expression.Operator.TheVariants.{GreaterOrEqual}
use Rattle.gettext.specs.declared.plurals.expression.Operator.TheVariants.{SmallerOrEqual, Greater}
use Rattle.gettext.specs.declared.plurals.expression.Operator.TheVariants.{Smaller, And, Or, Modulo}
use Rattle.gettext.specs.declared.plurals.expression.Operator.TheVariants.{Add, Subtract, Multiply}
use Rattle.gettext.specs.declared.plurals.expression.Operator.TheVariants.{Divide}
use Rattle.gettext.specs.declared.plurals.tokens.Token.{Token}
use Rattle.gettext.specs.declared.plurals.tokens.Token.TheVariants as token
use Rattle.gettext.specs.declared.plurals.grammar.Level.{Level}
use Rattle.gettext.specs.declared.plurals.grammar.Level.TheVariants as level
use Rattle.gettext.specs.Expression.{Expression, Count, Number, Negation, Binary, Conditional}
use Rattle.gettext.specs.Tokens.{Reads}

-- the levels from the tightest on, in numbers
abbrev pub rank : Level → ℕ
rank level.Atom = 0
rank level.Unary = 1
rank level.Product = 2
rank level.Sum = 3
rank level.Relation = 4
rank level.Equality = 5
rank level.Conjunction = 6
rank level.Disjunction = 7
rank level.Conditional = 8

-- the next tighter level
abbrev pub tighter : Level → Level
tighter level.Atom = level.Atom
tighter level.Unary = level.Atom
tighter level.Product = level.Unary
tighter level.Sum = level.Product
tighter level.Relation = level.Sum
tighter level.Equality = level.Relation
tighter level.Conjunction = level.Equality
tighter level.Disjunction = level.Conjunction
tighter level.Conditional = level.Disjunction

-- the level of each operator
abbrev pub level_of : Operator → Level
level_of Multiply = level.Product
level_of Divide = level.Product
level_of Modulo = level.Product
level_of Add = level.Sum
level_of Subtract = level.Sum
level_of Greater = level.Relation
level_of Smaller = level.Relation
level_of GreaterOrEqual = level.Relation
level_of SmallerOrEqual = level.Relation
level_of Equal = level.Equality
level_of NotEqual = level.Equality
level_of And = level.Conjunction
level_of Or = level.Disjunction

-- The tokens are a part of that level, with its tree and its height. Binary operators associate to
-- the left, and `? :` to the right. A leaf has height 1, and an operator or a pair of parentheses
-- adds 1 to its highest part.
pub data IsPart : Level → List Token → Expression → ℕ → Type 0 where
  name : IsPart level.Atom (token.Name ∷ []) Count 1
  numeral : {k : ℕ} → IsPart level.Atom (token.Numeral k ∷ []) (Number k) 1
  parentheses : {ts : List Token} {e : Expression} {h : ℕ} → IsPart level.Conditional ts e h
      → IsPart level.Atom (token.Open ∷ ts ++ token.Close ∷ []) e (h + 1)
  negation : {ts : List Token} {e : Expression} {h : ℕ} → IsPart level.Unary ts e h
      → IsPart level.Unary (token.Bang ∷ ts) (Negation e) (h + 1)
  binary : {l : Level} {o : Operator} {xs ys : List Token} {a b : Expression} {g h : ℕ}
      → level_of o ≡ l → IsPart l xs a g → IsPart (tighter l) ys b h
      → IsPart l (xs ++ token.Operator o ∷ ys) (Binary o a b) (max g h + 1)
  conditional : {ts xs ys : List Token} {c a b : Expression} {f g h : ℕ}
      → IsPart level.Disjunction ts c f → IsPart level.Conditional xs a g
      → IsPart level.Conditional ys b h
      → IsPart level.Conditional (ts ++ token.Question ∷ (xs ++ token.Colon ∷ ys))
      (Conditional c a b) (max f (max g h) + 1)
  looser : {l : Level} {ts : List Token} {e : Expression} {h : ℕ} → l ≢ level.Atom
      → IsPart (tighter l) ts e h → IsPart l ts e h

-- the greatest height of an expression
abbrev pub height_limit : ℕ
height_limit = 64

-- all of the tokens are the expression
pub record IsWhole (tokens : List Token) (e : Expression) : Type 0 where
  pub height : ℕ
  pub part : IsPart level.Conditional tokens e height
  pub low : height ≤ height_limit

-- the tokens are no expression
pub record IsNoWhole (tokens : List Token) : Type 0 where
  pub none : (e : Expression) → IsWhole tokens e → ⊥

-- the text is the expression
pub record expr (text : List ℕ) (e : Expression) : Type 0 where
  pub tokens : List Token
  pub read : Reads text tokens
  pub whole : IsWhole tokens e

-- the text is no expression
pub record IsNoExpression (text : List ℕ) : Type 0 where
  pub none : (e : Expression) → expr text e → ⊥
