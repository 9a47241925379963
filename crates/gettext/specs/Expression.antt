-- Plural expressions as trees, and their meaning over unsigned numbers of 64 bits, as in C
-- (GNU gettext manual, 'Additional functions for plural forms').
use Rattle.std.specs.Prelude.{ℕ, ◌+◌, ◌-◌, ◌*◌, ◌/◌, ◌%◌, ◌^◌, Bool, not, ◌&&◌, ◌||◌, Option, Some}
use Rattle.std.specs.Prelude.{None, ◌==◌, nat_lt, nat_le, if◌then◌else◌}
use Rattle.gettext.specs.declared.plurals.expression.Ast.{Ast}
use Rattle.gettext.specs.declared.plurals.expression.Ast.TheVariants.{N, Integer, Ternary', Op'}
use Rattle.gettext.specs.declared.plurals.expression.Ast.TheVariants.{Not'}
use Rattle.gettext.specs.declared.plurals.expression.Operator.{Operator}
use Rattle.gettext.specs.declared.plurals.expression.Operator.TheVariants.{Equal, NotEqual}
use Rattle.gettext.specs.declared.plurals.expression.Operator.TheVariants.{GreaterOrEqual}
use Rattle.gettext.specs.declared.plurals.expression.Operator.TheVariants.{SmallerOrEqual, Greater}
use Rattle.gettext.specs.declared.plurals.expression.Operator.TheVariants.{Smaller, And, Or, Modulo}
use Rattle.gettext.specs.declared.plurals.expression.Operator.TheVariants.{Add, Subtract, Multiply}
use Rattle.gettext.specs.declared.plurals.expression.Operator.TheVariants.{Divide}
use Rattle.gettext.specs.Optional.{◌>>=◌}

-- an expression, without where its parts lie in memory
pub data Expression : Type 0 where
  Count : Expression
  Number : ℕ → Expression
  Negation : Expression → Expression
  Binary : Operator → Expression → Expression → Expression
  Conditional : Expression → Expression → Expression → Expression

-- the expression that a value of `Ast` is
abbrev pub tree_of : Ast → Expression
tree_of N = Count
tree_of (Integer k) = Number k
tree_of (Not' p e) = Negation (tree_of e)
tree_of (Op' o p a q b) = Binary o (tree_of a) (tree_of b)
tree_of (Ternary' p c q a r b) = Conditional (tree_of c) (tree_of a) (tree_of b)

-- 1 for true, and 0 for false
abbrev pub truth : Bool → ℕ
truth b = if b then 1 else 0

-- every number but 0 counts as true
abbrev pub is_true : ℕ → Bool
is_true x = not (x == 0)

-- a quotient or a remainder, which has no value where the divisor is zero
abbrev pub divided : (ℕ → ℕ → ℕ) → ℕ → ℕ → Option ℕ
divided f x y = if y == 0 then None else Some (f x y)

-- an operator that needs both parts
abbrev pub apply : Operator → ℕ → ℕ → Option ℕ
apply Equal x y = Some (truth (x == y))
apply NotEqual x y = Some (truth (not (x == y)))
apply GreaterOrEqual x y = Some (truth (nat_le y x))
apply SmallerOrEqual x y = Some (truth (nat_le x y))
apply Greater x y = Some (truth (nat_lt y x))
apply Smaller x y = Some (truth (nat_lt x y))
apply And x y = Some (truth (is_true x && is_true y))
apply Or x y = Some (truth (is_true x || is_true y))
apply Modulo x y = divided ◌%◌ x y
apply Add x y = Some ((x + y) % 2 ^ 64)
apply Subtract x y = Some ((x + (2 ^ 64 - y)) % 2 ^ 64)
apply Multiply x y = Some (x * y % 2 ^ 64)
apply Divide x y = divided ◌/◌ x y

-- An operator after its left part: `&&` needs no right part where the left is 0, and `||` none
-- where it isn't.
abbrev pub after_left : Operator → ℕ → Option ℕ → Option ℕ
after_left And x right = if x == 0 then Some 0 else (right >>= λ y. Some (truth (is_true y)))
after_left Or x right = if x == 0 then (right >>= λ y. Some (truth (is_true y))) else Some 1
after_left o x right = right >>= apply o x

-- the value of an expression at a count
abbrev pub value : Expression → ℕ → Option ℕ
value Count n = Some n
value (Number k) n = Some k
value (Negation e) n = value e n >>= λ x. Some (truth (x == 0))
value (Binary o a b) n = value a n >>= λ x. after_left o x (value b n)
value (Conditional c a b) n = value c n >>= λ x. if x == 0 then value b n else value a n
