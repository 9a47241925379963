-- The syntax of conditions:
--
--   condition = "^" alt          alt = seq { "|" seq }          seq = { rep }
--   rep  = atom [ "*" | "+" | "?" ] | "$"
--   atom = "(" alt ")" | "." | "[" [ "^" ] item { item } "]" | "\d" | "\" punct | literal
--   item = classchar | classchar "-" classchar | "\d"
use Rattle.std.specs.Prelude.{◌≡◌, ℕ, ◌≤◌, Bool, true, false, not, ◌&&◌, ◌||◌, nat_le, ◌==◌, List}
use Rattle.std.specs.Prelude.{[], ◌∷◌, ◌++◌, length, take, codes}
use Rattle.std.specs.List.{list_any}
use Rattle.lazy_dfa.specs.Expression.{only, digit, any, Expression, Nothing, OneOf, End, Sequence}
use Rattle.lazy_dfa.specs.Expression.{Choice, Star, Plus, Optional}

-- ASCII punctuation
abbrev pub is_punctuation : ℕ → Bool
is_punctuation c =
    (nat_le 33 c && nat_le c 47) || (nat_le 58 c && nat_le c 64) || (nat_le 91 c && nat_le c 96) ||
    (nat_le 123 c && nat_le c 126)

-- a literal is any character but these
abbrev pub is_literal : ℕ → Bool
is_literal c = not (list_any (λ d. c == d) (codes "\\.[]()|*+?$^{}"))

-- a character of a class that stands for itself is any but these
abbrev pub is_plain : ℕ → Bool
is_plain c = not (list_any (λ d. c == d) (codes "[]\\^-&~"))

-- the text is a character of a class
pub data ClassCharacter : List ℕ → ℕ → Type 0 where
  plain : {c : ℕ} → is_plain c ≡ true → ClassCharacter (c ∷ []) c
  punct : {c : ℕ} → is_punctuation c ≡ true → ClassCharacter (92 ∷ c ∷ []) c

-- the text is an item of a class, with its range
pub data Item : List ℕ → ℕ × ℕ → Type 0 where
  single : {x : List ℕ} {c : ℕ} → ClassCharacter x c → Item x (c, c)
  range : {x y : List ℕ} {a b : ℕ} → ClassCharacter x a → ClassCharacter y b → a ≤ b
      → Item (x ++ 45 ∷ y) (a, b)
  digits : Item (92 ∷ 100 ∷ []) (48, 57)

-- one item or more
pub data Items : List ℕ → List (ℕ × ℕ) → Type 0 where
  last : {x : List ℕ} {r : ℕ × ℕ} → Item x r → Items x (r ∷ [])
  item : {x y : List ℕ} {r : ℕ × ℕ} {rs : List (ℕ × ℕ)} → Item x r → Items y rs
      → Items (x ++ y) (r ∷ rs)

-- the kinds of parts
pub data Kind : Type 0 where
  Alt : Kind
  Seq : Kind
  Rep : Kind
  Atom : Kind

-- the text is a part of that kind, with its expression
pub data IsPart : Kind → List ℕ → Expression → Type 0 where
  one : {x : List ℕ} {e : Expression} → IsPart Seq x e → IsPart Alt x e
  choice : {x y : List ℕ} {a b : Expression} → IsPart Seq x a → IsPart Alt y b
      → IsPart Alt (x ++ 124 ∷ y) (Choice a b)
  nothing : IsPart Seq [] Nothing
  sequence : {x y : List ℕ} {a b : Expression} → IsPart Rep x a → IsPart Seq y b
      → IsPart Seq (x ++ y) (Sequence a b)
  once : {x : List ℕ} {e : Expression} → IsPart Atom x e → IsPart Rep x e
  star : {x : List ℕ} {e : Expression} → IsPart Atom x e → IsPart Rep (x ++ 42 ∷ []) (Star e)
  plus : {x : List ℕ} {e : Expression} → IsPart Atom x e → IsPart Rep (x ++ 43 ∷ []) (Plus e)
  optional : {x : List ℕ} {e : Expression} → IsPart Atom x e
      → IsPart Rep (x ++ 63 ∷ []) (Optional e)
  end : IsPart Rep (36 ∷ []) End
  group : {x : List ℕ} {e : Expression} → IsPart Alt x e → IsPart Atom (40 ∷ x ++ 41 ∷ []) e
  dot : IsPart Atom (46 ∷ []) (OneOf any)
  class : {x : List ℕ} {rs : List (ℕ × ℕ)} → Items x rs
      → IsPart Atom (91 ∷ x ++ 93 ∷ []) (OneOf (record { negated = false; ranges = rs }))
  others : {x : List ℕ} {rs : List (ℕ × ℕ)} → Items x rs
      → IsPart Atom (91 ∷ 94 ∷ x ++ 93 ∷ []) (OneOf (record { negated = true; ranges = rs }))
  digits : IsPart Atom (92 ∷ 100 ∷ []) (OneOf digit)
  escaped : {c : ℕ} → is_punctuation c ≡ true → IsPart Atom (92 ∷ c ∷ []) (OneOf (only c))
  literal : {c : ℕ} → is_literal c ≡ true → IsPart Atom (c ∷ []) (OneOf (only c))

-- the text behind `^` is an alternative of sequences
abbrev pub alt : List ℕ → Expression → Type 0
alt text e = IsPart Alt text e

-- the text is no `alt`
abbrev pub IsNoAlt : List ℕ → Type 0
IsNoAlt text = (e : Expression) → alt text e → ⊥

-- the longest prefix of the text that is itself an `alt` has so many characters
pub record LongestAlt (text : List ℕ) (place : ℕ) : Type 0 where
  pub expression : Expression
  pub within : place ≤ length text
  pub prefix : alt (take place text) expression
  pub longest : (k : ℕ) → k ≤ length text → (e : Expression) → alt (take k text) e → k ≤ place
