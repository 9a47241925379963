-- Reading an expression from left to right, as a function. Private contracts alone cite this file:
-- the grammar decides, and `expression_of` finds the tree that it has for a text, and none where it
-- has none (the law `one_tree`).
use Rattle.std.specs.Prelude.{◌≡◌, ℕ, zero, suc, ◌+◌, max, Bool, true, false, List, [], ◌∷◌, length}
use Rattle.std.specs.Prelude.{drop, Option, Some, None, Result, MatchResult, ◌⊎◌, nat_lt, ◌==◌}
use Rattle.std.specs.Prelude.{if◌then◌else◌}
use Rattle.gettext.specs.declared.error.Error.{Error}
use Rattle.gettext.specs.declared.error.Error.TheVariants.{NoMemory, PluralParsing}
use Rattle.gettext.specs.declared.plurals.expression.Operator.{Operator}
use Rattle.gettext.specs.declared.plurals.tokens.Token.{Token}
use Rattle.gettext.specs.declared.plurals.tokens.Token.TheVariants as token
use Rattle.gettext.specs.declared.plurals.grammar.Level.{Level}
use Rattle.gettext.specs.declared.plurals.grammar.Part.{Part}
use Rattle.gettext.specs.declared.plurals.grammar.Level.TheVariants as level
use Rattle.gettext.specs.Optional.{◌>>=◌}
use Rattle.gettext.specs.Expression.{tree_of, Expression, Count, Number, Negation, Binary}
use Rattle.gettext.specs.Expression.{Conditional}
use Rattle.std.specs.Option.{option_map}
use Rattle.gettext.specs.Grammar.{rank, level_of, height_limit}
use Rattle.gettext.specs.Tokens.{is_space, token_at}

-- a part, its height, and the tokens behind it
pub record Found : Type 0 where
  pub tree : Expression
  pub height : ℕ
  pub rest : List Token

-- what the code keeps of a part
abbrev pub found_of : Part → Found
found_of p = record { tree = tree_of p.tree; height = p.height; rest = p.rest.now }

-- reads a part off the front of tokens
abbrev pub Parser : Type 0
Parser = List Token → Option Found

-- the code finds what a parser finds, unless memory runs out
abbrev pub IsParsed : {X : Type 0} → (X → Found) → Result X Error → Option Found → Type 0
IsParsed view result found = MatchResult result (λ x. found ≡ Some (view x))
    (λ e. (e ≡ NoMemory) ⊎ ((e ≡ PluralParsing) × (found ≡ None)))

-- whether a token is that mark
abbrev pub is_mark : Token → Token → Bool
is_mark token.Bang token.Bang = true
is_mark token.Open token.Open = true
is_mark token.Close token.Close = true
is_mark token.Question token.Question = true
is_mark token.Colon token.Colon = true
is_mark mark t = false

-- the tokens behind a mark at the front
abbrev pub after : Token → List Token → Option (List Token)
after mark [] = None
after mark (t ∷ ts) = if is_mark mark t then Some ts else None

-- an operator of that level at the front, and the tokens behind it
abbrev pub operator_at : Level → List Token → Option (Operator × List Token)
operator_at l (token.Operator o ∷ ts) = if rank (level_of o) == rank l then Some (o, ts) else None
operator_at l ts = None

-- a part of one token
abbrev pub leaf : Expression → List Token → Option Found
leaf e ts = Some (record { tree = e; height = 1; rest = ts })

-- a name or a number at the front
abbrev pub leaf_at : List Token → Option Found
leaf_at (token.Name ∷ ts) = leaf Count ts
leaf_at (token.Numeral k ∷ ts) = leaf (Number k) ts
leaf_at ts = None

-- a part in parentheses
abbrev pub closed : Found → List Token → Found
closed p ts = record { tree = p.tree; height = p.height + 1; rest = ts }

-- a leaf, or else what stands in parentheses
abbrev pub atom_or : Parser → Option Found → Option (List Token) → Option Found
atom_or inside (Some p) opened = Some p
atom_or inside None None = None
atom_or inside None (Some ts) =
    inside ts >>= λ p. after token.Close p.rest >>= λ us. Some (closed p us)

-- a part of the tightest level
abbrev pub atom : Parser → Parser
atom inside ts = atom_or inside (leaf_at ts) (after token.Open ts)

-- the negation of a part
abbrev pub negated : Found → Found
negated p = record { tree = Negation p.tree; height = p.height + 1; rest = p.rest }

-- what stands behind a `!`, or else a tighter part
abbrev pub unary_or : Parser → Option (List Token) → Option Found → Option Found
unary_or inner None tight = tight
unary_or inner (Some ts) tight = inner ts >>= λ p. Some (negated p)

-- a part of the level of `!`
abbrev pub unary : Parser → Parser → Parser
unary inner tight ts = unary_or inner (after token.Bang ts) (tight ts)

-- two parts with an operator between them
abbrev pub joined : Operator → Found → Found → Found
joined o p q = record {
  tree = Binary o p.tree q.tree;
  height = max p.height q.height + 1;
  rest = q.rest;
}

-- what an operator that follows a part does
abbrev pub more_at : Parser → ℕ → (Found → Option Found) → Found → Option (Operator × List Token)
    → Option Found
more_at right budget next p None = Some p
more_at right budget next p (Some x) =
    if nat_lt p.height budget then (right x.1 >>= λ q. next (joined x.0 p q)) else None

-- a part, and the operators of its level that follow it, to the left
unfoldable pub more : Level → Parser → ℕ → ℕ → Found → Option Found
more l right budget zero p = more_at right budget (λ q. None) p (operator_at l p.rest)
more l right budget (suc fuel) p =
    more_at right budget (more l right budget fuel) p (operator_at l p.rest)

-- a part of a level of binary operators
abbrev pub chain : Level → Parser → Parser → ℕ → Parser
chain l right first budget ts = first ts >>= more l right budget budget

-- three parts with `? :` between them
abbrev pub chosen : Found → Found → Found → Found
chosen c a b = record {
  tree = Conditional c.tree a.tree b.tree;
  height = max c.height (max a.height b.height) + 1;
  rest = b.rest;
}

-- what a condition chooses from, where a `?` follows it
abbrev pub choice_at : Parser → ℕ → Found → Option (List Token) → Option Found
choice_at inner budget c None = Some c
choice_at inner budget c (Some ts) =
    if nat_lt c.height budget
    then (inner ts
    >>= λ a. after token.Colon a.rest >>= λ us. inner us >>= λ b. Some (chosen c a b))
    else None

-- a part of the loosest level
abbrev pub choice : Parser → Parser → ℕ → Parser
choice inner first budget ts =
    first ts >>= λ c. choice_at inner budget c (after token.Question c.rest)

-- the level of `!`
abbrev pub units : (Level → Parser) → Parser
units inner = unary (inner level.Unary) (atom (inner level.Conditional))

-- the level of `*`, `/` and `%`
abbrev pub products : (Level → Parser) → ℕ → Parser
products inner budget = chain level.Product (inner level.Unary) (units inner) budget

-- the level of `+` and `-`
abbrev pub sums : (Level → Parser) → ℕ → Parser
sums inner budget = chain level.Sum (inner level.Product) (products inner budget) budget

-- the level of `<`, `<=`, `>` and `>=`
abbrev pub relations : (Level → Parser) → ℕ → Parser
relations inner budget = chain level.Relation (inner level.Sum) (sums inner budget) budget

-- the level of `==` and `!=`
abbrev pub equalities : (Level → Parser) → ℕ → Parser
equalities inner budget =
    chain level.Equality (inner level.Relation) (relations inner budget) budget

-- the level of `&&`
abbrev pub conjunctions : (Level → Parser) → ℕ → Parser
conjunctions inner budget =
    chain level.Conjunction (inner level.Equality) (equalities inner budget) budget

-- the level of `||`
abbrev pub disjunctions : (Level → Parser) → ℕ → Parser
disjunctions inner budget =
    chain level.Disjunction (inner level.Conjunction) (conjunctions inner budget) budget

-- a part of each level, given one for the parts inside it
abbrev pub at_level : (Level → Parser) → ℕ → Level → Parser
at_level inner budget level.Atom = atom (inner level.Conditional)
at_level inner budget level.Unary = units inner
at_level inner budget level.Product = products inner budget
at_level inner budget level.Sum = sums inner budget
at_level inner budget level.Relation = relations inner budget
at_level inner budget level.Equality = equalities inner budget
at_level inner budget level.Conjunction = conjunctions inner budget
at_level inner budget level.Disjunction = disjunctions inner budget
at_level inner budget level.Conditional =
    choice (inner level.Conditional) (disjunctions inner budget) budget

-- the part of a level that the tokens begin with, where its height is at most the budget
unfoldable pub parse : ℕ → Level → Parser
parse zero l ts = None
parse (suc budget) l ts = at_level (parse budget) (suc budget) l ts

-- the tokens of a text of at most so many characters
abbrev pub tokens_from : ℕ → List ℕ → Option (List Token)
tokens_from n [] = Some []
tokens_from zero (c ∷ text) = None
tokens_from (suc n) (c ∷ text) =
    if is_space c then tokens_from n text
    else (token_at (c ∷ text)
    >>= λ t. option_map (λ ts. t.0 ∷ ts) (tokens_from n (drop t.1 (c ∷ text))))

-- the tree of a part that all tokens are
abbrev pub whole_tree : Found → Option Expression
whole_tree p = if length p.rest == 0 then Some p.tree else None

-- the tree of a text, where it is an expression
unfoldable pub expression_of : List ℕ → Option Expression
expression_of text =
    tokens_from (length text) text >>= λ ts. parse height_limit level.Conditional ts >>= whole_tree

-- the levels of binary operators
abbrev pub IsBinary : Level → Type 0
IsBinary level.Atom = ⊥
IsBinary level.Unary = ⊥
IsBinary level.Conditional = ⊥
IsBinary l = Unit {0}
