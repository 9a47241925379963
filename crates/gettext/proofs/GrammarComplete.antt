-- Reading by levels finds each part of the grammar.
use Rattle.std.proofs.Common.{◌≡◌, ◌≢◌, ℕ, zero, suc, ◌+◌, ◌≤◌, ◌<◌, max, Bool, false, leb, eqb}
use Rattle.std.proofs.Common.{List, [], ◌∷◌, ◌++◌, Option, Some, None, refl, sym, ap, subst, ◌∙◌}
use Rattle.std.proofs.Common.{arith, append_assoc}
use Rattle.std.proofs.lemmas.Bool.{lt-ltb, lt-leb, leb-false, eq-eqb, ne_eqb}
use Rattle.gettext.specs.declared.plurals.expression.Operator.{Operator}
use Rattle.gettext.specs.declared.plurals.expression.Operator.TheVariants as operator
use Rattle.gettext.specs.declared.plurals.tokens.Token.{Token}
use Rattle.gettext.specs.declared.plurals.tokens.Token.TheVariants as token
use Rattle.gettext.specs.declared.plurals.grammar.Level.{Level}
use Rattle.gettext.specs.declared.plurals.grammar.Level.TheVariants as level
use Rattle.gettext.specs.Optional.{◌>>=◌}
use Rattle.gettext.specs.Expression.{Expression, Binary}
use Rattle.gettext.specs.Grammar.{rank, tighter, level_of, IsPart, name, numeral, parentheses}
use Rattle.gettext.specs.Grammar.{negation, binary, conditional, looser}
use Rattle.gettext.specs.Parsing.{after, Found, Parser, parse, at_level, atom, unary, operator_at}
use Rattle.gettext.specs.Parsing.{more, chain, choice, closed, negated, units, products, sums}
use Rattle.gettext.specs.Parsing.{relations, equalities, conjunctions, disjunctions}

-- ---- where a part of a level ends

-- whether a token goes on with a part of the level
abbrev continues : Level → Token → Bool
continues l (token.Operator o) = leb (rank (level_of o)) (rank l)
continues l token.Question = eqb (rank l) 8
continues l t = false

-- whether tokens go on with no part of the level
abbrev pub Stops : Level → List Token → Type 0
Stops l [] = Unit {0}
Stops l (t ∷ r) = continues l t ≡ false

-- a tighter level has no greater number
tighter_rank : (l : Level) → rank (tighter l) ≤ rank l
tighter_rank level.Atom = omega arith
tighter_rank l = omega arith

-- nor that of conditions
tighter_not_last : (l : Level) → eqb (rank (tighter l)) 8 ≡ false
tighter_not_last level.Atom = refl
tighter_not_last l = refl

-- where a level ends, so does the tighter one
stops-tighter : (l : Level) (r : List Token) → Stops l r → Stops (tighter l) r
stops-tighter l [] s = tt
stops-tighter l (token.Operator o ∷ r) s =
    lt-leb _ _ (omega (arith, leb-false (rank (level_of o)) (rank l) s, tighter_rank l))
stops-tighter l (token.Question ∷ r) s = tighter_not_last l
stops-tighter l (t ∷ r) s = refl

-- before an operator the tighter level ends
operator_stops : (o : Operator) (r : List Token)
    → Stops (tighter (level_of o)) (token.Operator o ∷ r)
operator_stops operator.Equal r = refl
operator_stops o r = refl

-- where a level ends, none of its operators stands
no_operator : (l : Level) (r : List Token) → Stops l r → operator_at l r ≡ None
no_operator l [] s = refl
no_operator l (token.Operator o ∷ r) s = let lt = leb-false (rank (level_of o)) (rank l) s in
    rw (ne_eqb (rank (level_of o)) (rank l) (omega arith)) refl
no_operator l (t ∷ r) s = refl

-- an operator of the level is found
this_operator : (l : Level) (o : Operator) (r : List Token) → level_of o ≡ l
    → operator_at l (token.Operator o ∷ r) ≡ Some (o, r)
this_operator l o r e = rw (e, eq-eqb (rank l) (rank l) refl) refl

-- where a condition ends, no `?` stands
no_question : (r : List Token) → Stops level.Conditional r → after token.Question r ≡ None
no_question [] s = refl
no_question (token.Question ∷ r) s = absurd cc
no_question (t ∷ r) s = refl

-- an operator's level is one of the binary ones
binary_rank : (o : Operator) → (2 ≤ rank (level_of o)) × (rank (level_of o) ≤ 7)
binary_rank operator.Equal = (omega arith, omega arith)
binary_rank o = (omega arith, omega arith)

-- an operator is none of an atom
not_atom : (o : Operator) → level_of o ≡ level.Atom → ⊥
not_atom o e = omega (arith, (binary_rank o).0, ap rank e)

-- nor of a unary part
not_unary : (o : Operator) → level_of o ≡ level.Unary → ⊥
not_unary o e = omega (arith, (binary_rank o).0, ap rank e)

-- nor of a condition
not_conditional : (o : Operator) → level_of o ≡ level.Conditional → ⊥
not_conditional o e = omega (arith, (binary_rank o).1, ap rank e)

-- ---- each part is found

-- what is found: a tree, its height, and what is behind it
abbrev found : Expression → ℕ → List Token → Found
found e h r = record { tree = e; height = h; rest = r }

-- each part of the level, of at most that height, is read where it ends
pub record IsComplete (l : Level) (budget : ℕ) (read : Parser) : Type 0 where
  pub finds : (ts : List Token) (e : Expression) (h : ℕ) → IsPart l ts e h → h ≤ budget
      → (r : List Token) → Stops l r → read (ts ++ r) ≡ Some (found e h r)

-- each atom is read
atom_complete : (b : ℕ) (inside : Parser) → IsComplete level.Conditional b inside
    → IsComplete level.Atom (suc b) (atom inside)
atom_complete b inside all = record { finds = go } where
  go : (ts : List Token) (e : Expression) (h : ℕ) → IsPart level.Atom ts e h → h ≤ suc b
      → (r : List Token) → Stops level.Atom r → atom inside (ts ++ r) ≡ Some (found e h r)
  go ts e h name le r s = refl
  go ts e h numeral le r s = refl
  go ts e h (parentheses {ts = us} {e = f} {h = g} d) le r s =
      let k : inside ((us ++ token.Close ∷ []) ++ r) ≡ Some (found f g (token.Close ∷ r)) =
      ap inside (append_assoc us (token.Close ∷ []) r)
      ∙ all.finds us f g d (omega arith) (token.Close ∷ r) refl in
      ap (λ (o : Option Found). o >>= λ p. after token.Close p.rest >>= λ us. Some (closed p us)) k
  go ts e h (binary {o = o} at x y) le r s = absurd (not_atom o at)
  go ts e h (looser ne d) le r s = absurd (ne refl)

-- an atom doesn't begin with a `!`
no_bang_before : (ts : List Token) (e : Expression) (h : ℕ) → IsPart level.Atom ts e h
    → (r : List Token) → after token.Bang (ts ++ r) ≡ None
no_bang_before ts e h name r = refl
no_bang_before ts e h numeral r = refl
no_bang_before ts e h (parentheses d) r = refl
no_bang_before ts e h (binary {o = o} at x y) r = absurd (not_atom o at)
no_bang_before ts e h (looser ne d) r = absurd (ne refl)

-- each unary part is read
unary_complete : (b : ℕ) (inner tight : Parser) → IsComplete level.Unary b inner
    → IsComplete level.Atom (suc b) tight → IsComplete level.Unary (suc b) (unary inner tight)
unary_complete b inner tight all first = record { finds = go } where
  go : (ts : List Token) (e : Expression) (h : ℕ) → IsPart level.Unary ts e h → h ≤ suc b
      → (r : List Token) → Stops level.Unary r → unary inner tight (ts ++ r) ≡ Some (found e h r)
  go ts e h (negation {ts = us} {e = f} {h = g} d) le r s =
      ap (λ (o : Option Found). o >>= λ p. Some (negated p)) (all.finds us f g d (omega arith) r s)
  go ts e h (binary {o = o} at x y) le r s = absurd (not_unary o at)
  go ts e h (looser ne d) le r s =
      rw (no_bang_before ts e h d r) (first.finds ts e h d le r (stops-tighter level.Unary r s))

-- a part of a level, read as far as its last operator goes
pub record Reaches (l : Level) (right : Parser) (b fuel : ℕ) (o : Option Found) (e : Expression)
    (h : ℕ) (r : List Token) : Type 0 where
  pub left : ℕ
  pub room : suc b ≤ left + h
  pub same : o ≡ more l right (suc b) left (found e h r)

module _ (b : ℕ) (l : Level) (right first : Parser) (ne_atom : l ≢ level.Atom)
    (ne_unary : l ≢ level.Unary) (ne_last : l ≢ level.Conditional)
    (all : IsComplete (tighter l) b right) (tight : IsComplete (tighter l) (suc b) first) where
  -- an operator and the part behind it are read too
  one_more : (fuel : ℕ) (e f : Expression) (g h : ℕ) (o : Operator) (ys r : List Token)
      → level_of o ≡ l → suc b ≤ fuel + g → g ≤ b → h ≤ b → IsPart (tighter l) ys f h
      → Stops (tighter l) r
      → Reaches l right b fuel
      (more l right (suc b) fuel (found e g (token.Operator o ∷ (ys ++ r)))) (Binary o e f)
      (max g h + 1) r
  unfolding more
  one_more zero e f g h o ys r at room low high d s = absurd (omega arith)
  one_more (suc fuel) e f g h o ys r at room low high d s =
      record {
        left = fuel;
        room = omega arith;
        same = rw (
          this_operator l o (ys ++ r) at,
          lt-ltb g (suc b) (omega arith),
          all.finds ys f h
              d high r s,
        ) refl;
      }

  -- reading reaches the end of a part
  reaches : (m : Level) (ts : List Token) (e : Expression) (h : ℕ) → IsPart m ts e h → m ≡ l
      → h ≤ suc b → (r : List Token) → Stops (tighter l) r
      → Reaches l right b (suc b) (chain l right first (suc b) (ts ++ r)) e h r
  reaches m ts e h name is le r s = absurd (ne_atom (sym is))
  reaches m ts e h numeral is le r s = absurd (ne_atom (sym is))
  reaches m ts e h (parentheses d) is le r s = absurd (ne_atom (sym is))
  reaches m ts e h (negation d) is le r s = absurd (ne_unary (sym is))
  reaches m ts e h (conditional x y z) is le r s = absurd (ne_last (sym is))
  reaches m ts e h (looser ne d) is le r s =
      let d' : IsPart (tighter l) ts e h = subst (λ (k : Level). IsPart (tighter k) ts e h) is d in
      record { left = suc b; room = omega arith; same = rw (tight.finds ts e h d' le r s) refl }
  reaches m ts e h (binary {o = o} {xs = xs} {ys = ys} {a = x} {b = y} {g = g} {h = k} at dx dy) is
      le r s =
      let at' : level_of o ≡ l = at ∙ is in
      let dy' : IsPart (tighter l) ys y k =
      subst (λ (k' : Level). IsPart (tighter k') ys y k) is dy in
      let stop : Stops (tighter l) (token.Operator o ∷ (ys ++ r)) =
      subst (λ (m : Level). Stops (tighter m) (token.Operator o ∷ (ys ++ r))) at'
      (operator_stops o (ys ++ r)) in
      let before = reaches m xs x g dx is (omega arith) (token.Operator o ∷ (ys ++ r)) stop in
      let step =
      one_more before.left x y g k o ys r at' before.room (omega arith) (omega arith) dy' s in
      record {
        left = step.left;
        room = step.room;
        same = ap (chain l right first (suc b)) (append_assoc xs (token.Operator o ∷ ys) r)
            ∙ before.same ∙ step.same;
      }

  -- and ends there
  ends_here : (fuel : ℕ) (p : Found) → Stops l p.rest → more l right (suc b) fuel p ≡ Some p
  unfolding more
  ends_here zero p s = rw (no_operator l p.rest s) refl
  ends_here (suc fuel) p s = rw (no_operator l p.rest s) refl

  -- each part of a binary level is read
  chain_complete : IsComplete l (suc b) (chain l right first (suc b))
  chain_complete =
      record {
        finds = λ ts e h d le r s.
            let reached = reaches l ts e h d refl le r (stops-tighter l r s) in
            reached.same ∙ ends_here reached.left (found e h r) s;
      }

-- each condition is read
choice_complete : (b : ℕ) (inner first : Parser) → IsComplete level.Conditional b inner
    → IsComplete level.Disjunction (suc b) first
    → IsComplete level.Conditional (suc b) (choice inner first (suc b))
choice_complete b inner first all tight = record { finds = go } where
  go : (ts : List Token) (e : Expression) (h : ℕ) → IsPart level.Conditional ts e h → h ≤ suc b
      → (r : List Token) → Stops level.Conditional r
      → choice inner first (suc b) (ts ++ r) ≡ Some (found e h r)
  go ts e h (binary {o = o} at x y) le r s = absurd (not_conditional o at)
  go ts e h (looser ne d) le r s =
      rw (tight.finds ts e h d le r (stops-tighter level.Conditional r s), no_question r s) refl
  go ts e h
      (conditional {ts = cs} {xs = xs} {ys = ys} {c = c} {a = a} {b = z} {f = f} {g = g} {h = k} dc
      dx dy) le r s =
      let spelled : (cs ++ token.Question ∷ (xs ++ token.Colon ∷ ys)) ++ r
      ≡ cs ++ token.Question ∷ (xs ++ token.Colon ∷ (ys ++ r)) =
      append_assoc cs (token.Question ∷ (xs ++ token.Colon ∷ ys)) r
      ∙ ap (λ (x : List Token). cs ++ token.Question ∷ x) (append_assoc xs (token.Colon ∷ ys) r) in
      ap (choice inner first (suc b)) spelled
      ∙ rw (
        tight.finds cs c f dc (omega arith) (token.Question ∷ (xs ++ token.Colon ∷ (ys ++ r)))
            refl,
        lt-ltb f (suc b) (omega arith),
        all.finds xs a g dx (omega arith)
            (token.Colon ∷ (ys ++ r)) refl,
        all.finds ys z k dy (omega arith) r s,
      ) refl

module _ (b : ℕ) (inner : Level → Parser) (all : (l : Level) → IsComplete l b (inner l)) where
  -- each part of each level is read
  units_complete : IsComplete level.Unary (suc b) (units inner)
  units_complete =
      unary_complete b _ _ (all level.Unary) (atom_complete b _ (all level.Conditional))

  products_complete : IsComplete level.Product (suc b) (products inner (suc b))
  products_complete =
      chain_complete b level.Product _ _ (λ h. absurd cc) (λ h. absurd cc) (λ h. absurd cc)
      (all level.Unary) units_complete

  sums_complete : IsComplete level.Sum (suc b) (sums inner (suc b))
  sums_complete =
      chain_complete b level.Sum _ _ (λ h. absurd cc) (λ h. absurd cc) (λ h. absurd cc)
      (all level.Product) products_complete

  relations_complete : IsComplete level.Relation (suc b) (relations inner (suc b))
  relations_complete =
      chain_complete b level.Relation _ _ (λ h. absurd cc) (λ h. absurd cc) (λ h. absurd cc)
      (all level.Sum) sums_complete

  equalities_complete : IsComplete level.Equality (suc b) (equalities inner (suc b))
  equalities_complete =
      chain_complete b level.Equality _ _ (λ h. absurd cc) (λ h. absurd cc) (λ h. absurd cc)
      (all level.Relation) relations_complete

  conjunctions_complete : IsComplete level.Conjunction (suc b) (conjunctions inner (suc b))
  conjunctions_complete =
      chain_complete b level.Conjunction _ _ (λ h. absurd cc) (λ h. absurd cc) (λ h. absurd cc)
      (all level.Equality) equalities_complete

  disjunctions_complete : IsComplete level.Disjunction (suc b) (disjunctions inner (suc b))
  disjunctions_complete =
      chain_complete b level.Disjunction _ _ (λ h. absurd cc) (λ h. absurd cc) (λ h. absurd cc)
      (all level.Conjunction) conjunctions_complete

  at_level_complete : (l : Level) → IsComplete l (suc b) (at_level inner (suc b) l)
  at_level_complete level.Atom = atom_complete b _ (all level.Conditional)
  at_level_complete level.Unary = units_complete
  at_level_complete level.Product = products_complete
  at_level_complete level.Sum = sums_complete
  at_level_complete level.Relation = relations_complete
  at_level_complete level.Equality = equalities_complete
  at_level_complete level.Conjunction = conjunctions_complete
  at_level_complete level.Disjunction = disjunctions_complete
  at_level_complete level.Conditional =
      choice_complete b _ _ (all level.Conditional) disjunctions_complete

-- each part has a height
positive_height : (l : Level) (ts : List Token) (e : Expression) (h : ℕ) → IsPart l ts e h → 0 < h
positive_height l ts e h (looser {l = m} {ts = us} {e = f} {h = g} ne d) =
    positive_height (tighter m) us f g d
positive_height l ts e h d = omega arith

-- each part of whatever height is read
pub parse_complete : (n : ℕ) (l : Level) → IsComplete l n (parse n l)
unfolding parse
parse_complete zero l =
    record { finds = λ ts e h d le r s. absurd (omega (arith, positive_height l ts e h d)) }
parse_complete (suc b) l =
    record { finds = (at_level_complete b (parse b) (parse_complete b) l).finds }
