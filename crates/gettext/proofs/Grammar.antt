-- Reading by levels finds the parts of the grammar, and no others.
use Rattle.std.proofs.Common.{◌≡◌, ◌≢◌, ℕ, zero, suc, ◌≤◌, ◌<◌, Bool, true, false, cond, ltb, eqb}
use Rattle.std.proofs.Common.{List, [], ◌∷◌, ◌++◌, get_or, Option, Some, None, refl, sym, ap, subst}
use Rattle.std.proofs.Common.{◌∙◌, arith, append_assoc}
use Rattle.std.proofs.lemmas.Bool.{ltb-true, eqb-true}
use Rattle.std.proofs.lemmas.Option.{same_Some}
use Rattle.gettext.specs.declared.plurals.expression.Operator.{Operator}
use Rattle.gettext.specs.declared.plurals.tokens.Token.{Token}
use Rattle.gettext.specs.declared.plurals.tokens.Token.TheVariants as token
use Rattle.gettext.specs.declared.plurals.grammar.Level.{Level}
use Rattle.gettext.specs.declared.plurals.grammar.Level.TheVariants as level
use Rattle.gettext.specs.Optional.{◌>>=◌}
use Rattle.gettext.specs.Grammar.{rank, tighter, level_of, IsPart, name, numeral, parentheses}
use Rattle.gettext.specs.Grammar.{negation, binary, conditional, looser}
use Rattle.gettext.specs.Parsing.{is_mark, after, Found, Parser, parse, at_level, atom, atom_or}
use Rattle.gettext.specs.Parsing.{leaf_at, unary, unary_or, operator_at, more, more_at, chain}
use Rattle.gettext.specs.Parsing.{choice, choice_at, closed, negated, joined, chosen, units}
use Rattle.gettext.specs.Parsing.{products, sums, relations, equalities, conjunctions, disjunctions}

-- ---- what is read is a part

-- the tokens begin with a part of the level, of at most that height
pub record Takes (l : Level) (budget : ℕ) (ts : List Token) (p : Found) : Type 0 where
  pub front : List Token
  pub parts : ts ≡ front ++ p.rest
  pub part : IsPart l front p.tree p.height
  pub low : p.height ≤ budget

-- whatever a parser reads of the level, of at most that height, is a part of it
pub record IsSound (l : Level) (budget : ℕ) (read : Parser) : Type 0 where
  pub takes : (ts : List Token) (p : Found) → read ts ≡ Some p → Takes l budget ts p

-- what follows from a value follows from one that is there
pub bind_some : {A B : Type 0} (o : Option A) (f : A → Option B) (y : B) → (o >>= f) ≡ Some y
    → (x : A) × (o ≡ Some x) × (f x ≡ Some y)
bind_some None f y e = absurd cc
bind_some (Some x) f y e = (x, refl, e)

-- what is there under a test passes it
guarded : {A : Type 0} (b : Bool) (o : Option A) (y : A) → cond b o None ≡ Some y
    → (b ≡ true) × (o ≡ Some y)
guarded true o y e = (refl, e)
guarded false o y e = absurd cc

-- the token that passes the test is the mark
mark_is : (mark t : Token) → is_mark mark t ≡ true → t ≡ mark
mark_is token.Bang token.Bang e = refl
mark_is token.Open token.Open e = refl
mark_is token.Close token.Close e = refl
mark_is token.Question token.Question e = refl
mark_is token.Colon token.Colon e = refl
mark_is mark t e = absurd cc

-- what stands behind a mark stands behind it
after_is : (mark : Token) (ts us : List Token) → after mark ts ≡ Some us → ts ≡ mark ∷ us
after_is mark [] us e = absurd cc
after_is mark (t ∷ ts) us e =
    let g = guarded (is_mark mark t) (Some ts) us e in
    let first : t ≡ mark = mark_is mark t g.0 in
    let rest : ts ≡ us = cc (g.1) in
    cc

-- tokens with a mark between them, and others behind them
placed : (front mid inner rest ts : List Token) (mark : Token) → ts ≡ front ++ mid
    → mid ≡ mark ∷ (inner ++ rest) → ts ≡ (front ++ mark ∷ inner) ++ rest
placed front mid inner rest ts mark at is = at ∙ ap (λ (x : List Token). front ++ x) is
    ∙ sym (append_assoc front (mark ∷ inner) rest)

-- levels of one number are one
same_rank : (l m : Level) → rank l ≡ rank m → l ≡ m
same_rank l m e = by_rank l ∙ ap (λ r. get_or levels r level.Atom) e ∙ sym (by_rank m) where
  levels : List Level
  levels =
      level.Atom ∷ level.Unary ∷ level.Product ∷ level.Sum ∷ level.Relation ∷ level.Equality
      ∷ level.Conjunction ∷ level.Disjunction ∷ level.Conditional ∷ []

  by_rank : (l : Level) → l ≡ get_or levels (rank l) level.Atom
  by_rank level.Atom = refl
  by_rank l = refl

-- an operator that is found is of the level, and stands at the front
operator_is : (l : Level) (ts : List Token) (o : Operator) (us : List Token)
    → operator_at l ts ≡ Some (o, us) → (ts ≡ token.Operator o ∷ us) × (level_of o ≡ l)
operator_is l [] o us e = absurd cc
operator_is l (token.Operator p ∷ ts) o us e =
    let g = guarded (eqb (rank (level_of p)) (rank l)) (Some (p, ts)) (o, us) e in
    let same : (p, ts) ≡ (o, us) = cc in
    let first : p ≡ o = ap (λ (x : Operator × List Token). x.0) same in
    let rest : ts ≡ us = ap (λ (x : Operator × List Token). x.1) same in
    (cc, rw (← first) (same_rank (level_of p) l (eqb-true _ _ g.0)))
operator_is l (t ∷ ts) o us e = absurd cc

-- a leaf that is read is an atom
leaf_takes : (b : ℕ) (ts : List Token) (p : Found) → leaf_at ts ≡ Some p
    → Takes level.Atom (suc b) ts p
leaf_takes b [] p e = absurd cc
leaf_takes b (token.Name ∷ ts) p e =
    subst (Takes level.Atom (suc b) (token.Name ∷ ts)) (same_Some _ p e)
    (record { front = token.Name ∷ []; parts = refl; part = name; low = omega arith })
leaf_takes b (token.Numeral k ∷ ts) p e =
    subst (Takes level.Atom (suc b) (token.Numeral k ∷ ts)) (same_Some _ p e)
    (record { front = token.Numeral k ∷ []; parts = refl; part = numeral; low = omega arith })
leaf_takes b (t ∷ ts) p e = absurd cc

-- what is read as an atom is one
atom_sound : (b : ℕ) (inside : Parser) → IsSound level.Conditional b inside
    → IsSound level.Atom (suc b) (atom inside)
atom_sound b inside sound =
    record { takes = λ ts p e. by_leaf ts p (leaf_at ts) (after token.Open ts) refl refl e } where
      by_leaf : (ts : List Token) (p : Found) (l : Option Found) (o : Option (List Token))
          → leaf_at ts ≡ l → after token.Open ts ≡ o → atom_or inside l o ≡ Some p
          → Takes level.Atom (suc b) ts p
      by_leaf ts p (Some q) o l_is o_is e = leaf_takes b ts p (l_is ∙ e)
      by_leaf ts p None None l_is o_is e = absurd cc
      by_leaf ts p None (Some us) l_is o_is e =
          let first =
          bind_some (inside us) (λ q. after token.Close q.rest >>= λ vs. Some (closed q vs)) p e in
          let second =
          bind_some (after token.Close first.0.rest) (λ vs. Some (closed first.0 vs)) p first.2 in
          let t = sound.takes us first.0 first.1 in
          let shut = after_is token.Close first.0.rest second.0 second.1 in
          let whole : ts ≡ (token.Open ∷ t.front ++ token.Close ∷ []) ++ second.0 =
          after_is token.Open ts us o_is
          ∙ ap (λ (x : List Token). token.Open ∷ x)
          (t.parts ∙ ap (λ (x : List Token). t.front ++ x) shut
          ∙ sym (append_assoc t.front (token.Close ∷ []) second.0)) in
          subst (Takes level.Atom (suc b) ts) (same_Some (closed first.0 second.0) p second.2)
          (record {
            front = token.Open ∷ t.front ++ token.Close ∷ [];
            parts = whole;
            part = parentheses t.part;
            low = omega (arith, t.low);
          })

-- what is read as a unary part is one
unary_sound : (b : ℕ) (inner tight : Parser) → IsSound level.Unary b inner
    → IsSound level.Atom (suc b) tight → IsSound level.Unary (suc b) (unary inner tight)
unary_sound b inner tight sound first =
    record { takes = λ ts p e. by_bang ts p (after token.Bang ts) refl e } where
      by_bang : (ts : List Token) (p : Found) (o : Option (List Token)) → after token.Bang ts ≡ o
          → unary_or inner o (tight ts) ≡ Some p → Takes level.Unary (suc b) ts p
      by_bang ts p None o_is e = let t = first.takes ts p e in record {
        front = t.front;
        parts = t.parts;
        part = looser (λ h. absurd cc) t.part;
        low = t.low;
      }
      by_bang ts p (Some us) o_is e =
          let got = bind_some (inner us) (λ q. Some (negated q)) p e in
          let t = sound.takes us got.0 got.1 in
          let whole : ts ≡ (token.Bang ∷ t.front) ++ got.0.rest = after_is token.Bang ts us o_is
          ∙ ap (λ (x : List Token). token.Bang ∷ x) t.parts in
          subst (Takes level.Unary (suc b) ts) (same_Some (negated got.0) p got.2) (record {
            front = token.Bang ∷ t.front;
            parts = whole;
            part = negation t.part;
            low = omega (arith, t.low);
          })

module _ (b : ℕ) (l : Level) (right : Parser) (sound : IsSound (tighter l) b right) where
  -- two parts with an operator of the level between them are a part of it
  join_takes : (ts us : List Token) (o : Operator) (p r : Found) → Takes l (suc b) ts p
      → p.rest ≡ token.Operator o ∷ us → level_of o ≡ l → p.height < suc b
      → Takes (tighter l) b us r → Takes l (suc b) ts (joined o p r)
  join_takes ts us o p r t rest at lt tr = record {
    front = t.front ++ token.Operator o ∷ tr.front;
    parts = t.parts
        ∙ ap (λ (x : List Token). t.front ++ x)
        (rest ∙ ap (λ (x : List Token). token.Operator o ∷ x) tr.parts)
        ∙ sym (append_assoc t.front (token.Operator o ∷ tr.front) r.rest);
    part = binary at t.part tr.part;
    low = omega (arith, tr.low);
  }

  -- an operator more leaves what was read a part
  step_sound : (next : Found → Option Found) (ts : List Token) (p q : Found) → Takes l (suc b) ts p
      → ((r : Found) → Takes l (suc b) ts r → next r ≡ Some q → Takes l (suc b) ts q)
      → more_at right (suc b) next p (operator_at l p.rest) ≡ Some q → Takes l (suc b) ts q
  step_sound next ts p q t goes e = by_operator (operator_at l p.rest) refl e where
    by_operator : (o : Option (Operator × List Token)) → operator_at l p.rest ≡ o
        → more_at right (suc b) next p o ≡ Some q → Takes l (suc b) ts q
    by_operator None o_is e = subst (Takes l (suc b) ts) (same_Some p q e) t
    by_operator (Some x) o_is e =
        let at = operator_is l p.rest x.0 x.1 o_is in
        let g = guarded (ltb p.height (suc b)) (right x.1 >>= λ r. next (joined x.0 p r)) q e in
        let got = bind_some (right x.1) (λ r. next (joined x.0 p r)) q g.1 in
        goes (joined x.0 p got.0)
        (join_takes ts x.1 x.0 p got.0 t at.0 at.1 (ltb-true _ _ g.0) (sound.takes x.1 got.0 got.1))
        got.2

  -- so do all that follow
  more_sound : (fuel : ℕ) (ts : List Token) (p q : Found) → Takes l (suc b) ts p
      → more l right (suc b) fuel p ≡ Some q → Takes l (suc b) ts q
  unfolding more
  more_sound zero ts p q t e = step_sound (λ r. None) ts p q t (λ r tr h. absurd cc) e
  more_sound (suc fuel) ts p q t e =
      step_sound (more l right (suc b) fuel) ts p q t (λ r tr h. more_sound fuel ts r q tr h) e

  -- what is read of a binary level is a part of it
  chain_sound : (first : Parser) → l ≢ level.Atom → IsSound (tighter l) (suc b) first
      → IsSound l (suc b) (chain l right first (suc b))
  chain_sound first ne tight = record {
    takes = λ ts p e.
        let got = bind_some (first ts) (more l right (suc b) (suc b)) p e in
        let t = tight.takes ts got.0 got.1 in
        more_sound (suc b) ts got.0 p (record {
          front = t.front;
          parts = t.parts;
          part = looser ne t.part;
          low = t.low;
        }) got.2;
  }

-- what is read as a condition is one
choice_sound : (b : ℕ) (inner first : Parser) → IsSound level.Conditional b inner
    → IsSound level.Disjunction (suc b) first
    → IsSound level.Conditional (suc b) (choice inner first (suc b))
choice_sound b inner first sound tight = record {
  takes = λ ts p e.
      let got =
      bind_some (first ts) (λ c. choice_at inner (suc b) c (after token.Question c.rest)) p e in
      by_question ts p got.0 (tight.takes ts got.0 got.1) (after token.Question got.0.rest) refl
      got.2;
} where
  by_question : (ts : List Token) (p c : Found) → Takes level.Disjunction (suc b) ts c
      → (o : Option (List Token)) → after token.Question c.rest ≡ o
      → choice_at inner (suc b) c o ≡ Some p → Takes level.Conditional (suc b) ts p
  by_question ts p c t None o_is e =
      subst (Takes level.Conditional (suc b) ts) (same_Some c p e) (record {
        front = t.front;
        parts = t.parts;
        part = looser (λ h. absurd cc) t.part;
        low = t.low;
      })
  by_question ts p c t (Some us) o_is e =
      let g = guarded (ltb c.height (suc b))
      (inner us >>= λ a. after token.Colon a.rest >>= λ vs. inner vs >>= λ x. Some (chosen c a x)) p
      e in
      let one = bind_some (inner us)
      (λ a. after token.Colon a.rest >>= λ vs. inner vs >>= λ x. Some (chosen c a x)) p g.1 in
      let two = bind_some (after token.Colon one.0.rest)
      (λ vs. inner vs >>= λ x. Some (chosen c one.0 x)) p one.2 in
      let three = bind_some (inner two.0) (λ x. Some (chosen c one.0 x)) p two.2 in
      let ta = sound.takes us one.0 one.1 in
      let tb = sound.takes two.0 three.0 three.1 in
      let behind : us ≡ (ta.front ++ token.Colon ∷ tb.front) ++ three.0.rest =
      placed ta.front one.0.rest tb.front three.0.rest us token.Colon ta.parts
      (after_is token.Colon one.0.rest two.0 two.1
      ∙ ap (λ (x : List Token). token.Colon ∷ x) tb.parts) in
      let whole : ts
      ≡ (t.front ++ token.Question ∷ (ta.front ++ token.Colon ∷ tb.front)) ++ three.0.rest =
      placed t.front c.rest (ta.front ++ token.Colon ∷ tb.front) three.0.rest ts token.Question
      t.parts (after_is token.Question c.rest us o_is
      ∙ ap (λ (x : List Token). token.Question ∷ x) behind) in
      let lt : c.height < suc b = ltb-true _ _ g.0 in
      subst (Takes level.Conditional (suc b) ts) (same_Some (chosen c one.0 three.0) p three.2)
      (record {
        front = t.front ++ token.Question ∷ (ta.front ++ token.Colon ∷ tb.front);
        parts = whole;
        part = conditional t.part ta.part tb.part;
        low = omega (arith, ta.low, tb.low);
      })

module _ (b : ℕ) (inner : Level → Parser) (sound : (l : Level) → IsSound l b (inner l)) where
  -- what is read of each level is a part of it
  units_sound : IsSound level.Unary (suc b) (units inner)
  units_sound = unary_sound b _ _ (sound level.Unary) (atom_sound b _ (sound level.Conditional))

  products_sound : IsSound level.Product (suc b) (products inner (suc b))
  products_sound = chain_sound b level.Product _ (sound level.Unary) _ (λ h. absurd cc) units_sound

  sums_sound : IsSound level.Sum (suc b) (sums inner (suc b))
  sums_sound = chain_sound b level.Sum _ (sound level.Product) _ (λ h. absurd cc) products_sound

  relations_sound : IsSound level.Relation (suc b) (relations inner (suc b))
  relations_sound = chain_sound b level.Relation _ (sound level.Sum) _ (λ h. absurd cc) sums_sound

  equalities_sound : IsSound level.Equality (suc b) (equalities inner (suc b))
  equalities_sound =
      chain_sound b level.Equality _ (sound level.Relation) _ (λ h. absurd cc) relations_sound

  conjunctions_sound : IsSound level.Conjunction (suc b) (conjunctions inner (suc b))
  conjunctions_sound =
      chain_sound b level.Conjunction _ (sound level.Equality) _ (λ h. absurd cc) equalities_sound

  disjunctions_sound : IsSound level.Disjunction (suc b) (disjunctions inner (suc b))
  disjunctions_sound = chain_sound b level.Disjunction _ (sound level.Conjunction)
      _ (λ h. absurd cc) conjunctions_sound

  at_level_sound : (l : Level) → IsSound l (suc b) (at_level inner (suc b) l)
  at_level_sound level.Atom = atom_sound b _ (sound level.Conditional)
  at_level_sound level.Unary = units_sound
  at_level_sound level.Product = products_sound
  at_level_sound level.Sum = sums_sound
  at_level_sound level.Relation = relations_sound
  at_level_sound level.Equality = equalities_sound
  at_level_sound level.Conjunction = conjunctions_sound
  at_level_sound level.Disjunction = disjunctions_sound
  at_level_sound level.Conditional = choice_sound b (inner level.Conditional)
      (disjunctions inner (suc b)) (sound level.Conditional) disjunctions_sound

-- what is read of a level, of whatever height, is a part of it
pub parse_sound : (n : ℕ) (l : Level) → IsSound l n (parse n l)
unfolding parse
parse_sound zero l = record { takes = λ ts p e. absurd cc }
parse_sound (suc b) l = record { takes = (at_level_sound b (parse b) (parse_sound b) l).takes }
