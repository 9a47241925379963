-- The steps of reading a part.
use Rattle.std.proofs.Common.{◌≡◌, ℕ, zero, suc, ◌+◌, ◌-◌, ◌≤◌, ◌<◌, max, List, Option, Some, None}
use Rattle.std.proofs.Common.{Result, Ok, Err, refl, sym, ap, subst, ◌∙◌, arith, ◌⊎◌, inl}
use Rattle.std.specs.Result.{MatchResult}
use Rattle.std.proofs.lemmas.Bool.{lt-ltb, le-ltb}
use Rattle.gettext.specs.declared.error.Error.{Error}
use Rattle.gettext.specs.declared.error.Error.TheVariants.{NoMemory, PluralParsing}
use Rattle.gettext.specs.declared.plurals.expression.Operator.{Operator}
use Rattle.gettext.specs.declared.plurals.tokens.Token.{Token}
use Rattle.gettext.specs.declared.plurals.tokens.Token.TheVariants as token
use Rattle.gettext.specs.declared.plurals.grammar.Level.{Level}
use Rattle.gettext.specs.declared.plurals.grammar.Level.TheVariants as level
use Rattle.gettext.specs.declared.plurals.grammar.Part.{Part}
use Rattle.gettext.specs.Optional.{◌>>=◌}
use Rattle.gettext.specs.Grammar.{tighter}
use Rattle.gettext.specs.Parsing.{after, Found, found_of, parse, at_level, atom_or, leaf_at}
use Rattle.gettext.specs.Parsing.{unary_or, operator_at, more, choice_at, closed, negated, joined}
use Rattle.gettext.specs.Parsing.{chosen, IsBinary, IsParsed}
use Rattle.gettext.proofs.Memory.{or_memory}

-- an inner part that isn't there leaves the whole out
pub fails_by : {e : Error} (inner found : Option Found)
    → (e ≡ NoMemory) ⊎ ((e ≡ PluralParsing) × (inner ≡ None)) → (inner ≡ None → found ≡ None)
    → (e ≡ NoMemory) ⊎ ((e ≡ PluralParsing) × (found ≡ None))
fails_by inner found h f = or_memory h (λ g. (g.0, f g.1))

-- a number above 0 is one more than the number before it
positive : (n : ℕ) → 0 < n → n ≡ suc (n - 1)
positive n lt = omega arith

-- no part has height 0
pub parse-zero : (l : Level) (ts : List Token) → parse 0 l ts ≡ None
unfolding parse
parse-zero l ts = refl

module _ (n : ℕ) (lt : 0 < n) (ts : List Token) where
  -- a part of some height, from parts of lesser height inside it
  unfold_one : (l : Level) → parse n l ts ≡ at_level (parse (n - 1)) n l ts
  unfolding parse
  unfold_one l = subst (λ (k : ℕ). parse k l ts ≡ at_level (parse (k - 1)) k l ts)
      (sym (positive n lt)) (let e : suc (n - 1) - 1 ≡ n - 1 = omega arith in rw e refl)

  -- an atom is a leaf, or else what stands in parentheses
  pub parse-atom : parse n level.Atom ts
      ≡ atom_or (parse (n - 1) level.Conditional) (leaf_at ts) (after token.Open ts)
  parse-atom = unfold_one level.Atom

  -- a unary part is a `!` and a unary part, or else an atom
  pub parse-unary : parse n level.Unary ts
      ≡ unary_or (parse (n - 1) level.Unary) (after token.Bang ts) (parse n level.Atom ts)
  parse-unary = unfold_one level.Unary
      ∙ ap (unary_or (parse (n - 1) level.Unary) (after token.Bang ts)) (sym parse-atom)

  -- a part of a binary level is a tighter part and the operators that follow it
  pub parse-chain : (l : Level) → IsBinary l
      → parse n l ts ≡ (parse n (tighter l) ts >>= more l (parse (n - 1) (tighter l)) n n)
  parse-chain level.Atom b = absurd b
  parse-chain level.Unary b = absurd b
  parse-chain level.Conditional b = absurd b
  parse-chain l b =
      unfold_one l
      ∙ ap (λ (o : Option Found). o >>= more l (parse (n - 1) (tighter l)) n n)
      (sym (unfold_one (tighter l)))

  -- a condition is a disjunction, and what it chooses from where a `?` follows
  pub parse-choice : parse n level.Conditional ts
      ≡ (parse n level.Disjunction ts
      >>= λ c. choice_at (parse (n - 1) level.Conditional) n c (after token.Question c.rest))
  parse-choice = unfold_one level.Conditional
      ∙ ap (λ (o : Option Found). o
      >>= λ c. choice_at (parse (n - 1) level.Conditional) n c (after token.Question c.rest))
      (sym (unfold_one level.Disjunction))

-- ---- operators of one level between parts

-- what was read before, and what follows, gives what the whole gives
pub record IsChained (budget : ℕ) (level : Level) (tokens : List Token) (left : Part) : Type 0 where
  pub fuel : ℕ
  pub room : budget ≤ fuel + left.height
  pub low : left.height ≤ budget
  pub same : parse budget level tokens
      ≡ more level (parse (budget - 1) (tighter level)) budget fuel (found_of left)

-- a node that was made, or for which memory ran out
pub made : (r : Result Part Error) (f : Found) (found : Option Found)
    → MatchResult r (λ p. found_of p ≡ f) (λ e. e ≡ NoMemory) → found ≡ Some f
    → IsParsed found_of r found
made (Ok p) f found m e = rw m e
made (Err e') f found m e = inl m

-- what is found of another part is found of the same part
pub passed_on : (r : Result Part Error) (inner found : Option Found) → IsParsed found_of r inner
    → found ≡ inner → IsParsed found_of r found
passed_on r inner found h e = rw e h

module _ (n : ℕ) (lt : 0 < n) (ts : List Token) (l : Level) (bin : IsBinary l) where
  -- no tighter part, no part
  pub chain_fails : parse n (tighter l) ts ≡ None → parse n l ts ≡ None
  chain_fails none = rw (parse-chain n lt ts l bin, none) refl

  -- a tighter part begins a chain
  pub chain_begins : (left : Part) → parse n (tighter l) ts ≡ Some (found_of left) → left.height ≤ n
      → IsChained n l ts left
  chain_begins left some low = record {
    fuel = n;
    room = omega arith;
    low = low;
    same = rw (parse-chain n lt ts l bin, some) refl;
  }

module _ (n : ℕ) (l : Level) (ts : List Token) (left : Part) (h : IsChained n l ts left) where
  -- where no operator of the level follows, the chain is the part
  pub chain_ends : None ≡ operator_at l left.rest.now → parse n l ts ≡ Some (found_of left)
  unfolding more
  chain_ends none = h.same ∙ by_fuel h.fuel where
    by_fuel : (fuel : ℕ)
        → more l (parse (n - 1) (tighter l)) n fuel (found_of left) ≡ Some (found_of left)
    by_fuel zero = rw (← none) refl
    by_fuel (suc fuel) = rw (← none) refl

  module _ (o : Operator) (us : List Token) (at : Some (o, us) ≡ operator_at l left.rest.now) where
    -- no operator follows a part that has the greatest height
    pub chain_full : n ≤ left.height → parse n l ts ≡ None
    unfolding more
    chain_full high = h.same ∙ by_fuel h.fuel where
      by_fuel : (fuel : ℕ) → more l (parse (n - 1) (tighter l)) n fuel (found_of left) ≡ None
      by_fuel zero = rw (← at, le-ltb left.height n high) refl
      by_fuel (suc fuel) = rw (← at, le-ltb left.height n high) refl

    -- where an operator follows, the part behind it joins what was read
    chain_step : left.height < n
        → parse n l ts
        ≡ (parse (n - 1) (tighter l) us
        >>= λ q. more l (parse (n - 1) (tighter l)) n (h.fuel - 1) (joined o (found_of left) q))
    unfolding more
    chain_step low = h.same ∙ by_fuel h.fuel h.room where
      by_fuel : (fuel : ℕ) → n ≤ fuel + left.height
          → more l (parse (n - 1) (tighter l)) n fuel (found_of left)
          ≡ (parse (n - 1) (tighter l) us
          >>= λ q. more l (parse (n - 1) (tighter l)) n (fuel - 1) (joined o (found_of left) q))
      by_fuel zero room = absurd (omega arith)
      by_fuel (suc fuel) room = let k : suc fuel - 1 ≡ fuel = omega arith in
          rw (k, ← at, lt-ltb left.height n low) refl

    -- an operator needs a part behind it
    pub chain_breaks : left.height < n → parse (n - 1) (tighter l) us ≡ None → parse n l ts ≡ None
    chain_breaks low none = chain_step low ∙ rw none refl

    -- what was read and the part behind an operator go on with the chain
    pub chain_grows : (right both : Part) → left.height < n
        → parse (n - 1) (tighter l) us ≡ Some (found_of right) → right.height ≤ n - 1
        → found_of both ≡ joined o (found_of left) (found_of right) → IsChained n l ts both
    chain_grows right both low some below is =
        let height : both.height ≡ max left.height right.height + 1 =
        ap (λ (f : Found). f.height) is in
        record {
          fuel = h.fuel - 1;
          room = omega (arith, h.room);
          low = omega arith;
          same = chain_step low ∙ rw (some, is) refl;
        }

module _ (n : ℕ) (lt : 0 < n) (ts : List Token) where
  -- no disjunction, no condition
  pub choice_fails : parse n level.Disjunction ts ≡ None → parse n level.Conditional ts ≡ None
  choice_fails none = rw (parse-choice n lt ts, none) refl

  module _ (c : Part) (first : parse n level.Disjunction ts ≡ Some (found_of c)) where
    -- without a `?` the disjunction is the condition
    pub no_choice : None ≡ after token.Question c.rest.now
        → parse n level.Conditional ts ≡ Some (found_of c)
    no_choice none = rw (parse-choice n lt ts, first, ← none) refl

    module _ (us : List Token) (asked : Some us ≡ after token.Question c.rest.now) where
      -- no `?` follows a part that has the greatest height
      pub choice_full : n ≤ c.height → parse n level.Conditional ts ≡ None
      choice_full high = rw (parse-choice n lt ts, first, ← asked, le-ltb c.height n high) refl

      module _ (low : c.height < n) where
        -- a `?` needs a condition behind it
        pub choice_breaks : parse (n - 1) level.Conditional us ≡ None
            → parse n level.Conditional ts ≡ None
        choice_breaks none =
            rw (parse-choice n lt ts, first, ← asked, lt-ltb c.height n low, none) refl

        module _ (a : Part) (second : parse (n - 1) level.Conditional us ≡ Some (found_of a)) where
          -- behind that stands a `:`
          pub no_colon : None ≡ after token.Colon a.rest.now → parse n level.Conditional ts ≡ None
          no_colon none =
              rw (parse-choice n lt ts, first, ← asked, lt-ltb c.height n low, second, ← none) refl

          -- a `:` needs a condition behind it
          pub choice_ends : (vs : List Token) → Some vs ≡ after token.Colon a.rest.now
              → parse (n - 1) level.Conditional vs ≡ None → parse n level.Conditional ts ≡ None
          choice_ends vs colon none =
              rw (
                parse-choice n lt ts,
                first,
                ← asked,
                lt-ltb c.height n low,
                second,
                ← colon,
                none,
              ) refl

          -- three parts with `?` and `:` between them are a condition
          pub choice_found : (vs : List Token) (b : Part) → Some vs ≡ after token.Colon a.rest.now
              → parse (n - 1) level.Conditional vs ≡ Some (found_of b)
              → parse n level.Conditional ts ≡ Some (chosen (found_of c) (found_of a) (found_of b))
          choice_found vs b colon third =
              rw (
                parse-choice n lt ts,
                first,
                ← asked,
                lt-ltb c.height n low,
                second,
                ← colon,
                third,
              ) refl

module _ (n : ℕ) (lt : 0 < n) (ts : List Token) where
  -- a leaf is an atom
  pub leaf_found : (p : Part) → Some (found_of p) ≡ leaf_at ts
      → parse n level.Atom ts ≡ Some (found_of p)
  leaf_found p leaf = rw (parse-atom n lt ts, ← leaf) refl

  -- without a `!` a unary part is an atom
  pub no_bang : None ≡ after token.Bang ts → parse n level.Unary ts ≡ parse n level.Atom ts
  no_bang none = rw (parse-unary n lt ts, ← none) refl

  -- a `!` needs a unary part behind it
  pub operand_fails : (us : List Token) → Some us ≡ after token.Bang ts
      → parse (n - 1) level.Unary us ≡ None → parse n level.Unary ts ≡ None
  operand_fails us bang none = rw (parse-unary n lt ts, ← bang, none) refl

  -- a `!` and a unary part are a unary part
  pub operand_found : (us : List Token) (p : Part) → Some us ≡ after token.Bang ts
      → parse (n - 1) level.Unary us ≡ Some (found_of p)
      → parse n level.Unary ts ≡ Some (negated (found_of p))
  operand_found us p bang some = rw (parse-unary n lt ts, ← bang, some) refl

  module _ (no_leaf : leaf_at ts ≡ None) where
    -- what is no leaf begins with a parenthesis
    pub no_open : None ≡ after token.Open ts → parse n level.Atom ts ≡ None
    no_open none = rw (parse-atom n lt ts, no_leaf, ← none) refl

    module _ (us : List Token) (opened : Some us ≡ after token.Open ts) where
      -- a parenthesis needs a condition behind it
      pub inside_fails : parse (n - 1) level.Conditional us ≡ None → parse n level.Atom ts ≡ None
      inside_fails none = rw (parse-atom n lt ts, no_leaf, ← opened, none) refl

      module _ (p : Part) (inside : parse (n - 1) level.Conditional us ≡ Some (found_of p)) where
        -- behind that stands the other parenthesis
        pub no_close : None ≡ after token.Close p.rest.now → parse n level.Atom ts ≡ None
        no_close none = rw (parse-atom n lt ts, no_leaf, ← opened, inside, ← none) refl

        -- a condition in parentheses is an atom
        pub inside_found : (vs : List Token) → Some vs ≡ after token.Close p.rest.now
            → parse n level.Atom ts ≡ Some (closed (found_of p) vs)
        inside_found vs shut = rw (parse-atom n lt ts, no_leaf, ← opened, inside, ← shut) refl

-- ---- what the search needs

-- a part of a binary level, and the operators that follow it
pub ruleset chains = (chain_fails, chain_begins, chain_ends, chain_full, chain_breaks, chain_grows)

-- a condition, or where none stands
pub ruleset conditions = (choice_fails, no_choice, choice_full, choice_breaks, choice_ends)

-- an atom: a leaf, or a condition in parentheses
pub ruleset atoms = (leaf_found, no_open, inside_fails, no_close, inside_found)

-- a unary part, or a part of no height
pub ruleset units = (no_bang, operand_fails, operand_found, parse-zero, passed_on)

-- how a part is read, level by level
pub ruleset parsed = (fails_by, made, no_colon, choice_found, atoms, units, chains, conditions)
