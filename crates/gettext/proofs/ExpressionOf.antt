-- The function on texts that finds the tree which the grammar gives.
use Rattle.std.proofs.Common.{◌≡◌, ℕ, zero, suc, ◌≤◌, ◌<◌, ◌^◌, Bool, true, false, cond, List, []}
use Rattle.std.proofs.Common.{◌∷◌, length, drop, Option, Some, None, refl, sym, ap, subst, ◌∙◌}
use Rattle.std.proofs.Common.{arith}
use Rattle.std.specs.Prelude.{nat_lt, ◌==◌}
use Rattle.std.specs.Option.{option_map, option_map_or}
use Rattle.std.specs.List.{take_while}
use Rattle.std.specs.Char.{is_ascii_digit}
use Rattle.std.specs.Str.Parse.{digits_value}
use Rattle.std.proofs.lemmas.Bool.{eqb-true, eqb-false}
use Rattle.std.proofs.lemmas.List.{length-drop, nil_from_length}
use Rattle.gettext.specs.declared.plurals.tokens.Token.{Token}
use Rattle.gettext.specs.declared.plurals.tokens.Token.TheVariants.{Numeral}
use Rattle.gettext.specs.declared.plurals.grammar.Level.TheVariants as level
use Rattle.gettext.specs.Optional.{◌>>=◌}
use Rattle.gettext.specs.Expression.{Expression}
use Rattle.gettext.specs.Tokens.{word_at, measured, numeral_at, token_at, is_space, Reads, ends}
use Rattle.gettext.specs.Tokens.{space, token}
use Rattle.gettext.specs.Grammar.{IsWhole, expr, IsNoExpression, height_limit}
use Rattle.gettext.specs.Parsing.{Found, parse, tokens_from, whole_tree, expression_of}
use Rattle.gettext.proofs.Words.{measured_inside}
use Rattle.gettext.proofs.Expressions.{whole_found, is_whole}
use Rattle.gettext.proofs.Grammar.{bind_some}
use Rattle.std.proofs.lemmas.Option.{same_Some}

-- ---- tokens

-- a token has a character at least
token_some : (text : List ℕ) (k : Token) (len : ℕ) → token_at text ≡ Some (k, len) → 0 < len
unfolding token_at numeral_at
token_some text k len h = by_digits (length (take_while is_ascii_digit text) == 0)
    (length (take_while is_ascii_digit text)) refl refl h where
      by_value : (b : Bool) (n : ℕ)
          → cond {A = Option (Token × ℕ)} b
          (Some (Numeral (digits_value 10 (take_while is_ascii_digit text)), n)) None
          ≡ Some (k, len)
          → n ≡ len
      by_value true n e = ap (λ (o : Option (Token × ℕ)). option_map_or (λ q. q.1) o 0) e
      by_value false n e = absurd cc

      by_digits : (b : Bool) (n : ℕ) → (n == 0) ≡ b → length (take_while is_ascii_digit text) ≡ n
          → cond b (option_map measured (word_at text))
          (cond {A = Option (Token × ℕ)}
          (nat_lt (digits_value 10 (take_while is_ascii_digit text)) (2 ^ 64))
          (Some (Numeral (digits_value 10 (take_while is_ascii_digit text)), n)) None)
          ≡ Some (k, len)
          → 0 < len
      by_digits true n z e h = (measured_inside text (k, len) h).0
      by_digits false n z e h =
          let some : n ≡ len =
          by_value (nat_lt (digits_value 10 (take_while is_ascii_digit text)) (2 ^ 64)) n h in
          let more : n ≡ 0 → ⊥ = eqb-false n 0 z in
          omega (arith, some, more)

-- the empty text has no tokens
tokens_none : (n : ℕ) → tokens_from n [] ≡ Some []
tokens_none zero = refl
tokens_none (suc n) = refl

-- the tokens of a text are found
tokens_read : (n : ℕ) (text : List ℕ) (ts : List Token) → length text ≤ n → Reads text ts
    → tokens_from n text ≡ Some ts
tokens_read n text ts le ends = tokens_none n
tokens_read zero text ts le (space {c = c} {text = t} e r) = absurd (omega (arith, le))
tokens_read (suc n) text ts le (space {c = c} {text = t} e r) =
    rw e (tokens_read n t ts (omega (arith, le)) r)
tokens_read zero text ts le (token {c = c} {text = t} e at r) = absurd (omega (arith, le))
tokens_read (suc n) text ts le (token {c = c} {text = t} {t = k} {len = len} {tokens = us} e at r) =
    let shorter : length (drop len (c ∷ t)) ≤ n =
    omega (arith, le, length-drop len (c ∷ t), token_some (c ∷ t) k len at) in
    rw (e, at, tokens_read n (drop len (c ∷ t)) us shorter r) refl

-- what is made of a value is made of one that is there
pub some_mapped : {X Y : Type 0} (f : X → Y) (o : Option X) (y : Y) → option_map f o ≡ Some y
    → (x : X) × (o ≡ Some x) × (f x ≡ y)
some_mapped f None y h = absurd cc
some_mapped f (Some x) y h = (x, refl, cc)

-- what is found is the tokens of the text
read_tokens : (n : ℕ) (text : List ℕ) (ts : List Token) → tokens_from n text ≡ Some ts
    → Reads text ts
read_tokens n [] ts h =
    subst (Reads []) (same_Some _ ts (sym (tokens_none n) ∙ h)) ends
read_tokens zero (c ∷ text) ts h = absurd cc
read_tokens (suc n) (c ∷ text) ts h = by_space (is_space c) refl (λ ts g. read_tokens n text ts g)
    (λ len us g. read_tokens n (drop len (c ∷ text)) us g) h where
      by_space : (b : Bool) → is_space c ≡ b
          → ((us : List Token) → tokens_from n text ≡ Some us → Reads text us)
          → ((len : ℕ) (us : List Token) → tokens_from n (drop len (c ∷ text)) ≡ Some us
          → Reads (drop len (c ∷ text)) us)
          → cond b (tokens_from n text)
          (token_at (c ∷ text)
          >>= λ t. option_map (λ us. t.0 ∷ us) (tokens_from n (drop t.1 (c ∷ text)))) ≡ Some ts
          → Reads (c ∷ text) ts
      by_space true e rest behind g = space e (rest ts g)
      by_space false e rest behind g =
          let t = bind_some (token_at (c ∷ text))
          (λ t. option_map (λ us. t.0 ∷ us) (tokens_from n (drop t.1 (c ∷ text)))) ts g in
          let u = some_mapped (λ us. t.0.0 ∷ us) (tokens_from n (drop t.0.1 (c ∷ text))) ts t.2 in
          subst (Reads (c ∷ text)) u.2 (token e t.1 (behind t.0.1 u.0 u.1))

-- ---- trees

-- the expression of a text is found
pub expression_found : (text : List ℕ) (e : Expression) → expr text e → expression_of text ≡ Some e
unfolding expression_of
expression_found text e h =
    rw (
      tokens_read (length text) text h.tokens (omega arith) h.read,
      whole_found h.tokens e
          h.whole,
    ) refl

-- a part with nothing behind it is the whole
no_length : (p : Found) (e : Expression) → whole_tree p ≡ Some e → (p.rest ≡ []) × (p.tree ≡ e)
no_length p e h = by_test (length p.rest == 0) refl h where
  by_test : (b : Bool) → (length p.rest == 0) ≡ b → cond b (Some p.tree) None ≡ Some e
      → (p.rest ≡ []) × (p.tree ≡ e)
  by_test true t g = (nil_from_length p.rest (eqb-true (length p.rest) 0 t), cc)
  by_test false t g = absurd cc

-- what is found is the expression of the text
pub expression_is : (text : List ℕ) (e : Expression) → expression_of text ≡ Some e → expr text e
unfolding expression_of
expression_is text e h =
    let ts = bind_some (tokens_from (length text) text)
    (λ ts. parse height_limit level.Conditional ts >>= whole_tree) e h in
    let p = bind_some (parse height_limit level.Conditional ts.0) whole_tree e ts.2 in
    let whole = no_length p.0 e p.2 in
    record {
      tokens = ts.0;
      read = read_tokens (length text) text ts.0 ts.1;
      whole = subst (IsWhole ts.0) whole.1 (is_whole ts.0 p.0 p.1 whole.0);
    }

-- nothing is found in a text that is no expression
pub expression_none : (text : List ℕ) → IsNoExpression text → expression_of text ≡ None
expression_none text none = by_case (expression_of text) refl where
  by_case : (o : Option Expression) → expression_of text ≡ o → expression_of text ≡ None
  by_case None h = h
  by_case (Some e) h = absurd (none.none e (expression_is text e h))
