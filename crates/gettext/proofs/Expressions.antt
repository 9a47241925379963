-- A text, its tokens and its tree.
use Rattle.std.proofs.Common.{◌≡◌, ℕ, ◌<◌, ◌^◌, Bool, true, false, cond, ◌&&◌, ◌||◌}
use Rattle.std.proofs.Common.{ltb, leb, List, [], ◌∷◌, ◌++◌, length, take, drop, Option, Some, None}
use Rattle.std.proofs.Common.{Result, Ok, Err, refl, sym, ap, subst, ◌∙◌, arith, ◌⊎◌}
use Rattle.std.specs.Prelude.{find, nat_eq, ◌==◌}
use Rattle.std.specs.Result.{IfOk, IfErr}
use Rattle.std.specs.Option.{option_map, option_map_or}
use Rattle.std.specs.List.{starts_with, list_all, prefix_len, take_while}
use Rattle.std.specs.Char.{is_ascii_digit}
use Rattle.std.specs.Str.{chars, IsAscii, IsUtf8}
use Rattle.std.specs.Str.Parse.{digits_value}
use Rattle.std.proofs.lemmas.Bool.{and_parts, eqb-true, ltb-true, leb-true}
use Rattle.std.proofs.lemmas.List.{append-nil, take-append-drop}
use Rattle.std.proofs.lemmas.Str.{chars-IsAscii, encodes-IsAscii, encodes-chars, IsAscii-append}
use Rattle.std.proofs.lemmas.List.Folds.{length-prefix_len}
use Rattle.gettext.specs.declared.error.Error.{Error}
use Rattle.gettext.specs.declared.error.Error.TheVariants.{NoMemory, PluralParsing}
use Rattle.gettext.specs.declared.plurals.expression.Ast.{Ast}
use Rattle.gettext.specs.declared.plurals.tokens.Token.{Token}
use Rattle.gettext.specs.declared.plurals.tokens.Token.TheVariants.{Numeral}
use Rattle.gettext.specs.declared.plurals.grammar.Level.TheVariants as level
use Rattle.gettext.specs.Expression.{Expression, tree_of}
use Rattle.gettext.specs.Tokens.{words, word_at, measured, numeral_at, token_at, is_space, Reads}
use Rattle.gettext.specs.Tokens.{ends, space, token, IsUnreadable}
use Rattle.gettext.specs.Grammar.{IsPart, IsWhole, IsNoWhole, expr, IsNoExpression}
use Rattle.gettext.specs.Parsing.{Found, parse}
use Rattle.gettext.proofs.Words.{find_passes, starts-prefix, digits_front, unspace, untoken}
use Rattle.gettext.proofs.Grammar.{parse_sound}
use Rattle.std.proofs.lemmas.Option.{same_Some}
use Rattle.std.proofs.lemmas.Str.Ascii.{IsAscii-cons, IsAscii-nil}
use Rattle.std.proofs.lemmas.Fmt.{IsAscii-from_digits}
use Rattle.gettext.proofs.Memory.{or_memory}
use Rattle.gettext.proofs.GrammarComplete.{parse_complete}

-- ---- tokens that are an expression

-- the expression that tokens are is read of them
pub whole_found : (ts : List Token) (e : Expression) → (w : IsWhole ts e)
    → parse 64 level.Conditional ts ≡ Some (record {
      tree = e;
      height = w.height;
      rest = [];
    })
whole_found ts e w =
    rw append-nil at ((parse_complete 64 level.Conditional).finds ts e w.height w.part w.low [] tt)

-- what is read of tokens, with none behind it, is the expression that they are
pub is_whole : (ts : List Token) (p : Found) → parse 64 level.Conditional ts ≡ Some p → p.rest ≡ []
    → IsWhole ts p.tree
is_whole ts p found rest =
    let t = (parse_sound 64 level.Conditional).takes ts p found in
    let all : t.front ≡ ts =
    sym (t.parts ∙ ap (λ (r : List Token). t.front ++ r) rest ∙ append-nil t.front) in
    record {
      height = p.height;
      part = subst (λ (x : List Token). IsPart level.Conditional x p.tree p.height) all t.part;
      low = t.low;
    }

-- tokens of which nothing is read are no expression
pub no_whole : (ts : List Token) → parse 64 level.Conditional ts ≡ None → IsNoWhole ts
no_whole ts none = record { none = λ e w. let some = whole_found ts e w in absurd cc }

-- nor are tokens with some behind what is read
pub no_rest : (ts : List Token) (p : Found) → parse 64 level.Conditional ts ≡ Some p
    → (length p.rest ≡ 0 → ⊥) → IsNoWhole ts
no_rest ts p found more = record {
  none = λ e w.
      let same : record {
        tree = e;
        height = w.height;
        rest = [];
      } ≡ p = same_Some (record {
        tree = e;
        height = w.height;
        rest = [];
      }) p (sym (whole_found ts e w) ∙ found) in
      more (sym (ap (λ (q : Found). length q.rest) same));
}

-- ---- tokens of a text

-- a text has one list of tokens
reads_same : (t : List ℕ) (ts us : List Token) → Reads t ts → Reads t us → ts ≡ us
reads_same t ts us ends ends = refl
reads_same t ts us (space {c = c} {text = text} {tokens = xs} e r) q =
    reads_same text xs us r (unspace c text us e q)
reads_same t ts us (token {c = c} {text = text} {t = k} {len = len} {tokens = xs} e at r) q =
    let u = untoken c text us k len e at q in
    let rest = reads_same (drop len (c ∷ text)) xs u.0 r u.1 in
    ap (λ (x : List Token). k ∷ x) rest ∙ sym u.2

-- a text is one expression at most
pub one_expression : (t : List ℕ) (e f : Expression) → expr t e → expr t f → e ≡ f
one_expression t e f x y =
    let same = reads_same t x.tokens y.tokens x.read y.read in
    let first = whole_found x.tokens e x.whole in
    let second : parse 64 level.Conditional x.tokens ≡ Some (record {
      tree = f;
      height = y.whole.height;
      rest = [];
    }) = rw same (whole_found y.tokens f y.whole) in
    let both : Some (record {
      tree = e;
      height = x.whole.height;
      rest = [];
    }) ≡ Some (record { tree = f; height = y.whole.height; rest = [] }) = sym first ∙ second in
    ap (λ (p : Found). p.tree) (same_Some _ _ both)

-- ---- the characters of a text with tokens are its bytes

-- bytes that are below 128 are ASCII
list_ascii : (w : List ℕ) → list_all (λ c. ltb c 128) w ≡ true → IsAscii w
list_ascii [] all = IsAscii-nil
list_ascii (c ∷ w) all = let both = and_parts (ltb c 128) (list_all (λ c. ltb c 128) w) all in
    IsAscii-cons c w (ltb-true c 128 both.0) (list_ascii w both.1)

-- white space is ASCII
space_ascii : (c : ℕ) → is_space c ≡ true → c < 128
space_ascii c e = by_test (c == 32) refl e where
  by_test : (b : Bool) → (c == 32) ≡ b → (b || (leb 9 c && leb c 13)) ≡ true → c < 128
  by_test true h e = omega (arith, eqb-true c 32 h)
  by_test false h e = omega (arith, leb-true c 13 (and_parts (leb 9 c) (leb c 13) e).1)

-- the text of a token is ASCII
token_ascii : (text : List ℕ) (k : Token) (len : ℕ) → token_at text ≡ Some (k, len)
    → IsAscii (take len text)
unfolding token_at numeral_at word_at
token_ascii text k len e = by_digits (length ds == 0) e where
  ds : List ℕ
  ds = take_while is_ascii_digit text

  exact : length ds ≡ prefix_len is_ascii_digit text
  exact = length-prefix_len is_ascii_digit text

  of_word : (o : Option (List ℕ × Token)) → find (λ w. starts_with nat_eq text w.0) words ≡ o
      → option_map measured o ≡ Some (k, len) → IsAscii (take len text)
  of_word None h e = absurd cc
  of_word (Some w) h e =
      let passes = find_passes (λ w. starts_with nat_eq text w.0)
      (λ w. list_all (λ c. ltb c 128) w.0) words w refl h in
      let size : length w.0 ≡ len =
      ap (λ (o : Option (Token × ℕ)). option_map_or (λ q. q.1) o 0) e in
      let front : w.0 ≡ take len text = starts-prefix text w.0 passes.0
      ∙ ap (λ (n : ℕ). take n text) size in
      rw (← front) (list_ascii w.0 passes.1)

  of_numeral : (b : Bool)
      → cond {A = Option (Token × ℕ)} b (Some (Numeral (digits_value 10 ds), length ds)) None
      ≡ Some (k, len) → IsAscii (take len text)
  of_numeral true e =
      let size : length ds ≡ len =
      ap (λ (o : Option (Token × ℕ)). option_map_or (λ q. q.1) o 0) e in
      let n : len ≡ prefix_len is_ascii_digit text = sym size ∙ exact in
      rw n (IsAscii-from_digits (take (prefix_len is_ascii_digit text) text) (digits_front text))
  of_numeral false e = absurd cc

  by_digits : (b : Bool)
      → cond {A = Option (Token × ℕ)} b
      (option_map measured (find (λ w. starts_with nat_eq text w.0) words))
      (cond {A = Option (Token × ℕ)} (ltb (digits_value 10 ds) (2 ^ 64))
      (Some (Numeral (digits_value 10 ds), length ds)) None) ≡ Some (k, len)
      → IsAscii (take len text)
  by_digits true e = of_word (find (λ w. starts_with nat_eq text w.0) words) refl e
  by_digits false e = of_numeral (ltb (digits_value 10 ds) (2 ^ 64)) e

-- a text that is tokens is ASCII
reads_ascii : (t : List ℕ) (ts : List Token) → Reads t ts → IsAscii t
reads_ascii t ts ends = IsAscii-nil
reads_ascii t ts (space {c = c} {text = text} {tokens = xs} e r) =
    IsAscii-cons c text (space_ascii c e) (reads_ascii text xs r)
reads_ascii t ts (token {c = c} {text = text} {t = k} {len = len} {tokens = xs} e at r) =
    rw (← take-append-drop len (c ∷ text))
    (IsAscii-append (take len (c ∷ text)) (drop len (c ∷ text)) (token_ascii (c ∷ text) k len at)
    (reads_ascii (drop len (c ∷ text)) xs r))

-- bytes that are tokens are so as characters
pub reads_chars : (bs : List ℕ) (ts : List Token) → Reads bs ts → Reads (chars bs) ts
reads_chars bs ts r = rw (chars-IsAscii bs (reads_ascii bs ts r)) r

-- characters that are tokens are so as bytes
pub chars_read : (bs : List ℕ) (ts : List Token) → IsUtf8 bs → Reads (chars bs) ts → Reads bs ts
chars_read bs ts u r =
    let same : chars bs ≡ bs = sym (encodes-IsAscii (chars bs) (reads_ascii (chars bs) ts r))
    ∙ encodes-chars bs u in
    rw same at r

-- ---- what parsing says

-- bytes whose tokens are an expression are one as characters
pub is_expression : (bs : List ℕ) (ts : List Token) (e : Expression) → Reads bs ts → IsWhole ts e
    → expr (chars bs) e
is_expression bs ts e r w = record { tokens = ts; read = reads_chars bs ts r; whole = w }

-- characters whose bytes are no tokens are no expression
pub no_tokens : (bs : List ℕ) → IsUtf8 bs → IsUnreadable bs → IsNoExpression (chars bs)
no_tokens bs u none = record { none = λ e x. none.none x.tokens (chars_read bs x.tokens u x.read) }

-- nor are they where the tokens are none
pub no_expression : (bs : List ℕ) (ts : List Token) → IsUtf8 bs → Reads bs ts → IsNoWhole ts
    → IsNoExpression (chars bs)
no_expression bs ts u r none =
    record {
      none = λ e x.
          none.none e
          (subst (λ (us : List Token). IsWhole us e)
          (reads_same bs x.tokens ts (chars_read bs x.tokens u x.read) r) x.whole);
    }

-- ---- the results

-- what is read of the tokens is the expression of the text
pub parsed_ok : (bs : List ℕ) (ts : List Token) (r : Result Ast Error) → Reads bs ts
    → IfOk r (λ ast. IsWhole ts (tree_of ast)) → IfOk r (λ ast. expr (chars bs) (tree_of ast))
parsed_ok bs ts (Ok ast) r h = is_expression bs ts (tree_of ast) r h
parsed_ok bs ts (Err e) r h = tt

-- what refuses the tokens refuses the text
pub parsed_err : (bs : List ℕ) (ts : List Token) (r : Result Ast Error) → IsUtf8 bs → Reads bs ts
    → IfErr r (λ e. (e ≡ NoMemory) ⊎ ((e ≡ PluralParsing) × IsNoWhole ts))
    → IfErr r (λ e. (e ≡ NoMemory) ⊎ ((e ≡ PluralParsing) × IsNoExpression (chars bs)))
parsed_err bs ts (Ok ast) u r h = tt
parsed_err bs ts (Err e) u r h = or_memory h (λ g. (g.0, no_expression bs ts u r g.1))
