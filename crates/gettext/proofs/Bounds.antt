-- The bound of the numbers of forms: what stands for a file's meaning has the same.
use Rattle.std.proofs.Common.{◌≡◌, ℕ, Bool, true, false, cond, List, [], ◌∷◌, Option, Some, None}
use Rattle.std.proofs.Common.{refl, sym, ap, ◌∙◌}
use Rattle.std.specs.Option.{option_or}
use Rattle.std.proofs.lemmas.Slice.Eq.{bytes_eq-Decides}
use Rattle.gettext.specs.declared.spans.Row.{Row}
use Rattle.gettext.specs.declared.plurals.rule.PluralRule.{PluralRule}
use Rattle.gettext.specs.Optional.{◌>>=◌}
use Rattle.writeable_core.specs.Texts.{same_text}
use Rattle.gettext.specs.Messages.{Message, Messages, Rule, Default, Expr, Function, StandsFor}
use Rattle.gettext.specs.Messages.{lookup, has_id, header_of, plurals_named, bound, bound_by}
use Rattle.gettext.specs.Messages.{is_within, numbered, numbered_within}
use Rattle.gettext.specs.Table.{Held, held, messages_of, HasOneHeader, Keeps}
use Rattle.gettext.proofs.Lookups.{numbered-stands}

-- the header is what its key looks up
pub record IsHeaderOf (pairs : List Message) (m : Message) : Type 0 where
  pub looked_up : lookup pairs m.key ≡ Some m
  pub no_id : has_id m.key ≡ false

-- a key with an id is no key without one
pub has_other : (x y : List ℕ) → has_id x ≡ true → has_id y ≡ false → same_text x y ≡ false
has_other x y h k = by_test (same_text x y) refl where
  by_test : (t : Bool) → same_text x y ≡ t → same_text x y ≡ false
  by_test true e = let same : x ≡ y = (bytes_eq-Decides x y).0 e in let clash : true ≡ false =
      sym h ∙ ap has_id same ∙ k in absurd cc
  by_test false e = e

-- without a header no key without an id is there
pub none_looked_up : (pairs : List Message) (k : List ℕ) → header_of pairs ≡ None → has_id k ≡ false
    → lookup pairs k ≡ None
none_looked_up [] k e f = refl
none_looked_up (y ∷ ys) k e f =
    by_id (header_of ys) (has_id y.key) refl refl e (λ p. none_looked_up ys k p f) where
      by_id : (o : Option Message) (t : Bool) → header_of ys ≡ o → has_id y.key ≡ t
          → option_or o (cond t None (Some y)) ≡ None → (header_of ys ≡ None → lookup ys k ≡ None)
          → lookup (y ∷ ys) k ≡ None
      by_id (Some z) t p q r rest = absurd cc
      by_id None false p q r rest = absurd cc
      by_id None true p q r rest = rw (rest p, has_other y.key k q f) refl

-- the message that has the metadata is found by its own key, which has no id
pub header-looked_up : (pairs : List Message) (m : Message) → header_of pairs ≡ Some m
    → IsHeaderOf pairs m
header-looked_up [] m h = absurd cc
header-looked_up (x ∷ xs) m h =
    by_cases (header_of xs) (has_id x.key) refl refl (λ k. header-looked_up xs m k) h where
      by_cases : (o : Option Message) (t : Bool) → header_of xs ≡ o → has_id x.key ≡ t
          → (header_of xs ≡ Some m → IsHeaderOf xs m) → option_or o (cond t None (Some x)) ≡ Some m
          → IsHeaderOf (x ∷ xs) m
      by_cases (Some y) t e f rest h =
          let behind = rest (e ∙ h) in
          record { looked_up = rw behind.looked_up refl; no_id = behind.no_id }
      by_cases None true e f rest h = absurd cc
      by_cases None false e f rest h =
          let same : x ≡ m = cc in
          let found : lookup (x ∷ xs) x.key ≡ Some x =
          rw (none_looked_up xs x.key e f, (bytes_eq-Decides x.key x.key).1 refl) refl in
          record { looked_up = rw (← same) found; no_id = rw (← same) f }

-- what finds alike, where one has one header, has the same header
headers_alike : (kept c : List Message) (o p : Option Message) → HasOneHeader kept
    → ((key : List ℕ) → lookup kept key ≡ lookup c key) → header_of kept ≡ o → header_of c ≡ p
    → o ≡ p
headers_alike kept c None None one alike e f = refl
headers_alike kept c None (Some n) one alike e f =
    let h = header-looked_up c n f in
    let none = none_looked_up kept n.key e h.no_id in
    let clash : None ≡ Some n = sym none ∙ alike n.key ∙ h.looked_up in absurd cc
headers_alike kept c (Some m) None one alike e f =
    let h = header-looked_up kept m e in
    let none = none_looked_up c m.key f h.no_id in
    let clash : Some m ≡ None = sym h.looked_up ∙ alike m.key ∙ none in absurd cc
headers_alike kept c (Some m) (Some n) one alike e f =
    let h = header-looked_up kept m e in
    let k = header-looked_up c n f in
    let there : lookup kept n.key ≡ Some n = alike n.key ∙ k.looked_up in
    let same : m.key ≡ n.key = one m.key n.key m n h.looked_up there h.no_id k.no_id in
    sym h.looked_up ∙ ap (lookup kept) same ∙ there

-- lists of messages that every look-up finds alike have one header at most together
pub one_header-alike : (kept c : List Message) → ((key : List ℕ) → lookup kept key ≡ lookup c key)
    → HasOneHeader c → HasOneHeader kept
one_header-alike kept c alike one =
    λ k q m n e f. one k q m n (sym (alike k) ∙ e) (sym (alike q) ∙ f)

-- one rule has one bound over two lists with the same header
bound_by-alike : (r : Rule) (xs ys : List Message) → header_of xs ≡ header_of ys
    → bound_by r xs ≡ bound_by r ys
bound_by-alike Default xs ys e = ap (λ (o : Option Message). o >>= plurals_named) e
bound_by-alike (Expr t) xs ys e = ap (λ (o : Option Message). o >>= plurals_named) e
bound_by-alike Function xs ys e = refl

-- what stands for messages has their bound
pub bound-stands : (kept c : Messages) → HasOneHeader kept.pairs → StandsFor kept c
    → bound kept ≡ bound c
bound-stands kept c one s = ap (λ (r : Rule). bound_by r kept.pairs) s.rule ∙ bound_by-alike c.rule
    kept.pairs c.pairs (headers_alike kept.pairs c.pairs _ _ one s.lookups refl refl)

module _ (b : List ℕ) (rows : List Row) (rule : PluralRule) (plurals : Option ℕ) (h : Held)
    (c : Messages) (key : List ℕ) (number : ℕ) (view : held b rows rule ≡ h)
    (keeps : Keeps b rows rule plurals) (s : StandsFor (messages_of h) c) where
  -- what a table keeps as its bound is that of what it stands for
  same_bound : plurals ≡ bound c
  unfolding held
  same_bound =
      let one : HasOneHeader (messages_of h).pairs = rw (← view) keeps.header in
      keeps.bounded ∙ ap (λ (x : Held). bound (messages_of x)) view
      ∙ bound-stands (messages_of h) c one s

  -- below the bound the form is that of what the table stands for
  pub within : is_within plurals number ≡ true
      → numbered (messages_of h) key number ≡ numbered_within c key number
  unfolding numbered_within
  within w = let t : is_within (bound c) number ≡ true = ap (λ (o : Option ℕ). is_within o number)
      (sym same_bound) ∙ w in rw t (numbered-stands (messages_of h) c key number s)

  -- from the bound on there is none
  pub not_within : is_within plurals number ≡ false → None ≡ numbered_within c key number
  unfolding numbered_within
  not_within w = let t : is_within (bound c) number ≡ false =
      ap (λ (o : Option ℕ). is_within o number) (sym same_bound) ∙ w in rw t refl
