-- What a pattern is read as says whether it is a condition, and else why it is none.
use Rattle.std.proofs.Common.{◌≡◌, ◌≢◌, ℕ, ◌-◌, ◌≤◌, Bool, true, false, List, [], ◌++◌}
use Rattle.std.proofs.Common.{length, Option, Some, None, Result, Ok, Err, refl, sym, ap, ◌∙◌}
use Rattle.std.proofs.Common.{arith, append-nil}
use Rattle.std.specs.Prelude.{◌==◌, nat_le, if◌then◌else◌}
use Rattle.std.proofs.lemmas.Bool.{le-leb, lt-leb, eqb-true}
use Rattle.std.proofs.lemmas.List.{nil_from_length}
use Rattle.lazy_dfa.specs.Expression.{Expression}
use Rattle.lazy_dfa.specs.Syntax.{alt, IsNoAlt, LongestAlt}
use Rattle.lazy_dfa.specs.Parsing.{behind, parse, needed, Found, found, Alternatives}
use Rattle.lazy_dfa.specs.Refusals.{Anchored, most_characters, condition, IsRefused}
use Rattle.lazy_dfa.specs.ConditionOf.{condition_read, condition_behind, condition_of}
use Rattle.lazy_dfa.specs.declared.error.ConditionError.{ConditionError}
use Rattle.lazy_dfa.specs.declared.error.ConditionError.TheVariants.{NotAnchored, TooLong, Syntax}
use Rattle.lazy_dfa.specs.declared.error.ConditionError.TheVariants.{NoMemory}
use Rattle.lazy_dfa.proofs.Grammar.{exact, at_end}
use Rattle.lazy_dfa.proofs.Longest.{IsRead, longest, is_alt}
use Rattle.lazy_dfa.proofs.Repeating.{behind_is}

-- an `alt` is read whole
whole : (text : List ℕ) (e : Expression) → alt text e → IsRead text (Ok (found e []))
whole text e h =
    let all : text ++ [] ≡ text = append-nil text in
    ap (parse (needed Alternatives text) Alternatives) (sym all)
    ∙ exact h [] at_end (needed Alternatives text) (omega (arith, ap length all))

-- a test that passes
passes : {X : Type 0} (b : Bool) (x y : X) → b ≡ true → (if b then x else y) ≡ x
passes b x y e = ap (λ t. if t then x else y) e

-- a test that fails
fails : {X : Type 0} (b : Bool) (x y : X) → b ≡ false → (if b then x else y) ≡ y
fails b x y e = ap (λ t. if t then x else y) e

-- what is read of a short text behind `^`
read_behind : (text : List ℕ) (r : Result Found ℕ) → length text ≤ most_characters → IsRead text r
    → condition_behind (Some text) ≡ condition_read text r
read_behind text r short read =
    passes (nat_le (length text) most_characters)
    (condition_read text (parse (needed Alternatives text) Alternatives text)) (Err TooLong)
    (le-leb (length text) most_characters short)
    ∙ ap (condition_read text) read

-- the one expression of a condition
pub condition_is : (pattern : List ℕ) (e : Expression) → condition pattern e
    → condition_of pattern ≡ Ok e
unfolding condition_of
condition_is pattern e c =
    ap (λ (p : List ℕ). condition_behind (behind 94 p)) c.anchored
    ∙ read_behind c.text (Ok (found e [])) c.short (whole c.text e c.syntax)

-- a pattern without `^`
unanchored : (pattern : List ℕ) (o : Option (List ℕ)) → o ≡ behind 94 pattern
    → ((text : List ℕ) → Anchored pattern text → ⊥) → condition_behind o ≡ Err NotAnchored
unanchored pattern None h never = refl
unanchored pattern (Some t) h never = absurd (never t (behind_is 94 pattern t h))

-- a text has one longest `alt`
one_longest : (text : List ℕ) (i j : ℕ) → LongestAlt text i → LongestAlt text j → i ≡ j
one_longest text i j a b =
    let up = a.longest j b.within b.expression b.prefix in
    let down = b.longest i a.within a.expression a.prefix in
    omega (arith, up, down)

-- what is read of a text that is no `alt`
unread : (text : List ℕ) (place : ℕ) (r : Result Found ℕ) → IsNoAlt text → LongestAlt text place
    → IsRead text r → condition_read text r ≡ Err (Syntax place)
unread text place (Err left) never l read =
    ap (λ n. Err (Syntax n)) (one_longest text (length text - left) place
    (longest text (Err left) read) l)
unread text place (Ok p) never l read = by (length p.rest == 0) refl where
  by : (b : Bool) → (length p.rest == 0) ≡ b → condition_read text (Ok p) ≡ Err (Syntax place)
  by true e =
      let none : p.rest ≡ [] = nil_from_length p.rest (eqb-true (length p.rest) 0 e) in
      absurd (never p.tree (is_alt text p.tree
      (read ∙ ap (λ (u : List ℕ). Ok (found p.tree u)) none)))
  by false e =
      fails (length p.rest == 0) (Ok p.tree) (Err (Syntax (length text - length p.rest))) e
      ∙ ap (λ n. Err (Syntax n)) (one_longest text (length text - length p.rest) place
      (longest text (Ok p) read) l)

-- the one cause for which a pattern is no condition
pub refused_is : (pattern : List ℕ) (error : ConditionError) → error ≢ NoMemory
    → IsRefused pattern error → condition_of pattern ≡ Err error
unfolding condition_of
refused_is pattern NotAnchored some h = unanchored pattern (behind 94 pattern) refl h
refused_is pattern TooLong some h =
    ap (λ (p : List ℕ). condition_behind (behind 94 p)) h.1
    ∙ fails (nat_le (length h.0) most_characters)
    (condition_read h.0 (parse (needed Alternatives h.0) Alternatives h.0)) (Err TooLong)
    (lt-leb (length h.0) most_characters h.2)
refused_is pattern (Syntax place) some h =
    ap (λ (p : List ℕ). condition_behind (behind 94 p)) h.1
    ∙ read_behind h.0 (parse (needed Alternatives h.0) Alternatives h.0) h.2 refl
    ∙ unread h.0 place (parse (needed Alternatives h.0) Alternatives h.0) h.3 h.4 refl
refused_is pattern NoMemory some h = absurd (some refl)
