-- Conditions from what was read of a pattern.
use Rattle.std.proofs.Common.{◌≡◌, ℕ, zero, suc, ◌-◌, ◌≤◌, ◌<◌, List, [], ◌∷◌, length, take, Some}
use Rattle.std.proofs.Common.{None, Result, Ok, Err, refl, sym, ap, subst, ◌∙◌, arith}
use Rattle.std.proofs.lemmas.List.{nil_from_length, length-take}
use Rattle.lazy_dfa.specs.declared.automaton.Automaton.{Automaton}
use Rattle.lazy_dfa.specs.declared.parser.Parsed.{Parsed}
use Rattle.lazy_dfa.specs.Expression.{Expression}
use Rattle.lazy_dfa.specs.Syntax.{alt, IsNoAlt, LongestAlt}
use Rattle.lazy_dfa.specs.Compiled.{Sums}
use Rattle.lazy_dfa.specs.Building.{ReadsRun}
use Rattle.lazy_dfa.specs.Machine.{machine_of, IsFor}
use Rattle.lazy_dfa.specs.Parsing.{behind, found, Alternatives, Reads}
use Rattle.lazy_dfa.specs.Positions.{follow, reads}
use Rattle.lazy_dfa.specs.Machine.{Machine}
use Rattle.lazy_dfa.specs.declared.error.ConditionError.{ConditionError}
use Rattle.lazy_dfa.specs.declared.error.ConditionError.TheVariants.{NotAnchored, TooLong, Syntax}
use Rattle.lazy_dfa.specs.declared.error.ConditionError.TheVariants.{NoMemory}
use Rattle.std.specs.Result.{IfOk, IfErr}
use Rattle.lazy_dfa.specs.Refusals.{Anchored, most_characters, condition, IsRefused, IsUnread}
use Rattle.lazy_dfa.proofs.Longest.{is_alt, is_read, longest, no_alt_err, no_alt_rest}
use Rattle.lazy_dfa.proofs.Repeating.{behind_is}

-- all was read: the pattern is an `alt`
pub compiled : (t : List ℕ) (old new : Automaton) (p : Parsed) → old.size ≡ 0
    → ReadsRun Alternatives t old new (Ok p) → length p.rest.now ≡ 0
    → (e : Expression) × alt t e × IsFor (machine_of new p.part) e
compiled t old new p none h all = (
  h.0,
  is_alt t h.0 (is_read t (Ok (found h.0 []))
      (subst (λ (u : List ℕ). Reads Alternatives t (Ok (found h.0 u)))
      (nil_from_length p.rest.now all) h.1)),
  record {
    sums = subst (λ (n : ℕ). Sums p.part h.0 n) none h.2.sums;
    sized = omega (arith, h.2.adds.sized, none);
    follows = λ x y. h.2.adds.follows x y (omega (arith, none)) ∙ ap (λ n. follow h.0 n x y) none;
    atoms = λ x c. h.2.adds.atoms x c (omega (arith, none)) ∙ ap (λ n. reads h.0 n x c) none;
  },
)

-- some of it is left: the pattern is no `alt`
pub unread_rest : (t : List ℕ) (old new : Automaton) (p : Parsed)
    → ReadsRun Alternatives t old new (Ok p) → (length p.rest.now ≡ 0 → ⊥)
    → IsNoAlt t × LongestAlt t (length t - length p.rest.now)
unread_rest t old new p h more =
    let read = is_read t (Ok (found h.0 p.rest.now)) h.1 in (
      no_alt_rest t (found h.0 p.rest.now) read more,
      longest t (Ok (found h.0 p.rest.now)) read,
    )

-- it broke off: the pattern is no `alt`
pub unread_left : (t : List ℕ) (l : ℕ) → Reads Alternatives t (Err l) → IsNoAlt t
    × LongestAlt t (length t - l)
unread_left t l h =
    let read = is_read t (Err l) h in (no_alt_err t l read, longest t (Err l) read)

-- ---- the pattern behind `^`

-- the first characters of a pattern are `^` and a text
pub record Opened (pattern text : List ℕ) : Type 0 where
  pub rest : List ℕ
  pub anchored : Anchored pattern rest
  pub front : text ≡ take 65 rest

-- equal lists, part by part
cons_is : (c d : ℕ) (x y : List ℕ) → c ∷ x ≡ d ∷ y → (c ≡ d) × (x ≡ y)
cons_is c d x y e = (cc, cc)

-- what was copied begins with `^`
pub opened : (pattern text : List ℕ) → Some text ≡ behind 94 (take 66 pattern) → Opened pattern text
opened [] text h = absurd cc
opened (c ∷ rest) text h =
    let e = cons_is c 94 (take 65 rest) text (behind_is 94 (c ∷ take 65 rest) text h) in
    record { rest = rest; anchored = ap (λ d. d ∷ rest) e.0; front = sym e.1 }

-- more than 64 characters stand behind `^`
pub too_long : (pattern text : List ℕ) → Opened pattern text → 64 < length text → (x : List ℕ)
    × Anchored pattern x × (most_characters < length x)
too_long pattern text o lt =
    (o.rest, o.anchored, omega (arith, ap length o.front, length-take 65 o.rest))

-- all of a list
pub take_all : (n : ℕ) (x : List ℕ) → length x ≤ n → take n x ≡ x
take_all zero [] le = refl
take_all (suc n) [] le = refl
take_all zero (c ∷ x) le = absurd (omega arith)
take_all (suc n) (c ∷ x) le = ap (λ l. c ∷ l) (take_all n x (omega arith))

-- the copy is all of a pattern that is short enough
pub all_opened : (pattern text : List ℕ) → Opened pattern text → length text ≤ 64
    → Anchored pattern text
all_opened pattern text o le =
    let short : length o.rest ≤ 65 = omega (arith, ap length o.front, length-take 65 o.rest) in
    o.anchored ∙ ap (λ x. 94 ∷ x) (sym (o.front ∙ take_all 65 o.rest short))

-- the pattern doesn't begin with `^`
pub not_anchored : (pattern : List ℕ) → None ≡ behind 94 (take 66 pattern) → (x : List ℕ)
    → Anchored pattern x → ⊥
not_anchored pattern h x e = no (h ∙ ap (λ p. behind 94 (take 66 p)) e) where
  no : None ≡ Some (take 65 x) → ⊥
  no e = cc

module _ (pattern text : List ℕ) (anchored : Anchored pattern text) (short : length text ≤ 64) where
  pub passed_ok : (r : Result Machine ConditionError)
      → IfOk r (λ c. (e : Expression) × alt text e × IsFor c e)
      → IfOk r (λ c. (e : Expression) × condition pattern e × IsFor c e)
  passed_ok (Ok c) h =
      (h.0, record { text = text; anchored = anchored; short = short; syntax = h.1 }, h.2)
  passed_ok (Err e) h = tt

  pub passed_err : (r : Result Machine ConditionError) → IfErr r (IsUnread text)
      → IfErr r (IsRefused pattern)
  passed_err (Ok c) h = tt
  passed_err (Err NotAnchored) h = absurd h
  passed_err (Err TooLong) h = absurd h
  passed_err (Err (Syntax place)) h = (text, anchored, short, h.0, h.1)
  passed_err (Err NoMemory) h = tt
