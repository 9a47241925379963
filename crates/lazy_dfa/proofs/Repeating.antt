-- An atom with what follows it.
use Rattle.std.proofs.Common.{◌≡◌, ℕ, ◌+◌, ◌≤◌, Bool, true, false, List, [], ◌∷◌, length, Some}
use Rattle.std.proofs.Common.{None, refl, sym, ap, ◌∙◌, arith}
use Rattle.std.specs.Borrow.{Bor}
use Rattle.std.specs.Prelude.{◌==◌, if◌then◌else◌}
use Rattle.std.proofs.lemmas.Bool.{eqb-true}
use Rattle.lazy_dfa.specs.declared.automaton.Automaton.{Automaton}
use Rattle.lazy_dfa.specs.declared.part.Part.{Part}
use Rattle.lazy_dfa.specs.declared.parser.Parsed.{Parsed}
use Rattle.lazy_dfa.specs.Expression.{Expression, Star, Plus, Optional}
use Rattle.lazy_dfa.specs.Compiled.{Linked, Sums}
use Rattle.lazy_dfa.specs.Building.{Builds}
use Rattle.lazy_dfa.specs.Parsing.{behind, found, suffixed, suffixed_by}
use Rattle.lazy_dfa.proofs.Building.{adds_star, adds_plus, adds_optional, sums_plus}

-- what stands behind a character
pub behind_is : (d : ℕ) (t u : List ℕ) → Some u ≡ behind d t → t ≡ d ∷ u
behind_is d [] u h = absurd cc
behind_is d (c ∷ t) u h = by_test (c == d) refl h where
  by_test : (b : Bool) → (c == d) ≡ b → Some u ≡ (if b then Some t else None) → c ∷ t ≡ d ∷ u
  by_test true e h = let same : u ≡ t = cc in let first : c ≡ d = eqb-true c d e in cc
  by_test false e h = absurd cc

-- less by one is left behind a character
pub behind_shorter : (d : ℕ) (t u : List ℕ) → Some u ≡ behind d t → length t ≡ length u + 1
behind_shorter d t u h =
    ap length (behind_is d t u h) ∙ (let e : length (d ∷ u) ≡ length u + 1 = omega arith in e)

-- the part of an atom as part of what it was read from
abbrev pub Repeated : Expression → Automaton → List ℕ → Parsed → Parsed → Automaton → Type 0
Repeated e before text atom p new =
    (f : Expression) × (suffixed (found e atom.rest.now) ≡ found f p.rest.now)
    × Builds f before text p new × (length p.rest.now ≤ length atom.rest.now)

module _ (e : Expression) (before : Automaton) (text : List ℕ) (atom : Parsed) (old new : Automaton)
    (part : Part) (rest : Bor (List ℕ)) (b : Builds e before text atom old) where
  pub star_read : Linked old atom.part.last atom.part.first new
      → ((a : Expression) (n : ℕ) → Sums atom.part a n → Sums part (Star a) n)
      → Some rest.now ≡ behind 42 atom.rest.now
      → Repeated e before text atom (record { part = part; rest = rest }) new
  star_read l s here =
      let shorter = behind_shorter 42 atom.rest.now rest.now here in (
        Star e,
        ap (λ o. suffixed_by (found e atom.rest.now) o (behind 43 atom.rest.now)
            (behind 63 atom.rest.now)) (sym here),
        record {
          sums = s e before.size b.sums;
          adds = adds_star before old new e atom.part b.adds b.sums l;
          shorter = omega (arith, shorter, b.shorter);
          room = omega (arith, shorter, b.room, l.sized);
        },
        omega (arith, shorter),
      )

  pub plus_read : None ≡ behind 42 atom.rest.now → Linked old atom.part.last atom.part.first new
      → part ≡ atom.part
      → Some rest.now ≡ behind 43 atom.rest.now
      → Repeated e before text atom (record { part = part; rest = rest }) new
  plus_read no_star l same here =
      let shorter = behind_shorter 43 atom.rest.now rest.now here in (
        Plus e,
        ap (λ o. suffixed_by (found e atom.rest.now) o (behind 43 atom.rest.now)
            (behind 63 atom.rest.now)) (sym no_star)
            ∙ ap (λ o. suffixed_by (found e atom.rest.now) None o (behind 63 atom.rest.now))
            (sym here),
        record {
          sums = rw same (sums_plus atom.part e before.size b.sums);
          adds = adds_plus before old new e atom.part b.adds b.sums l;
          shorter = omega (arith, shorter, b.shorter);
          room = omega (arith, shorter, b.room, l.sized);
        },
        omega (arith, shorter),
      )

  pub optional_read : None ≡ behind 42 atom.rest.now → None ≡ behind 43 atom.rest.now
      → ((a : Expression) (n : ℕ) → Sums atom.part a n → Sums part (Optional a) n)
      → Some rest.now ≡ behind 63 atom.rest.now
      → Repeated e before text atom (record { part = part; rest = rest }) old
  optional_read no_star no_plus s here =
      let shorter = behind_shorter 63 atom.rest.now rest.now here in (
        Optional e,
        ap (λ o. suffixed_by (found e atom.rest.now) o (behind 43 atom.rest.now)
            (behind 63 atom.rest.now)) (sym no_star)
            ∙ ap (λ o. suffixed_by (found e atom.rest.now) None o (behind 63 atom.rest.now))
            (sym no_plus)
            ∙ ap (λ o. suffixed_by (found e atom.rest.now) None None o) (sym here),
        record {
          sums = s e before.size b.sums;
          adds = adds_optional before old e b.adds;
          shorter = omega (arith, shorter, b.shorter);
          room = omega (arith, shorter, b.room);
        },
        omega (arith, shorter),
      )
