-- Texts that a stepper took, one after another.
use Rattle.std.specs.Prelude.{ℕ, List, [], ◌++◌, length}
use Rattle.std.proofs.Common.{refl, sym, ap, subst, ◌∙◌, append-nil, append_assoc, arith}
use Rattle.std.proofs.Common.{length-append}
use Rattle.lazy_dfa.specs.Expression.{Expression}
use Rattle.lazy_dfa.specs.Machine.{Machine, IsFor}
use Rattle.lazy_dfa.specs.Stepping.{HasRead, Took}
use Rattle.lazy_dfa.specs.Progress.{Progress, begun}

-- a stepper took no characters
pub Took-nothing : (s : Progress) → Took s [] s
Took-nothing s = record {
  machine = refl;
  read = λ c u m h. subst (λ (t : List ℕ). HasRead c t s) (sym (append-nil u)) h;
  later = omega arith;
}

-- a stepper took a text, and then another one
pub Took-both : (a b c : Progress) (s t : List ℕ) → Took a s b → Took b t c → Took a (s ++ t) c
Took-both a b c s t p q = record {
  machine = q.machine ∙ p.machine;
  read = λ e u m h.
      subst (λ (x : List ℕ). HasRead e x c) (append_assoc u s t)
      (q.read e (u ++ s) (subst (λ (n : Machine). IsFor n e) (sym p.machine) m) (p.read e u m h));
  later = omega (arith, p.later, q.later);
}

-- a stepper as it is made has read nothing
pub read_nothing : (c : Expression) (m : Machine) → HasRead c [] (begun m)
read_nothing c m = record {
  reached = refl;
  unsettled = λ v w e lt h. let n = ap length e in omega (arith, n, length-append v w);
  refused = λ lt. absurd (omega (arith, lt));
}

-- what a stepper has read, from its beginning on
pub read_from_begin : (c : Expression) (m : Machine) (u : List ℕ) (s : Progress) → IsFor m c
    → Took (begun m) u s → HasRead c u s
read_from_begin c m u s f took = took.read c [] f (read_nothing c m)
