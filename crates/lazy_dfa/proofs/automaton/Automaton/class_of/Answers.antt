use Rattle.std.proofs.Common.{length, subst, arith}
use Rattle.lazy_dfa.specs.Expression.{OneOf, set_of}
use Rattle.lazy_dfa.specs.Compiled.{Sums}
use Rattle.lazy_dfa.proofs.automaton.Automaton.class_of.Goals as goal

pub returns : goal.returns
returns c =
    let items = rw c.in-Some.is at c.in_ok-rest.ensures in (
      items.0,
      items.1 (length c.args.items.now) (omega arith),
      subst (λ n. Sums c.add_atom-part.result (OneOf (set_of c.args.negated items.0)) n)
          items.2.sized (c.add_atom-part.ensures.part (set_of c.args.negated items.0)),
      c.add_atom-part.ensures.added c.args.self.now items.0 c.requires.fresh items.2,
      items.3,
    )
