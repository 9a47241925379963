use Rattle.std.proofs.Common.{ap, refl, ◌∙◌}
use Rattle.std.specs.Prelude.{◌&&◌, ◌||◌}
use Rattle.lazy_dfa.specs.Sets.{has}
use Rattle.lazy_dfa.proofs.Building.{adds_atom}
use Rattle.lazy_dfa.proofs.automaton.Automaton.add_atom.Goals as goal

pub returns-clause-added : goal.returns-clause-added
returns-clause-added c = λ before rs fresh added.
    adds_atom before c.args.self.now _ c.args.negated rs fresh added refl refl refl
    (λ p. c.union_if-self.ensures p
    ∙ ap (λ b. has c.args.self.now.negated p || (c.args.negated && b)) (c.only.ensures.place p))
