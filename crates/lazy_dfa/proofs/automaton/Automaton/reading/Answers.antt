use Rattle.std.proofs.Common.{ap, ◌∙◌}
use Rattle.std.specs.Int.Bits.{bit_xor}
use Rattle.std.specs.Prelude.{◌&&◌}
use Rattle.lazy_dfa.specs.Expression.{negated_if}
use Rattle.lazy_dfa.specs.Sets.{has}
use Rattle.lazy_dfa.proofs.Sets.{has-and, has-xor}
use Rattle.lazy_dfa.proofs.automaton.Automaton.reading.Goals as goal

pub returns : goal.returns
returns c = λ p.
    has-and c.args.next (bit_xor c.inside.result c.args.self.now.negated) p
    ∙ ap (λ b. has c.args.next p && b) (has-xor c.inside.result c.args.self.now.negated p
    ∙ ap (negated_if (has c.args.self.now.negated p)) (c.inside.ensures p))
