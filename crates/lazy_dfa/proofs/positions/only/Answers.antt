use Rattle.std.proofs.Common.{ap, ◌∙◌}
use Rattle.std.proofs.lemmas.Nat.{one_shl}
use Rattle.lazy_dfa.specs.Sets.{has}
use Rattle.lazy_dfa.proofs.Sets.{has-only}
use Rattle.lazy_dfa.proofs.positions.only.Goals as goal

pub returns-clause-bits : goal.returns-clause-bits
returns-clause-bits c = one_shl c.args.place 64 c.requires

pub returns-clause-place : goal.returns-clause-place
returns-clause-place c = λ p. ap (λ n. has n p) (one_shl c.args.place 64 c.requires)
    ∙ has-only c.args.place p
