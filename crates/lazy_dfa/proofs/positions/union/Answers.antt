use Rattle.lazy_dfa.proofs.Sets.{has-or}
use Rattle.lazy_dfa.proofs.positions.union.Goals as goal

pub returns : goal.returns
returns c = has-or c.args.left c.args.right
