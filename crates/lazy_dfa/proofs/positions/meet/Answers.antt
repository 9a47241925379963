use Rattle.std.proofs.lemmas.Bool.{not-true, eqb-false, not_from_false, ne_eqb}
use Rattle.std.proofs.Common.{bit_and}
use Rattle.lazy_dfa.proofs.Sets.{meets, meet_some}
use Rattle.lazy_dfa.proofs.positions.meet.Goals as goal

pub returns : goal.returns
returns c = (
  λ h. meets c.args.left c.args.right c.ranges.left.fits c.ranges.right.fits
      (eqb-false (bit_and c.args.left c.args.right) 0 (not-true _ h)),
  λ m. not_from_false _ (ne_eqb (bit_and c.args.left c.args.right) 0
      (meet_some c.args.left c.args.right m)),
)
