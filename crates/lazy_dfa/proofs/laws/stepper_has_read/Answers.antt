use Rattle.lazy_dfa.specs.SteppingLaws.{read_from_begin}
use Rattle.lazy_dfa.proofs.laws.stepper_has_read.Goals as goal

pub returns : goal.returns
returns k = read_from_begin
