-- Nothing is matched at first.
use Rattle.writeable_replace.specs.TriedLaws.{position_start}
use Rattle.writeable_replace.proofs.replacing.pass_on.Goals as goal

pub invariant_of-replacing : goal.invariant_of-replacing
invariant_of-replacing g c = record { is_position = position_start c.args.needle.now c.utf8.needle }
