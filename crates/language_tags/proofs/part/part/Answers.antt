use Rattle.std.proofs.Common.{arith}
use Rattle.language_tags.proofs.PartLaws.{part_is}
use Rattle.language_tags.proofs.part.part.Goals as goal

pub returns-else-start-end : goal.returns-else-start-end
returns-else-start-end c =
    part_is c.args.start c.args.end c.args.text.now c.range.result.now
    (omega arith) c.requires.within c.range.ensures.value
