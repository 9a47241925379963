use Rattle.unic_langid_impl.proofs.PieceLemmas.{pieces-found, pieces-none}
use Rattle.unic_langid_impl.proofs.parser.pieces.split_first.Goals as goal

pub returns-in-Some : goal.returns-in-Some
returns-in-Some c = pieces-found c.args.bytes.now c.in-Some.end c.in-Some.ensures

pub returns-in-None : goal.returns-in-None
returns-in-None c = pieces-none c.args.bytes.now c.in-None.ensures
