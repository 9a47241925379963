use Rattle.unic_langid_impl.proofs.RawLemmas.{zero-found, zero-none}
use Rattle.unic_langid_impl.proofs.subtags.raw.without_zeros.Goals as goal

pub returns-in-Some : goal.returns-in-Some
returns-in-Some c = zero-found c.args.bytes.now c.in-Some.end c.in-Some.ensures

pub returns-in-None : goal.returns-in-None
returns-in-None c = zero-none c.args.bytes.now c.in-None.ensures
