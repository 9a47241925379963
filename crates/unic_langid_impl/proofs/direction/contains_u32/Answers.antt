use Rattle.unic_langid_impl.proofs.NumberLemmas.{searched-is_in}
use Rattle.unic_langid_impl.proofs.direction.contains_u32.Goals as goal

pub returns : goal.returns
returns c =
    searched-is_in c.args.list.now c.args.number c.binary_search.result c.is_ok.result
    c.is_ok.ensures.value c.requires
    c.binary_search.ensures.position
