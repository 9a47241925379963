use Rattle.unic_langid_impl.proofs.VariantLemmas.{ascending_of}
use Rattle.unic_langid_impl.proofs.identifier.variants.ascending.Goals as goal

pub returns : goal.returns
returns c =
    ascending_of c.args.variants.items c.sort_unstable.new.self.items c.dedup.new.self.items
    c.sort_unstable.ensures.permutation c.sort_unstable.ensures.sorted c.dedup.ensures.filtered
