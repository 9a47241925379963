use Rattle.unic_langid_impl.proofs.VariantLemmas.{searched-contains}
use Rattle.unic_langid_impl.proofs.identifier.LanguageIdentifier.has_variant.Goals as goal

pub returns : goal.returns
returns c =
    rw (← c.self.view_is)
    (searched-contains c.self.inside.variants.items c.args.variant c.binary_search.result
    c.is_ok.result c.is_ok.ensures.value
    c.self.invariant (rw c.as_slice.ensures.value at c.binary_search.ensures.bound)
    (rw c.as_slice.ensures.value at c.binary_search.ensures.position))
