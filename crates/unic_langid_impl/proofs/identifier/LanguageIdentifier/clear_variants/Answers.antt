use Rattle.unic_langid_impl.proofs.VariantLemmas.{ascend-nothing}
use Rattle.unic_langid_impl.proofs.identifier.LanguageIdentifier.clear_variants.Goals as goal

pub invariant_of-self : goal.invariant_of-self
invariant_of-self c = rw c.clear.ensures.items ascend-nothing
