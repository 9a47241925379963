use Rattle.std.proofs.Common.{◌≡◌, length}
use Rattle.std.specs.Prelude.{◌↔◌}
use Rattle.unic_langid_impl.specs.Identifier.{print}
use Rattle.unic_langid_impl.specs.Printing.{dashed}
use Rattle.unic_langid_impl.proofs.identifier.LanguageIdentifier.eq_str.Given as goal

-- what is left of the text is the printed rest where the text is the whole
abbrev pub invariant-loop-subtag : goal.invariant-loop-subtag
invariant-loop-subtag l = (l.fn.other ≡ print l.self) ↔ (l.rest ≡ dashed l.subtags)

abbrev pub decreases-loop-subtag : goal.decreases-loop-subtag
decreases-loop-subtag l = length l.subtags
