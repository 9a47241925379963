use Rattle.std.proofs.Common.{◌≡◌, ℕ, List, ◌++◌, length}
use Rattle.std.specs.Fmt.{HasWritten, IsPlainFormatter}
use Rattle.unic_langid_impl.specs.Identifier.{print}
use Rattle.unic_langid_impl.specs.Printing.{dashed}
use Rattle.unic_langid_impl.proofs.identifier.print.LanguageIdentifierDisplay.fmt.Given as goal

-- what is written, and the printed rest, are the whole
abbrev pub invariant-loop-subtag : goal.invariant-loop-subtag
invariant-loop-subtag g l =
    IsPlainFormatter l.fn.f
    → (written : List ℕ) × HasWritten g.W.Write.write_str_gives l.fn.f written l.f
    × (written ++ dashed l.subtags ≡ print l.self)

abbrev pub decreases-loop-subtag : goal.decreases-loop-subtag
decreases-loop-subtag g l = length l.subtags
