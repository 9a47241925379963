use Rattle.std.proofs.Common.{◌≡◌, ℕ, ◌+◌, ◌<◌, [], get_or}
use Rattle.std.specs.declared.cmp.Ordering.TheVariants.{Less}
use Rattle.unic_langid_impl.specs.Identifier.{text_cmp}
use Rattle.unic_langid_impl.proofs.identifier.ascend.Given as goal

-- each variant before the next is less than the one behind it
abbrev pub invariant-loop-next : goal.invariant-loop-next
invariant-loop-next l =
    (k : ℕ) → k + 1 < l.next
    → text_cmp (get_or l.variants k []) (get_or l.variants (k + 1) []) ≡ Less
