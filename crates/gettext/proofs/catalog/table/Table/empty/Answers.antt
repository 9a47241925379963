use Rattle.std.specs.List.Sorted.{IsStrictlySortedBy}
use Rattle.std.proofs.Common.{refl}
use Rattle.gettext.specs.Table.{held}
use Rattle.gettext.proofs.catalog.table.Table.empty.Goals as goal

pub invariant_of-result : goal.invariant_of-result
unfolding IsStrictlySortedBy held
invariant_of-result c = rw (c.new.ensures.items, c.new-2.ensures.items) (record {
  table = record { rows_fit = tt; keys_ascend = tt };
  header = λ k q m n e f. absurd cc;
  bounded = refl;
})
