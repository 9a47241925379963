use Rattle.std.proofs.Common.{take}
use Rattle.unic_langid_impl.specs.LikelyRows.{IsTableOf}
use Rattle.unic_langid_impl.proofs.likelysubtags.tables.table.Given as goal

-- the table is that of the rows so far
abbrev pub invariant-loop-index : goal.invariant-loop-index
invariant-loop-index g l =
    IsTableOf g.K.Key.key_is g.K.Ord.cmp (take l.index l.rows) l.table.entries
