use Rattle.std.proofs.Common.{◌≡◌, length, take}
use Rattle.std.specs.FinMap as map
use Rattle.icu_locale_fallback.specs.Rows.{IsTableOf}
use Rattle.icu_locale_fallback.proofs.table.table_of_rows.Given as goal

-- the table is that of the rows so far
abbrev pub invariant-loop-index : goal.invariant-loop-index
invariant-loop-index g l =
    IsTableOf g.K.RowKey.key_is g.V.RowValue.value_is (take l.index l.rows)
    (map.from_entries {R = g.K.Ord.cmp} l.table.entries)
    × (length l.table.entries ≡ l.index)
