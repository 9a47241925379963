use Rattle.std.proofs.Common.{take}
use Rattle.language_tags_registry.specs.Rows.{IsTableOf}
use Rattle.language_tags_registry.proofs.table.Table.of_rows.Given as goal

-- the table is that of the rows so far
abbrev pub invariant-loop-index : goal.invariant-loop-index
invariant-loop-index l = IsTableOf l.kind (take l.index l.rows) l.table
