use Rattle.language_tags_registry.proofs.Filled.{AreFilled}
use Rattle.language_tags_registry.proofs.registry.Registry.try_new.Given as goal

-- the tables so far are those of their rows
abbrev pub invariant-loop-table : goal.invariant-loop-table
invariant-loop-table l = AreFilled l.rows l.table-index l.tables.items
