use Rattle.std.proofs.Common.{arith, get_or, ◌∙◌, not, ap}
use Rattle.std.proofs.lemmas.Result.{err_from_is_err_and}
use Rattle.language_tags_registry.specs.declared.kind.RegistryTable.TheVariants.{Languages}
use Rattle.language_tags_registry.proofs.Filled.{are_tables, filled_push, first_fault, hold_tables}
use Rattle.language_tags_registry.proofs.Filled.{no_memory}
use Rattle.language_tags_registry.proofs.TableNumbers.{in_order, number-in_order}
use Rattle.language_tags_registry.proofs.registry.Registry.try_new.Goals as goal

pub returns-in_err-filled-clause-err : goal.returns-in_err-filled-clause-err
returns-in_err-filled-clause-err c =
    let k = c.loop-table.table-index in
    let p = err_from_is_err_and c.from_residual.result c.from_residual.ensures.1 in
    rw (p.1, p.2)
    (first_fault c.args.rows.now k c.loop-table.tables.items c.loop-table.invariant
    (get_or in_order k Languages)
    (number-in_order k Languages c.loop-table-test.true) c.kind.result c.kind.ensures
    c.of_table.result.now c.of_table.ensures _
    c.in_err-filled.ensures.err)

pub returns-then-is_err-clause-err : goal.returns-then-is_err-clause-err
returns-then-is_err-clause-err c = no_memory c.args.rows.now

pub loop-table-preserved : goal.loop-table-preserved
loop-table-preserved c =
    let k = c.loop-table.table-index in
    let ok = c.is_err.ensures.negation ∙ ap not c.if-is_err.false in
    rw (c.push.ensures.items, ok)
    (filled_push c.args.rows.now k c.loop-table.tables.items c.loop-table.invariant
    (get_or in_order k Languages)
    (number-in_order k Languages c.loop-table-test.true) c.kind.result c.kind.ensures
    c.of_table.result.now c.of_table.ensures
    c.in_ok-filled.filled c.in_ok-filled.ensures.ok)

pub invariant_of-result : goal.invariant_of-result
invariant_of-result c =
    hold_tables c.args.rows.now c.loop-table.table-index c.loop-table.tables.items
    c.loop-table.invariant (omega arith)

pub returns-clause-ok : goal.returns-clause-ok
returns-clause-ok c =
    are_tables c.args.rows.now c.loop-table.table-index c.loop-table.tables.items
    c.loop-table.invariant
    (omega arith)
