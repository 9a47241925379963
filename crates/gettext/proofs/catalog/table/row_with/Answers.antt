use Rattle.std.proofs.Common.{sym, refl}
use Rattle.gettext.proofs.Lookups.{looked_up, if_fits}
use Rattle.gettext.proofs.catalog.table.row_with.Goals as goal

pub returns-clause-found : goal.returns-clause-found
returns-clause-found c =
    sym (looked_up c.args.buffer.now c.args.buffer.now c.args.rows.now c.args.rows.now
    c.args.context c.bytes_in.result c.args.id.now c.as_bytes.result.now c.find_row.result refl refl
    c.bytes_in.ensures.value c.as_bytes.ensures.value c.bytes_in.ensures.utf8 c.utf8.id
    c.find_row.ensures)

pub returns-clause-fits : goal.returns-clause-fits
returns-clause-fits c = if_fits _ _ _ _ c.requires.rows_fit c.find_row.ensures
