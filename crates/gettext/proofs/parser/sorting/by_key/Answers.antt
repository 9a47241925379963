use Rattle.std.proofs.lemmas.List.{take_more}
use Rattle.gettext.specs.Table.{key_bytes, IsRowOf}
use Rattle.gettext.proofs.Collecting.{all_at, collects_row}
use Rattle.gettext.proofs.parser.sorting.by_key.Goals as goal

pub loop-row-preserved : goal.loop-row-preserved
unfolding key_bytes
loop-row-preserved c =
    collects_row c.args.buffer.now c.args.rows.now c.loop-row.row-index c.loop-row.found
    c.insert.new.self c.bytes_of.result _ (take_more c.args.rows.now c.loop-row.row-index (record {
      key = record { start = 0; end = 0 };
      forms = record { start = 0; end = 0 };
    }) c.loop-row-test.true)
    c.loop-row.invariant
    (all_at (IsRowOf c.args.buffer.now) c.args.rows.now c.loop-row.row-index _ c.loop-row-test.true
    c.requires) c.bytes_of.ensures c.in_ok-insert.ensures.updates c.in_ok-insert.ensures.entries
    c.in_ok-insert.ensures.ordered
