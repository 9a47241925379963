use Rattle.std.proofs.lemmas.List.{drop_more, drop_all}
use Rattle.gettext.proofs.DecodedRows.{row_decoded, all_decoded}
use Rattle.gettext.proofs.parser.decoding.decode.Goals as goal

pub loop-row-preserved : goal.loop-row-preserved
loop-row-preserved c =
    let h = rw (drop_more c.args.rows.now c.loop-row.row-index (record {
      key = record { start = 0; end = 0 };
      forms = record { start = 0; end = 0 };
    }) c.loop-row-test.true) at c.loop-row.invariant in
    rw c.in_ok-push.ensures.items
    (row_decoded c.args.bytes.now c.args.first c.args.later c.args.rows.now c.loop-row.texts.items
    c.push_row.new.texts.items c.loop-row.decoded.items c.loop-row.encoding _ c.in_ok-row.row
    _ c.type_inv.bytes h c.in_ok-row.ensures)

pub returns : goal.returns
returns c = all_decoded _ _ _ _ _ _ _ _ (drop_all _ _ c.loop-row-test.false) c.loop-row.invariant
