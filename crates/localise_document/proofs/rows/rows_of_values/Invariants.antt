-- The rows so far, in front of those that the values to come are, are those of all values.
use Rattle.std.proofs.Common.{◌≡◌, length}
use Rattle.std.specs.Vec.Iter.{into_iter_items}
use Rattle.serde_json.specs.View.{items_view}
use Rattle.localise_document.specs.Shape.{rows_from}
use Rattle.localise_document.proofs.Lists.{behind}
use Rattle.localise_document.proofs.rows.rows_of_values.Given as goal

abbrev pub invariant-loop-value : goal.invariant-loop-value
invariant-loop-value g l =
    (goal.iterator-loop-value g).can_next l.value-iterator ×
    (goal.iterator-loop-value g).is_finite l.value-iterator ×
    (behind l.rows.items
    (rows_from (g.R.RowReader.row_of l.reader) l.section (length l.rows.items)
    (items_view (into_iter_items l.value-iterator)))
    ≡ rows_from (g.R.RowReader.row_of l.reader) l.section 0 (items_view l.fn.values.items))
