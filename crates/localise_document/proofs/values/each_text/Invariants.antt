-- The texts so far, in front of those that the values to come are, are those of all values.
use Rattle.std.proofs.Common.{◌≡◌}
use Rattle.std.specs.Vec.Iter.{into_iter_items}
use Rattle.serde_json.specs.View.{items_view}
use Rattle.localise_document.specs.Shape.{each_text}
use Rattle.localise_document.proofs.Lists.{in_front}
use Rattle.localise_document.proofs.values.each_text.Given as goal

abbrev pub invariant-loop-value : goal.invariant-loop-value
invariant-loop-value l =
    (goal.iterator-loop-value).can_next l.value-iterator ×
    (goal.iterator-loop-value).is_finite l.value-iterator ×
    (in_front l.texts.items (each_text (items_view (into_iter_items l.value-iterator)))
    ≡ each_text (items_view l.fn.values.items))
