-- The bundles so far, in front of those to come, are all bundles.
use Rattle.std.proofs.Common.{◌≡◌, ◌++◌, map}
use Rattle.std.specs.Vec.Iter.{into_iter_items}
use Rattle.localise_document.specs.Bundles.{bundle_with}
use Rattle.localise_document.proofs.bundles.with_root.Given as goal

abbrev pub invariant-loop-parts : goal.invariant-loop-parts
invariant-loop-parts l =
    (goal.iterator-loop-parts).can_next l.parts-iterator ×
    (goal.iterator-loop-parts).is_finite l.parts-iterator ×
    (l.texts.items ++ map (bundle_with l.root) (into_iter_items l.parts-iterator)
    ≡ map (bundle_with l.root) l.fn.bundles.items)
