-- The lines so far were taken, over all bundles that the kept ones are alike to, and the known tags
-- are those of requests.
use Rattle.std.proofs.Common.{List}
use Rattle.localise.specs.Kept.{AreAlike}
use Rattle.localise.specs.Meaning.{Meaning}
use Rattle.localise.specs.Views.{meanings, root_of}
use Rattle.localise_run.proofs.Written.{WroteTo}
use Rattle.localise_run.specs.Known.{AreKnownTags}
use Rattle.localise_run.specs.Rendering.{IsLine, IsLineFault}
use Rattle.localise_run.proofs.render.write_lines.Given as goal

abbrev pub invariant-loop-number : goal.invariant-loop-number
invariant-loop-number g l =
    ((bundles : List Meaning) → AreAlike (meanings l.localiser) bundles
    → WroteTo g.O.Sink.took (IsLine l.tables bundles (root_of l.localiser))
    (IsLineFault l.tables bundles (root_of l.localiser)) l.requests l.initial.out
    l.number l.out)
    × AreKnownTags l.tables l.requests l.tags.places.items
