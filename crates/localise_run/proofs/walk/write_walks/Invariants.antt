-- The lines so far were taken, and the known tags are those of requests.
use Rattle.localise_run.proofs.Written.{WroteTo}
use Rattle.localise_run.specs.Known.{AreKnownTags}
use Rattle.localise_run.specs.Walking.{IsWalkFault, IsWalkLine}
use Rattle.localise_run.proofs.walk.write_walks.Given as goal

abbrev pub invariant-loop-number : goal.invariant-loop-number
invariant-loop-number g l =
    WroteTo g.O.Sink.took (IsWalkLine l.tables)
    (IsWalkFault l.tables) l.requests l.initial.out l.number l.out
    × AreKnownTags l.tables l.requests l.tags.places.items
