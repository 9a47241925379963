-- A front of the text was taken.
use Rattle.std.proofs.Common.{length}
use Rattle.writeable_replace.specs.Along.{Along}
use Rattle.writeable_replace.proofs.matching.take.Given as goal

abbrev pub invariant-loop-c : goal.invariant-loop-c
invariant-loop-c g l =
    Along g.S.Sink.took l.needle
    (g.C.Writeable.text l.replacement) l.fn.matched l.initial.sink l.text l.rest
    l.matched l.sink

abbrev pub decreases-loop-c : goal.decreases-loop-c
decreases-loop-c g l = length l.rest
