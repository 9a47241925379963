-- The writer took what stands in front of the rest, which shrinks.
use Rattle.std.proofs.Common.{length}
use Rattle.writeable_sinks.specs.StdSink.{WrittenTo}
use Rattle.writeable_sinks.proofs.standard.write_whole.Given as goal

abbrev pub invariant-loop-rest : goal.invariant-loop-rest
invariant-loop-rest g l =
    WrittenTo (g.W.Write.contents l.initial.writer) l.bytes l.rest (g.W.Write.contents l.writer)

abbrev pub decreases-loop-rest : goal.decreases-loop-rest
decreases-loop-rest g l = length l.rest
