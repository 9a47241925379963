-- What the writer took in this turn joins what it took before.
use Rattle.std.proofs.Common.{sym, ap, ◌∙◌, take, drop, length-drop}
use Rattle.std.proofs.Math.Seq.{take-length}
use Rattle.writeable_sinks.specs.StdSinkLaws.{WrittenTo-more}
use Rattle.writeable_sinks.proofs.standard.write_whole.Goals as goal

pub loop-rest-preserved : goal.loop-rest-preserved
loop-rest-preserved g c =
    let rest = c.loop-rest.rest.now in
    let left = drop c.in-Ok.count rest in
    WrittenTo-more _ _ _ _ rest _ c.in-Ok.count
    (ap (λ k. take k left) (sym (length-drop c.in-Ok.count rest)) ∙ take-length left)
    c.loop-rest.invariant c.in-Ok.ensures.bytes
