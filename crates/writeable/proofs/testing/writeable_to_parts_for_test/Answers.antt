-- The sink had taken nothing, and then took the value's marked text.
use Rattle.std.proofs.Common.{◌∙◌, rules}
use Rattle.writeable_sinks.specs.PartsSink.{TookMarks}
use Rattle.writeable_sinks.specs.SpansLaws.{holds_taken}
use Rattle.writeable.proofs.testing.writeable_to_parts_for_test.Goals as goal

pub returns-clause-text : goal.returns-clause-text
returns-clause-text g c =
    let value = c.args.writeable.now in
    let took : TookMarks c.new-sink.result (g.W.Writeable.marked value) c.write_to_parts.new.sink =
    search rules in
    (holds_taken _ _ _ (g.met.W.Writeable.marked_nests value) c.new-sink.ensures took).text
    ∙ g.met.W.Writeable.marked_text value

pub returns-clause-spans : goal.returns-clause-spans
returns-clause-spans g c =
    let value = c.args.writeable.now in
    let took : TookMarks c.new-sink.result (g.W.Writeable.marked value) c.write_to_parts.new.sink =
    search rules in
    (holds_taken _ _ _ (g.met.W.Writeable.marked_nests value) c.new-sink.ensures took).spans

pub returns-clause-closed : goal.returns-clause-closed
returns-clause-closed g c =
    let value = c.args.writeable.now in
    let took : TookMarks c.new-sink.result (g.W.Writeable.marked value) c.write_to_parts.new.sink =
    search rules in
    (holds_taken _ _ _ (g.met.W.Writeable.marked_nests value) c.new-sink.ensures took).closed
