-- A text's characters have its bytes.
use Rattle.std.proofs.Common.{arith}
use Rattle.std.proofs.lemmas.Grind.{common_steps}
use Rattle.writeable_core.specs.TextLaws.{byte_length-chars}
use Rattle.writeable_sinks.proofs.count_sink.CountSinkSink.push_str.Goals as goal

pub returns-clause-ok : goal.returns-clause-ok
returns-clause-ok c =
    let bytes = byte_length-chars c.args.piece.now c.utf8.piece in
    grind (arith, common_steps)
