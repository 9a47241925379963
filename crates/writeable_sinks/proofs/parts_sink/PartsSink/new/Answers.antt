-- A string without bytes has no characters.
use Rattle.std.proofs.Common.{ap, map, reverse}
use Rattle.writeable_sinks.specs.PartsFields.{begun_of}
use Rattle.writeable_sinks.specs.Spans.{span_of}
use Rattle.writeable_sinks.proofs.Opened.{same_parts}
use Rattle.writeable_core.specs.TextLaws.{chars-none}
use Rattle.writeable_sinks.proofs.parts_sink.PartsSink.new.Goals as goal

pub returns : goal.returns
returns c =
    same_parts (chars-none _ c.new.ensures.bytes)
    (ap (λ l. reverse (map begun_of l)) c.new-2.ensures.items)
    (ap (map span_of) c.new-3.ensures.items)
