-- A string without bytes has no characters.
use Rattle.writeable_core.specs.TextLaws.{chars-none}
use Rattle.writeable_core.proofs.string_sink.StringSink.with_capacity.Goals as goal

pub returns : goal.returns
returns c = chars-none _ c.in_ok-with_capacity.ensures.bytes
