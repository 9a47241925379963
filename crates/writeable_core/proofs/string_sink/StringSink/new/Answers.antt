-- A string without bytes has no characters.
use Rattle.writeable_core.specs.TextLaws.{chars-none}
use Rattle.writeable_core.proofs.string_sink.StringSink.new.Goals as goal

pub returns : goal.returns
returns c = chars-none _ c.new.ensures.bytes
