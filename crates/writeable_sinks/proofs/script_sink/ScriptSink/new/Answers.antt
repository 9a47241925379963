-- A string without bytes has no characters.
use Rattle.writeable_core.specs.TextLaws.{chars-none}
use Rattle.writeable_sinks.proofs.script_sink.ScriptSink.new.Goals as goal

pub returns : goal.returns
returns c = cc (chars-none _ c.new.ensures.bytes)
