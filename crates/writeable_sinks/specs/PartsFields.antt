-- The fields of a `PartsSink`, as a contract sees them. Parts are opened at the end of a list.
use Rattle.std.specs.Prelude.{map, chars, string_bytes, reverse}
use Rattle.writeable_core.specs.Marks.{part_name}
use Rattle.writeable_sinks.specs.PartsSink.{Parts, Begun}
use Rattle.writeable_sinks.specs.Spans.{span_of}
use Rattle.writeable_sinks.specs.declared.parts_sink.Opened.{Opened}
use Rattle.writeable_sinks.specs.declared.parts_sink.PartsSink.TheInside.{Inside}

abbrev pub begun_of : Opened → Begun
begun_of opened = record { start = opened.start; part = part_name opened.part }

abbrev pub parts_of : Inside → Parts
parts_of sink = record {
  text = chars (string_bytes sink.text);
  begun = reverse (map begun_of sink.opened.items);
  spans = map span_of sink.spans.items;
}
