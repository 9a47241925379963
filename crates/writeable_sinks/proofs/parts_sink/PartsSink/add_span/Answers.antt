-- The text has as many bytes as its characters are encoded in.
use Rattle.std.proofs.Common.{◌≡◌, ◌<◌, ◌++◌, [], ◌∷◌, ap, sym, ◌∙◌, length, string_bytes, chars}
use Rattle.std.proofs.Common.{rules, arith, map}
use Rattle.std.proofs.lemmas.Str.{IsUtf8-string_bytes}
use Rattle.writeable_core.specs.Hint.{byte_length}
use Rattle.writeable_sinks.specs.PartsFields.{begun_of}
use Rattle.writeable_sinks.specs.PartsSink.{with_span}
use Rattle.writeable_sinks.specs.Spans.{span_of}
use Rattle.writeable_core.specs.TextLaws.{byte_length-chars}
use Rattle.writeable_sinks.proofs.Opened.{with_span-none, with_span-some, spans-snoc}
use Rattle.writeable_sinks.proofs.parts_sink.PartsSink.add_span.Goals as goal

pub returns-then-part-end-clause-ok : goal.returns-then-part-end-clause-ok
returns-then-part-end-clause-ok c =
    let bytes =
    byte_length-chars (string_bytes c.self.inside.text)
    (IsUtf8-string_bytes c.self.inside.text) in
    let ends = ap length c.as_str-end.ensures.value in
    let seen = ap (λ s. byte_length s.text) c.self.view_is in
    with_span-none c.args.self.now (begun_of c.args.part) (omega arith)

pub returns-clause-ok : goal.returns-clause-ok
returns-clause-ok c =
    let bytes =
    byte_length-chars (string_bytes c.self.inside.text)
    (IsUtf8-string_bytes c.self.inside.text) in
    let ends = ap length c.as_str-end.ensures.value in
    let some : c.args.part.start < byte_length (chars (string_bytes c.self.inside.text)) =
    omega arith in
    let items : c.push.new.self.items ≡ c.self.inside.spans.items
    ++ record {
      start = c.args.part.start;
      end = length c.as_str-end.result.now;
      part = c.args.part.part;
    } ∷ [] = search rules in
    let snoc =
    spans-snoc c.self.inside.spans.items
    record {
      start = c.args.part.start;
      end = length c.as_str-end.result.now;
      part = c.args.part.part;
    } (byte_length (chars (string_bytes c.self.inside.text)))
    (ends ∙ sym bytes) in
    with_span-some _ (begun_of c.args.part) _ some (ap (map span_of) items ∙ snoc)
    ∙ ap (λ s. with_span s (begun_of c.args.part)) c.self.view_is
