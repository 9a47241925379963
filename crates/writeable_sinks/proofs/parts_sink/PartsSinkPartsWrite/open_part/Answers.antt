-- The text has as many bytes as its characters are encoded in.
use Rattle.std.proofs.Common.{◌≡◌, ◌++◌, [], ◌∷◌, ap, sym, refl, ◌∙◌, length, map, reverse}
use Rattle.std.proofs.Common.{string_bytes, chars, rules, Some}
use Rattle.std.proofs.lemmas.Str.{IsUtf8-string_bytes}
use Rattle.writeable_core.specs.Hint.{byte_length}
use Rattle.writeable_core.specs.Marks.{part_name}
use Rattle.writeable_sinks.specs.PartsFields.{begun_of}
use Rattle.writeable_sinks.specs.PartsSink.{with_part}
use Rattle.writeable_core.specs.TextLaws.{byte_length-chars}
use Rattle.writeable_sinks.proofs.Opened.{begun-snoc, same_parts}
use Rattle.writeable_sinks.proofs.parts_sink.PartsSinkPartsWrite.open_part.Goals as goal

pub returns-clause-ok : goal.returns-clause-ok
returns-clause-ok c =
    let bytes =
    byte_length-chars (string_bytes c.self.inside.text)
    (IsUtf8-string_bytes c.self.inside.text) in
    let begins = ap length c.as_str-start.ensures.value in
    let items : c.push.new.self.items ≡ c.self.inside.opened.items
    ++ record { start = length c.as_str-start.result.now; part = c.args.part } ∷ [] =
    search rules in
    let snoc =
    begun-snoc c.self.inside.opened.items
    record { start = length c.as_str-start.result.now; part = c.args.part }
    (byte_length (chars (string_bytes c.self.inside.text))) (begins ∙ sym bytes) in
    sym
    (ap Some (same_parts refl (ap (λ l. reverse (map begun_of l)) items ∙ snoc) refl
    ∙ ap (λ s. with_part s (part_name c.args.part)) c.self.view_is))
