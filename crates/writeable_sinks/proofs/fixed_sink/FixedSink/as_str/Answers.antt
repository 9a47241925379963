-- The text's bytes are those that are held.
use Rattle.std.proofs.Common.{ap, arith, length}
use Rattle.std.proofs.lemmas.Str.{IsUtf8-from_is_utf8}
use Rattle.writeable_core.specs.Hint.{byte_length}
use Rattle.writeable_core.specs.TextLaws.{byte_length-chars}
use Rattle.writeable_sinks.proofs.fixed_sink.FixedSink.as_str.Goals as goal

pub returns-clause-fits : goal.returns-clause-fits
returns-clause-fits g c =
    let held =
    byte_length-chars c.self.inside.text.bytes (IsUtf8-from_is_utf8 _ c.self.invariant) in
    let seen = ap (λ s. byte_length s.text) c.self.view_is in
    let same = ap length c.as_str.ensures.value in
    omega (arith, c.as_str.ensures.fits)
