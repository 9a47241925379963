-- The bytes that are held stay a text, and have room where the text has.
use Rattle.std.proofs.Common.{ap, ◌∙◌, arith, ◌++◌, chars, refl}
use Rattle.std.proofs.lemmas.Str.{IsUtf8-from_is_utf8, IsUtf8-encode, chars-append}
use Rattle.writeable_core.specs.Hint.{byte_length}
use Rattle.writeable_core.specs.TextLaws.{byte_length-chars, byte_length-char, chars-encode}
use Rattle.writeable_core.specs.TextLaws.{is_utf8-append}
use Rattle.writeable_sinks.proofs.fixed_sink.FixedSinkSink.push_char.Goals as goal
use lib.Utf8.{encode}

pub invariant_of-self : goal.invariant_of-self
invariant_of-self g c =
    is_utf8-append _ _ _ c.self.invariant (IsUtf8-encode c.args.c c.ranges.c.0) c.in-Ok.ensures.ok

pub returns-in-Ok-clause-ok : goal.returns-in-Ok-clause-ok
returns-in-Ok-clause-ok g c = record {
  text = ap chars c.in-Ok.ensures.ok
      ∙ chars-append c.self.inside.text.bytes (encode c.args.c)
      (IsUtf8-from_is_utf8 _ c.self.invariant)
      ∙ ap (λ s. s.text ++ chars (encode c.args.c)) c.self.view_is
      ∙ ap (λ cs. c.args.self.now.text ++ cs) (chars-encode c.args.c c.ranges.c.0);
  later = let same = ap (λ s. s.faults) c.self.view_is in omega arith;
}

pub returns-in-Ok-clause-fits : goal.returns-in-Ok-clause-fits
returns-in-Ok-clause-fits g c =
    let held =
    byte_length-chars c.self.inside.text.bytes (IsUtf8-from_is_utf8 _ c.self.invariant) in
    let seen = ap (λ s. byte_length s.text) c.self.view_is in
    let piece = byte_length-char c.args.c in
    let room = c.in-Ok.ensures.variant.0 refl in
    (λ _. omega arith, λ _. refl)

pub returns-in-Err-clause-fits : goal.returns-in-Err-clause-fits
returns-in-Err-clause-fits g c =
    let held =
    byte_length-chars c.self.inside.text.bytes (IsUtf8-from_is_utf8 _ c.self.invariant) in
    let seen = ap (λ s. byte_length s.text) c.self.view_is in
    let piece = byte_length-char c.args.c in
    (λ p. absurd (cc), λ fits. c.in-Err.ensures.variant.1 (omega arith))
