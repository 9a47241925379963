-- The bytes that are held stay a text, and have room where the text has.
use Rattle.std.proofs.Common.{ap, ◌∙◌, arith, ◌++◌, chars, refl}
use Rattle.std.proofs.lemmas.Str.{IsUtf8-from_is_utf8, chars-append}
use Rattle.writeable_core.specs.Hint.{byte_length}
use Rattle.writeable_core.specs.TextLaws.{byte_length-chars, is_utf8-append}
use Rattle.writeable_sinks.proofs.fixed_sink.FixedSinkSink.push_str.Goals as goal

pub invariant_of-self : goal.invariant_of-self
invariant_of-self g c = is_utf8-append _ _ _ c.self.invariant c.utf8.piece c.in-Ok.ensures.ok

pub returns-in-Ok-clause-ok : goal.returns-in-Ok-clause-ok
returns-in-Ok-clause-ok g c = record {
  text = ap chars c.in-Ok.ensures.ok
      ∙ chars-append c.self.inside.text.bytes c.args.piece.now
      (IsUtf8-from_is_utf8 _ c.self.invariant)
      ∙ ap (λ s. s.text ++ chars c.args.piece.now) c.self.view_is;
  later = let same = ap (λ s. s.faults) c.self.view_is in omega arith;
}

pub returns-in-Ok-clause-fits : goal.returns-in-Ok-clause-fits
returns-in-Ok-clause-fits g c =
    let held =
    byte_length-chars c.self.inside.text.bytes (IsUtf8-from_is_utf8 _ c.self.invariant) in
    let seen = ap (λ s. byte_length s.text) c.self.view_is in
    let piece = byte_length-chars c.args.piece.now c.utf8.piece in
    let room = c.in-Ok.ensures.variant.0 refl in
    (λ _. omega arith, λ _. refl)

pub returns-in-Err-clause-fits : goal.returns-in-Err-clause-fits
returns-in-Err-clause-fits g c =
    let held =
    byte_length-chars c.self.inside.text.bytes (IsUtf8-from_is_utf8 _ c.self.invariant) in
    let seen = ap (λ s. byte_length s.text) c.self.view_is in
    let piece = byte_length-chars c.args.piece.now c.utf8.piece in
    (λ p. absurd (cc), λ fits. c.in-Err.ensures.variant.1 (omega arith))
