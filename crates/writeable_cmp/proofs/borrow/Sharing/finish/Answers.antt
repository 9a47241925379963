-- The text was found at the front, or differs from it.
use Rattle.std.proofs.Common.{ap, sym, ◌∙◌, take, encode_utf8_all}
use Rattle.std.proofs.lemmas.Str.{encodes-chars, IsUtf8-from_is_utf8}
use Rattle.writeable_cmp.specs.SoFar.{text_so_far}
use Rattle.writeable_cmp.proofs.Sharing.{begins_same, found_begins}
use Rattle.writeable_core.specs.TextLaws.{encodes-chars_of}
use Rattle.writeable_cmp.proofs.borrow.Sharing.finish.Goals as goal

pub returns-in-Copied-clause-borrowed : goal.returns-in-Copied-clause-borrowed
returns-in-Copied-clause-borrowed c =
    let reference = c.self.inside.reference.now in
    let text = ap (λ s. encode_utf8_all s.text) (sym c.self.view_is)
    ∙ ap (λ s. encode_utf8_all (text_so_far reference s)) c.in-Copied.is
    ∙ encodes-chars_of c.in-Copied.text in
    let missing = rw c.in-Copied.is at c.self.invariant in (
      λ p. absurd p,
      λ begins. missing (begins_same (ap (λ s. s.reference) (sym c.self.view_is)) text begins),
    )

pub returns-in-Shared-clause-borrowed : goal.returns-in-Shared-clause-borrowed
returns-in-Shared-clause-borrowed c =
    let reference = c.self.inside.reference.now in
    let front = take c.in-Shared.count reference in
    let shared = rw c.in-Shared.is at c.self.invariant in
    let text = sym (encodes-chars front (IsUtf8-from_is_utf8 front shared.1))
    ∙ ap (λ s. encode_utf8_all (text_so_far reference s)) (sym c.in-Shared.is)
    ∙ ap (λ s. encode_utf8_all s.text) c.self.view_is in (
      λ _. begins_same (ap (λ s. s.reference) c.self.view_is) text
          (found_begins reference c.in-Shared.count shared.0),
      λ _. tt,
    )
