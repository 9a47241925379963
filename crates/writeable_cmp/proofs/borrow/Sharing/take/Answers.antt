-- A piece joins the front that was found, or the text that was copied.
use Rattle.std.proofs.Common.{◌≡◌, ◌++◌, refl, ap, sym, ◌∙◌, take, chars, string_bytes, rules}
use Rattle.std.proofs.lemmas.Str.{chars-append, IsUtf8-from_is_utf8}
use Rattle.writeable_cmp.specs.Sharing.{sharing}
use Rattle.writeable_cmp.specs.SoFar.{text_so_far}
use Rattle.writeable_cmp.proofs.Sharing.{same_sharing}
use Rattle.writeable_core.specs.TextLaws.{pushed_str, is_utf8-append}
use Rattle.writeable_cmp.proofs.borrow.Sharing.take.Goals as goal

pub invariant_of-self-then-goes_on : goal.invariant_of-self-then-goes_on
invariant_of-self-then-goes_on c =
    let shared = rw c.in-Shared.is at c.self.invariant in (
      c.if-goes_on.ensures.in_range refl,
      is_utf8-append (take c.in-Shared.count c.self.inside.reference.now) c.args.piece.now _
          shared.1 c.utf8.piece (c.if-goes_on.ensures.found refl),
    )

pub returns-in_ok-map_err-in-Copied-clause-ok : goal.returns-in_ok-map_err-in-Copied-clause-ok
returns-in_ok-map_err-in-Copied-clause-ok c =
    let bytes : string_bytes c.push_str.new.self ≡ string_bytes c.in-Copied.text
    ++ c.args.piece.now = search rules in
    let seen = ap (text_so_far c.self.inside.reference.now) (sym c.in-Copied.is)
    ∙ ap (λ s. s.text) c.self.view_is in
    same_sharing
    (pushed_str c.in-Copied.text c.push_str.new.self c.args.piece.now bytes
    ∙ ap (λ t. t ++ chars c.args.piece.now) seen)
    (ap (λ s. s.reference) c.self.view_is)

pub returns-in-Shared-clause-ok : goal.returns-in-Shared-clause-ok
returns-in-Shared-clause-ok c =
    let front = take c.in-Shared.count c.self.inside.reference.now in
    let shared = rw c.in-Shared.is at c.self.invariant in
    let seen = ap (text_so_far c.self.inside.reference.now) (sym c.in-Shared.is)
    ∙ ap (λ s. s.text) c.self.view_is in
    same_sharing
    (ap chars (c.if-goes_on.ensures.found refl)
    ∙ chars-append front c.args.piece.now (IsUtf8-from_is_utf8 front shared.1)
    ∙ ap (λ t. t ++ chars c.args.piece.now) seen)
    (ap (λ s. s.reference) c.self.view_is)

pub returns-in_ok-text-in-Shared-2-clause-ok : goal.returns-in_ok-text-in-Shared-2-clause-ok
returns-in_ok-text-in-Shared-2-clause-ok c =
    let front = take c.in-Shared-2.count c.self.inside.reference.now in
    let shared = rw c.in-Shared-2.is at c.self.invariant in
    let text : string_bytes c.in_ok-text-in-Shared-2.text ≡ front ++ c.args.piece.now =
    search rules in
    let seen = ap (text_so_far c.self.inside.reference.now) (sym c.in-Shared-2.is)
    ∙ ap (λ s. s.text) c.self.view_is in
    let copied = same_sharing
    (ap chars text ∙ chars-append front c.args.piece.now (IsUtf8-from_is_utf8 front shared.1)
    ∙ ap (λ t. t ++ chars c.args.piece.now) seen)
    (ap (λ s. s.reference) c.self.view_is) in
    let is : c.match-self-2.self
    ≡ sharing (chars (string_bytes c.in_ok-text-in-Shared-2.text)) c.self.inside.reference.now =
    search rules in
    is ∙ copied
