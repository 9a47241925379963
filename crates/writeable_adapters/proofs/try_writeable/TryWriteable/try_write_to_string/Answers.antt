-- A text whose length is at most 0 is empty.
use Rattle.std.proofs.Common.{◌≡◌, ap, sym, ◌∙◌, rules, chars, string_bytes}
use Rattle.writeable_core.specs.HintLaws.{no_characters_by_hint}
use Rattle.writeable_adapters.proofs.try_writeable.TryWriteable.try_write_to_string.Goals as goal

pub written-text-requires : goal.written-text-requires
written-text-requires g c = λ zero.
    let hinted = g.met.Self.TryWriteable.text_hinted c.args.self.now in
    let same : chars (string_bytes c.into_string.result)
    ≡ g.Self.TryWriteable.text c.args.self.now = search rules in
    same ∙ no_characters_by_hint _ _
    (sym (ap (λ h. h.1) c.writeable_length_hint-hint.ensures) ∙ zero) hinted
