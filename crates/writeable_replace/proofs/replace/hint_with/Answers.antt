-- A needle has as many bytes as its characters.
use Rattle.std.proofs.Common.{ap, sym, ◌∙◌}
use Rattle.writeable_core.specs.TextLaws.{byte_length-chars}
use Rattle.writeable_replace.specs.ReplacedHint.{hint_rule}
use Rattle.writeable_replace.proofs.replace.hint_with.Goals as goal

pub returns : goal.returns
returns c =
    c.replaced_hint.ensures
    ∙ ap (λ n. hint_rule c.args.source n c.args.replacement)
    (sym (byte_length-chars c.args.needle.now c.utf8.needle))
