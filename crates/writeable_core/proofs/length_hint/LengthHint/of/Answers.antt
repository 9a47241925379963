-- A text's characters have its bytes.
use Rattle.std.proofs.Common.{ap, sym, ◌∙◌, length}
use Rattle.std.proofs.lemmas.Str.{encodes-chars}
use Rattle.writeable_core.specs.Hint.{exact}
use Rattle.writeable_core.proofs.length_hint.LengthHint.of.Goals as goal

pub returns : goal.returns
returns c = c.exact.ensures
    ∙ ap (λ bytes. exact (length bytes)) (sym (encodes-chars c.args.text.now c.utf8.text))
