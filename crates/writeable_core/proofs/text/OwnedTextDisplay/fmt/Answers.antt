-- The text's bytes are its characters, encoded.
use Rattle.std.proofs.Common.{sym, ap, ◌∙◌, subst, encode_utf8_all, List, ℕ}
use Rattle.std.specs.Fmt.{HasWritten}
use Rattle.writeable_core.specs.TextLaws.{encodes-chars_of}
use Rattle.writeable_core.proofs.text.OwnedTextDisplay.fmt.Goals as goal

pub returns-clause-writes : goal.returns-clause-writes
returns-clause-writes g c = λ plain ok.
    subst
    (λ (bytes : List ℕ).
    HasWritten g.W.Write.write_str_gives c.args.f.now bytes c.write_str.new.self)
    (c.as_str.ensures.value ∙ sym (encodes-chars_of c.self.inside.text)
    ∙ ap encode_utf8_all c.self.view_is)
    (c.write_str.ensures.writes plain ok)
