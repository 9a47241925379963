use Rattle.std.proofs.Common.{◌∙◌}
use Rattle.gettext.proofs.Encodings.{is_ok-from_utf8}
use Rattle.gettext.proofs.encoding.Encoding.is_valid.Goals as goal

pub returns-in-Utf8 : goal.returns-in-Utf8
returns-in-Utf8 c =
    rw c.in-Utf8.is
    (c.is_ok.ensures.value ∙ is_ok-from_utf8 _ c.from_utf8.result _ _ c.from_utf8.ensures.cases)
