-- A number's text is ASCII, so its bytes are its characters.
use Rattle.std.proofs.Common.{◌∙◌}
use Rattle.std.proofs.lemmas.Str.{chars-IsAscii}
use Rattle.writeable_core.proofs.impls.numbers.decimal_text.Goals as goal

pub returns : goal.returns
returns g c = chars-IsAscii c.format.result.now c.format.ensures.ascii ∙ c.format.ensures.text
