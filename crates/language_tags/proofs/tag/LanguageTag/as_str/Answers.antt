use Rattle.std.proofs.Common.{string_bytes}
use Rattle.std.proofs.lemmas.Str.{chars-IsAscii}
use Rattle.language_tags.proofs.KeptUse.{kept-text}
use Rattle.language_tags.proofs.tag.LanguageTag.as_str.Goals as goal

pub returns-clause-characters : goal.returns-clause-characters
returns-clause-characters c =
    chars-IsAscii c.as_str.result.now
    (kept-text c.self.inside.ends
    (string_bytes c.self.inside.text) c.as_str.result.now c.self.invariant
    c.as_str.ensures.value)
