use Rattle.std.proofs.Common.{sym, ap, ◌∙◌}
use Rattle.std.proofs.lemmas.Str.{encodes-chars}
use lib.Utf8.{encodes}
use Rattle.language_tags_registry.proofs.kind.text_of.Goals as goal

pub returns : goal.returns
returns c = sym (encodes-chars _ c.as_str.utf8) ∙ ap encodes c.as_str.ensures
