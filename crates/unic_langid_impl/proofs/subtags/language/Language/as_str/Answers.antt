use Rattle.std.proofs.Common.{sym, ap, ◌∙◌}
use Rattle.unic_langid_impl.specs.Subtags.{language_text}
use Rattle.unic_langid_impl.proofs.SubtagLemmas.{chars-und}
use Rattle.unic_langid_impl.proofs.subtags.language.Language.as_str.Goals as goal

pub returns-in-None-clause-characters : goal.returns-in-None-clause-characters
returns-in-None-clause-characters c =
    chars-und ∙ ap language_text (sym c.in-None.is ∙ c.self.view_is)
