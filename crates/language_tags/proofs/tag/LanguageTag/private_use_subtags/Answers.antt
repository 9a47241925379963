use Rattle.std.proofs.Common.{◌∙◌, string_bytes}
use Rattle.language_tags_grammar.specs.Tag.{private_of}
use Rattle.language_tags.proofs.KeptUse.{private-cut, private-rest}
use Rattle.language_tags.proofs.tag.LanguageTag.private_use_subtags.Goals as goal

pub returns-in-Some : goal.returns-in-Some
returns-in-Some c =
    c.new-in-Some.ensures
    ∙ private-rest
    (private_of c.args.self.now) c.in-Some.text.now c.strip_prefix.result
    c.in-Some.ensures.value
    (private-cut c.self.inside.ends
    (string_bytes c.self.inside.text) c.args.self.now c.self.invariant c.self.view_is)
    c.strip_prefix.ensures.cases
