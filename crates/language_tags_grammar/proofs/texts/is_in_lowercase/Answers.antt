use Rattle.language_tags_grammar.proofs.TextLaws.{in_lowercase}
use Rattle.language_tags_grammar.proofs.texts.is_in_lowercase.Goals as goal

pub returns : goal.returns
returns c = in_lowercase c.args.text.now c.has_no_capitals.result c.has_no_capitals.ensures
