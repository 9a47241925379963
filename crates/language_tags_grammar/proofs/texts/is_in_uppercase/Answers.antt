use Rattle.language_tags_grammar.proofs.TextLaws.{in_uppercase}
use Rattle.language_tags_grammar.proofs.texts.is_in_uppercase.Goals as goal

pub returns : goal.returns
returns c = in_uppercase c.args.text.now c.has_no_smalls.result c.has_no_smalls.ensures
