use Rattle.std.proofs.Common.{None}
use Rattle.language_tags_grammar.specs.Lemmas.PieceLaws.{first_piece}
use Rattle.language_tags_grammar.specs.Lemmas.PrivateLaws.{no_dash_otherwise}
use Rattle.language_tags_grammar.proofs.private_use.behind_x.Goals as goal

pub returns-in-None : goal.returns-in-None
returns-in-None c =
    no_dash_otherwise c.args.text.now (first_piece c.args.text.now None c.in-None.ensures.cases)
