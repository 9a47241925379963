use Rattle.std.proofs.Common.{◌∙◌, Some, None}
use Rattle.language_tags_grammar.specs.Lemmas.FindLaws.{is_grandfathered_is}
use Rattle.language_tags_grammar.proofs.grandfathered.is_grandfathered.Goals as goal

pub returns-in-Some : goal.returns-in-Some
returns-in-Some c =
    c.eq.ensures ∙ is_grandfathered_is c.args.text.now (Some c.in-Some.tag.now) c.in-Some.ensures

pub returns-in-None : goal.returns-in-None
returns-in-None c = is_grandfathered_is c.args.text.now None c.in-None.ensures
