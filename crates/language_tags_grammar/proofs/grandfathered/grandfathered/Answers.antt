use Rattle.std.proofs.Common.{sym, ap, ◌∙◌}
use Rattle.language_tags_grammar.specs.Grandfathered.{may_be_grandfathered}
use Rattle.language_tags_grammar.specs.Pieces.{lowercase}
use Rattle.language_tags_grammar.specs.Lemmas.FindLaws.{not_grandfathered}
use Rattle.language_tags_grammar.proofs.grandfathered.grandfathered.Goals as goal

pub returns-else-may_be_grandfathered : goal.returns-else-may_be_grandfathered
returns-else-may_be_grandfathered c =
    sym (not_grandfathered c.args.text.now
    (ap (λ t. may_be_grandfathered (lowercase t)) (sym c.as_bytes.ensures.value)
    ∙ sym c.may_be_grandfathered.ensures ∙ c.if-may_be_grandfathered.false))
