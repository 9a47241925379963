use Rattle.std.proofs.Common.{sym, refl, ◌∙◌}
use Rattle.language_tags_grammar.specs.Pieces.{lowercase}
use Rattle.language_tags_grammar.proofs.TextLaws.{is_grandfathered_text, no_grandfathered}
use Rattle.language_tags_grammar.proofs.TextLaws.{text_of_result, text_of_scan}
use Rattle.language_tags_grammar.proofs.texts.is_tag.Goals as goal

pub returns-then-is_some : goal.returns-then-is_some
returns-then-is_some c = (
  λ yes. is_grandfathered_text c.args.text.now c.grandfathered.result c.grandfathered.ensures
      (sym c.is_some.ensures ∙ c.if-is_some.true),
  λ is. refl,
)

pub returns-in-Some : goal.returns-in-Some
returns-in-Some c =
    text_of_result c.args.text.now (lowercase c.in-Some.rest.now) c.check.result c.is_ok.result
    (no_grandfathered c.args.text.now c.grandfathered.result c.grandfathered.ensures
    (sym c.is_some.ensures ∙ c.if-is_some.false))
    c.in-Some.ensures c.check.ensures c.is_ok.ensures.value

pub returns-in-None : goal.returns-in-None
returns-in-None c =
    text_of_scan c.args.text.now c.scan.result c.is_ok-in-None.result
    (no_grandfathered c.args.text.now c.grandfathered.result c.grandfathered.ensures
    (sym c.is_some.ensures ∙ c.if-is_some.false))
    c.in-None.ensures c.scan.ensures c.is_ok-in-None.ensures.value
