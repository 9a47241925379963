use Rattle.std.proofs.Common.{sym, ◌∙◌}
use Rattle.language_tags_grammar.specs.Lemmas.FindLaws.{found, other_text, passed, same_text}
use Rattle.language_tags_grammar.proofs.grandfathered.find_without_case.Goals as goal

pub returns-then-eq_ignore_ascii_case : goal.returns-then-eq_ignore_ascii_case
returns-then-eq_ignore_ascii_case c =
    sym (sym c.loop-tag.invariant
    ∙ found _ c.args.tags.now c.loop-tag.tag-index _ c.loop-tag-test.true
    (same_text _ _ _ c.eq_ignore_ascii_case.ensures.test c.if-eq_ignore_ascii_case.true))

pub loop-tag-preserved : goal.loop-tag-preserved
loop-tag-preserved c =
    sym
    (passed _ c.args.tags.now c.loop-tag.tag-index _ c.loop-tag-test.true
    (other_text _ _ _ c.eq_ignore_ascii_case.ensures.test c.if-eq_ignore_ascii_case.false))
    ∙ c.loop-tag.invariant
