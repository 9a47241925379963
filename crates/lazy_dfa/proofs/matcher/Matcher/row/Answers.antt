use Rattle.std.proofs.Common.{sym, ◌∙◌}
use Rattle.std.proofs.lemmas.Grind.{get_or_default_zero}
use Rattle.lazy_dfa.specs.States.{machine}
use Rattle.lazy_dfa.proofs.States.{row_fails, row_goes_on}
use Rattle.lazy_dfa.proofs.matcher.Matcher.row.Goals as goal

pub returns-in_default : goal.returns-in_default
returns-in_default c =
    row_fails (machine c.args.self.now) c.loop-first.sets.items c.args.reached c.first-item.result
    c.step-set.result c.in_ok-number.field-0 c.number_of.new.sets.items
    c.loop-first.invariant.0 c.requires.reachable c.step-set.ensures.character
    c.step-set.ensures.step c.in_ok-number.ensures c.in_default.not-Some

pub loop-first-preserved : goal.loop-first-preserved
loop-first-preserved c = rw (c.in_ok-push.ensures.items) (
    row_goes_on (machine c.args.self.now) c.args.firsts.now c.args.sets.now.items
    c.loop-first.sets.items c.args.reached c.loop-first.first-index c.first-item.result
    c.step-set.result
    c.in-Some.number c.loop-first.row.items c.number_of.new.sets.items c.loop-first.invariant
    c.requires.reachable c.step-set.ensures.character
    (sym (c.first-item.is ∙ get_or_default_zero c.args.firsts.now c.loop-first.first-index
    c.first-item.result c.loop-first-test.true)) c.step-set.ensures.step
    (rw c.in-Some.is at c.in_ok-number.ensures))
