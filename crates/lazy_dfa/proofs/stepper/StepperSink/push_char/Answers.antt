use Rattle.std.proofs.Common.{◌∷◌, [], sym, ◌∙◌}
use Rattle.std.proofs.lemmas.Bool.{true≢false}
use Rattle.lazy_dfa.proofs.Pushing.{none_in_nothing, character_decides}
use Rattle.lazy_dfa.proofs.stepper.StepperSink.push_char.Goals as goal

pub refuse-requires : goal.refuse-requires
refuse-requires c = λ e u f h. (c.is_decided.ensures e u f h).0 c.if-is_decided.true

pub returns-then-is_decided-clause-decides : goal.returns-then-is_decided-clause-decides
returns-then-is_decided-clause-decides c =
    λ e u f h. none_in_nothing e u c.args.self.now c.refuse.new.self (c.args.c ∷ [])
    c.refuse.ensures.took ((c.is_decided.ensures e u f h).0 c.if-is_decided.true)

pub advance-requires : goal.advance-requires
advance-requires c =
    λ e u f h d. true≢false (sym ((c.is_decided.ensures e u f h).1 d) ∙ c.if-is_decided.false)

pub returns-clause-decides : goal.returns-clause-decides
returns-clause-decides c = λ e u f h.
    character_decides e u c.args.c c.args.self.now c.advance.new.self c.advance.result
    (λ d. true≢false (sym ((c.is_decided.ensures e u f h).1 d) ∙ c.if-is_decided.false))
    c.advance.ensures.took (c.advance.ensures.decides e u f h)
