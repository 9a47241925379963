use Rattle.std.proofs.Common.{◌++◌, ◌∷◌, [], sym, ◌∙◌}
use Rattle.std.proofs.lemmas.Bool.{true≢false}
use Rattle.lazy_dfa.specs.SteppingLaws.{Took-both}
use Rattle.lazy_dfa.specs.States.{machine}
use Rattle.lazy_dfa.proofs.Pushing.{advanced_to, for_seen}
use Rattle.lazy_dfa.proofs.stepper.Stepper.advance.Goals as goal

pub returns-then-is_decided-clause-took : goal.returns-then-is_decided-clause-took
returns-then-is_decided-clause-took c =
    let step =
    advanced_to c.args.self.now (machine c.self.inside.matcher.now) c.self.inside.place.reached
    c.self.inside.refusals c.args.c c.advance-self-inside.result.reached c.self.view_is
    c.requires c.advance-self-inside.ensures.step in
    Took-both c.args.self.now _ c.refuse.new.self (c.args.c ∷ []) [] step c.refuse.ensures.took

pub returns-then-is_decided-clause-decides : goal.returns-then-is_decided-clause-decides
returns-then-is_decided-clause-decides c = λ e u f h.
    let step =
    advanced_to c.args.self.now (machine c.self.inside.matcher.now) c.self.inside.place.reached
    c.self.inside.refusals c.args.c c.advance-self-inside.result.reached c.self.view_is
    c.requires c.advance-self-inside.ensures.step in
    let g = for_seen c.args.self.now (machine c.self.inside.matcher.now) c.self.inside.place.reached
    c.self.inside.refusals c.self.view_is e f in
    (c.is_decided.ensures e (u ++ c.args.c ∷ []) g (step.read e u f h)).0 c.if-is_decided.true

pub returns-clause-took : goal.returns-clause-took
returns-clause-took c =
    advanced_to c.args.self.now (machine c.self.inside.matcher.now) c.self.inside.place.reached
    c.self.inside.refusals c.args.c c.advance-self-inside.result.reached c.self.view_is c.requires
    c.advance-self-inside.ensures.step

pub returns-clause-decides : goal.returns-clause-decides
returns-clause-decides c = λ e u f h d.
    let step =
    advanced_to c.args.self.now (machine c.self.inside.matcher.now) c.self.inside.place.reached
    c.self.inside.refusals c.args.c c.advance-self-inside.result.reached c.self.view_is
    c.requires c.advance-self-inside.ensures.step in
    let g = for_seen c.args.self.now (machine c.self.inside.matcher.now) c.self.inside.place.reached
    c.self.inside.refusals c.self.view_is e f in
    true≢false (sym ((c.is_decided.ensures e (u ++ c.args.c ∷ []) g (step.read e u f h)).1 d)
    ∙ c.if-is_decided.false)

pub returns-clause-undecided : goal.returns-clause-undecided
returns-clause-undecided c =
    λ e u f h d. true≢false (sym ((c.is_decided.ensures e u f h).1 d) ∙ c.if-is_decided.false)

pub refuse-requires : goal.refuse-requires
refuse-requires c = λ e u f h. (c.is_decided.ensures e u f h).0 c.if-is_decided.true
