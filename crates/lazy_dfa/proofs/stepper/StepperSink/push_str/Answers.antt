use Rattle.std.proofs.Common.{◌++◌, ◌+◌, ◌∷◌, [], chars, drop, length, map-id, sym, subst, ◌∙◌}
use Rattle.std.proofs.lemmas.Bool.{true≢false}
use Rattle.std.proofs.lemmas.Iterator.{YieldsList-from_chars}
use Rattle.std.proofs.lemmas.Iterator.Consumers.{YieldsList-so_far, YieldsList-turn, YieldsList-end}
use Rattle.std.proofs.lemmas.Result.{err_from_is_err_and}
use Rattle.writeable_core.specs.SinkLaws.{on_err}
use Rattle.lazy_dfa.specs.Stepping.{Took, NoneDecides}
use Rattle.lazy_dfa.proofs.Pushing.{passed_nothing, passed_more, took_more, shortest_more}
use Rattle.lazy_dfa.proofs.Pushing.{none_in_nothing, at_turn}
use Rattle.lazy_dfa.proofs.stepper.StepperSink.push_str.Goals as goal

pub refuse-requires : goal.refuse-requires
refuse-requires c = λ e u f h. (c.is_decided.ensures e u f h).0 c.if-is_decided.true

pub returns-then-is_decided-clause-decides : goal.returns-then-is_decided-clause-decides
returns-then-is_decided-clause-decides c =
    λ e u f h. none_in_nothing e u c.args.self.now c.refuse.new.self (chars c.args.piece.now)
    c.refuse.ensures.took ((c.is_decided.ensures e u f h).0 c.if-is_decided.true)

pub loop-c-init : goal.loop-c-init
loop-c-init c =
    passed_nothing c.args.self.now
    (λ e u f h d. true≢false (sym ((c.is_decided.ensures e u f h).1 d) ∙ c.if-is_decided.false))

pub advance-requires : goal.advance-requires
advance-requires c = c.loop-c.invariant.here

pub loop-c-preserved : goal.loop-c-preserved
loop-c-preserved c =
    passed_more c.args.self.now c.loop-c.yielded c.loop-c.self c.advance.new.self c.in-Some.c
    c.loop-c.invariant c.in_ok-advance.ensures.took
    c.in_ok-advance.ensures.undecided c.in_ok-advance.ensures.kept c.in_ok-advance.ensures.decides

pub returns-in_err-advance-clause-err : goal.returns-in_err-advance-clause-err
returns-in_err-advance-clause-err c =
    let road = YieldsList-from_chars c.args.piece.now c.utf8.piece cc in
    let far = YieldsList-so_far road c.loop-c.yielded _ c.loop-c.yielded_by in
    let turn =
    YieldsList-turn road c.loop-c.yielded _ c.loop-c.yielded_by _ _ c.in-Some.c c.in-Some.is
    c.next.ensures.steps in
    on_err c.from_residual.result record {
      front = c.loop-c.yielded ++ c.in-Some.c ∷ [];
      rest = drop (length c.loop-c.yielded + 1) (chars c.args.piece.now);
      parts = at_turn (chars c.args.piece.now) c.loop-c.yielded c.in-Some.c
          (sym (map-id c.loop-c.yielded) ∙ far) turn.0 turn.1;
      taken = took_more c.args.self.now c.loop-c.yielded c.loop-c.self c.advance.new.self
          c.in-Some.c c.loop-c.invariant c.in_err-advance.ensures.took;
    }

pub returns-in_err-advance-clause-decides : goal.returns-in_err-advance-clause-decides
returns-in_err-advance-clause-decides c = λ e u f h.
    let road = YieldsList-from_chars c.args.piece.now c.utf8.piece cc in
    let far = YieldsList-so_far road c.loop-c.yielded _ c.loop-c.yielded_by in
    let turn =
    YieldsList-turn road c.loop-c.yielded _ c.loop-c.yielded_by _ _ c.in-Some.c c.in-Some.is
    c.next.ensures.steps in
    let p = err_from_is_err_and c.from_residual.result c.from_residual.ensures.1 in
    rw (p.1)
    (shortest_more c.args.self.now c.loop-c.yielded c.loop-c.self c.advance.new.self c.in-Some.c
    c.loop-c.invariant c.in_err-advance.ensures.took (chars c.args.piece.now)
    (drop (length c.loop-c.yielded + 1) (chars c.args.piece.now))
    (at_turn (chars c.args.piece.now) c.loop-c.yielded c.in-Some.c (sym (map-id c.loop-c.yielded)
    ∙ far) turn.0 turn.1) c.in_err-advance.ensures.decides e u f h)

pub returns-clause-ok : goal.returns-clause-ok
returns-clause-ok c =
    let done =
    YieldsList-end (YieldsList-from_chars c.args.piece.now c.utf8.piece cc) c.loop-c.yielded _
    c.loop-c.yielded_by _ _ c.in-None.is c.next.ensures.steps in
    subst (λ t. Took c.args.self.now t c.loop-c.self) (sym (map-id c.loop-c.yielded) ∙ done.0)
    c.loop-c.invariant.took

pub returns-clause-decides : goal.returns-clause-decides
returns-clause-decides c = λ e u f h.
    let done =
    YieldsList-end (YieldsList-from_chars c.args.piece.now c.utf8.piece cc) c.loop-c.yielded _
    c.loop-c.yielded_by _ _ c.in-None.is c.next.ensures.steps in
    subst (λ t. NoneDecides e u t) (sym (map-id c.loop-c.yielded) ∙ done.0)
    (c.loop-c.invariant.undecided e u f h)
