-- The first locale, and one locale more, or a front of either.
use Rattle.std.proofs.Common.{ap, ◌∙◌}
use Rattle.writeable_core.specs.SinkLaws.{on_err}
use Rattle.fallback_chain.proofs.ChainText.{taken_first, front_first, taken_next, front_next}
use Rattle.fallback_chain.proofs.writing.write_chain.Goals as goal

pub returns-in_err-write_to-clause-err : goal.returns-in_err-write_to-clause-err
returns-in_err-write_to-clause-err g c =
    on_err c.from_residual.result
    (front_first g.S.Sink.took c.args.fallbacker.now c.args.locale c.args.sink.now
    c.write_to.new.sink
    c.get.result.now c.args.steps
    (c.get.ensures ∙ ap (λ w. w.reached.locale) c.walk_from-walk.ensures)
    c.in_err-write_to.ensures.err)

pub loop-step-init : goal.loop-step-init
loop-step-init g c = record {
  here = c.walk_from-walk.ensures;
  taken =
      taken_first g.S.Sink.took c.args.fallbacker.now c.args.locale c.args.sink.now
      c.write_to.new.sink
      c.get.result.now (c.get.ensures ∙ ap (λ w. w.reached.locale) c.walk_from-walk.ensures)
      c.in_ok-write_to.ensures.ok;
}

pub returns-in_err-write_behind_space-clause-err : goal.returns-in_err-write_behind_space-clause-err
returns-in_err-write_behind_space-clause-err g c =
    let here =
    c.advance.ensures c.args.fallbacker.now c.args.locale c.loop-step._step
    c.loop-step.invariant.here in
    on_err c.from_residual-in_err-write_behind_space.result
    (front_next g.S.Sink.took c.args.fallbacker.now c.args.locale g.met.S.Sink.took_both
    c.args.sink.now c.loop-step.sink c.write_behind_space.new.sink
    c.get-in-loop-step.result.now c.loop-step._step c.args.steps
    (c.get-in-loop-step.ensures ∙ ap (λ w. w.reached.locale) here) c.loop-step-test.true
    c.loop-step.invariant.taken c.in_err-write_behind_space.ensures.err)

pub loop-step-preserved : goal.loop-step-preserved
loop-step-preserved g c =
    let here =
    c.advance.ensures c.args.fallbacker.now c.args.locale c.loop-step._step
    c.loop-step.invariant.here in
    record {
      here = here;
      taken =
          taken_next g.S.Sink.took c.args.fallbacker.now c.args.locale g.met.S.Sink.took_both
          c.args.sink.now c.loop-step.sink c.write_behind_space.new.sink
          c.get-in-loop-step.result.now c.loop-step._step
          (c.get-in-loop-step.ensures ∙ ap (λ w. w.reached.locale) here)
          c.loop-step.invariant.taken c.in_ok-write_behind_space.ensures.ok;
    }
