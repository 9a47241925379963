use Rattle.std.proofs.Common.{List, ℕ, ◌+◌, ◌++◌, map, drop, chars, refl, rules, subst}
use Rattle.writeable_core.specs.SinkLaws.{on_err}
use Rattle.icu_list.specs.Frames.{frame_of, left, whole}
use Rattle.icu_list.specs.Joined.{as_it_is}
use Rattle.icu_list.proofs.Going.{Going, going_on, stopped, ended, ended_front}
use Rattle.icu_list.proofs.Turns.{step_left, end_left, ok_map, err_map}
use Rattle.icu_list.proofs.formatted.write_joined.Goals as goal

pub returns-in_err-write_behind-2-clause-err : goal.returns-in_err-write_behind-2-clause-err
returns-in_err-write_behind-2-clause-err g c =
    on_err c.from_residual-in_err-write_behind-2.result
    (stopped g.S.Sink.took g.met.S.Sink.took_both c.args.sink.now c.loop-value.sink
    c.write_behind-in-loop-value.new.sink
    (whole as_it_is (frame_of c.args.joints.now) (g.W.Writeable.text c.args.first.now)
    (map g.W.Writeable.text c.args.inner.now) (g.W.Writeable.text c.args.last.now))
    (as_it_is (chars c.loop-value.between.now) ++ g.W.Writeable.text c.value-item.result)
    (left as_it_is (frame_of c.args.joints.now) (g.W.Writeable.text c.args.last.now)
    (chars c.args.joints.now.middle.now)
    (map g.W.Writeable.text (drop (c.loop-value.value-index + 1) c.args.inner.now)))
    (subst
    (λ (t : List ℕ). Going g.S.Sink.took c.args.sink.now c.loop-value.sink
    (whole as_it_is (frame_of c.args.joints.now) (g.W.Writeable.text c.args.first.now)
    (map g.W.Writeable.text c.args.inner.now) (g.W.Writeable.text c.args.last.now)) t)
    (step_left as_it_is (frame_of c.args.joints.now) (g.W.Writeable.text c.args.last.now)
    (chars c.loop-value.between.now) (λ ys. map g.W.Writeable.text ys)
    (λ w. g.W.Writeable.text w)
    (λ x ys. refl) c.args.inner.now c.loop-value.value-index c.value-item.result
    c.loop-value-test.true c.value-item.is) c.loop-value.invariant.1)
    c.in_err-write_behind-2.ensures.err)

pub loop-value-preserved : goal.loop-value-preserved
loop-value-preserved g c = (
  search rules,
  going_on g.S.Sink.took g.met.S.Sink.took_both c.args.sink.now c.loop-value.sink
      c.write_behind-in-loop-value.new.sink
      (whole as_it_is (frame_of c.args.joints.now) (g.W.Writeable.text c.args.first.now)
      (map g.W.Writeable.text c.args.inner.now) (g.W.Writeable.text c.args.last.now))
      (as_it_is (chars c.loop-value.between.now) ++ g.W.Writeable.text c.value-item.result)
      (left as_it_is (frame_of c.args.joints.now) (g.W.Writeable.text c.args.last.now)
      (chars c.args.joints.now.middle.now)
      (map g.W.Writeable.text (drop (c.loop-value.value-index + 1) c.args.inner.now)))
      (subst
      (λ (t : List ℕ). Going g.S.Sink.took c.args.sink.now c.loop-value.sink
      (whole as_it_is (frame_of c.args.joints.now) (g.W.Writeable.text c.args.first.now)
      (map g.W.Writeable.text c.args.inner.now) (g.W.Writeable.text c.args.last.now)) t)
      (step_left as_it_is (frame_of c.args.joints.now) (g.W.Writeable.text c.args.last.now)
      (chars c.loop-value.between.now) (λ ys. map g.W.Writeable.text ys)
      (λ w. g.W.Writeable.text w)
      (λ x ys. refl) c.args.inner.now c.loop-value.value-index c.value-item.result
      c.loop-value-test.true c.value-item.is) c.loop-value.invariant.1)
      c.in_ok-write_behind-2.ensures.ok,
)

pub returns-in_err-write_behind-3-clause-err : goal.returns-in_err-write_behind-3-clause-err
returns-in_err-write_behind-3-clause-err g c =
    on_err c.from_residual-in_err-write_behind-3.result
    (stopped g.S.Sink.took g.met.S.Sink.took_both c.args.sink.now c.loop-value.sink
    c.write_behind-2.new.sink
    (whole as_it_is (frame_of c.args.joints.now) (g.W.Writeable.text c.args.first.now)
    (map g.W.Writeable.text c.args.inner.now) (g.W.Writeable.text c.args.last.now))
    (as_it_is (chars c.args.joints.now.last.now) ++ g.W.Writeable.text c.args.last.now)
    (as_it_is (chars c.args.joints.now.behind.now))
    (subst
    (λ (t : List ℕ). Going g.S.Sink.took c.args.sink.now c.loop-value.sink
    (whole as_it_is (frame_of c.args.joints.now) (g.W.Writeable.text c.args.first.now)
    (map g.W.Writeable.text c.args.inner.now) (g.W.Writeable.text c.args.last.now)) t)
    (end_left as_it_is (frame_of c.args.joints.now) (g.W.Writeable.text c.args.last.now)
    (chars c.loop-value.between.now)
    (λ ys. map g.W.Writeable.text ys) refl c.args.inner.now c.loop-value.value-index
    c.loop-value-test.false) c.loop-value.invariant.1)
    c.in_err-write_behind-3.ensures.err)

pub returns-clause-ok : goal.returns-clause-ok
returns-clause-ok g c =
    ok_map c.push_str.result
    (ended g.S.Sink.took g.met.S.Sink.took_both c.args.sink.now c.write_behind-2.new.sink
    c.push_str.new.self
    (whole as_it_is (frame_of c.args.joints.now) (g.W.Writeable.text c.args.first.now)
    (map g.W.Writeable.text c.args.inner.now) (g.W.Writeable.text c.args.last.now))
    (as_it_is (chars c.args.joints.now.behind.now))
    (going_on g.S.Sink.took g.met.S.Sink.took_both c.args.sink.now c.loop-value.sink
    c.write_behind-2.new.sink
    (whole as_it_is (frame_of c.args.joints.now) (g.W.Writeable.text c.args.first.now)
    (map g.W.Writeable.text c.args.inner.now) (g.W.Writeable.text c.args.last.now))
    (as_it_is (chars c.args.joints.now.last.now) ++ g.W.Writeable.text c.args.last.now)
    (as_it_is (chars c.args.joints.now.behind.now))
    (subst
    (λ (t : List ℕ). Going g.S.Sink.took c.args.sink.now c.loop-value.sink
    (whole as_it_is (frame_of c.args.joints.now) (g.W.Writeable.text c.args.first.now)
    (map g.W.Writeable.text c.args.inner.now) (g.W.Writeable.text c.args.last.now)) t)
    (end_left as_it_is (frame_of c.args.joints.now) (g.W.Writeable.text c.args.last.now)
    (chars c.loop-value.between.now)
    (λ ys. map g.W.Writeable.text ys) refl c.args.inner.now c.loop-value.value-index
    c.loop-value-test.false) c.loop-value.invariant.1)
    c.in_ok-write_behind-3.ensures.ok))
    (c.push_str.ensures.ok)

pub returns-clause-err : goal.returns-clause-err
returns-clause-err g c =
    err_map c.push_str.result
    (ended_front g.S.Sink.took g.met.S.Sink.took_both c.args.sink.now c.write_behind-2.new.sink
    c.push_str.new.self
    (whole as_it_is (frame_of c.args.joints.now) (g.W.Writeable.text c.args.first.now)
    (map g.W.Writeable.text c.args.inner.now) (g.W.Writeable.text c.args.last.now))
    (as_it_is (chars c.args.joints.now.behind.now))
    (going_on g.S.Sink.took g.met.S.Sink.took_both c.args.sink.now c.loop-value.sink
    c.write_behind-2.new.sink
    (whole as_it_is (frame_of c.args.joints.now) (g.W.Writeable.text c.args.first.now)
    (map g.W.Writeable.text c.args.inner.now) (g.W.Writeable.text c.args.last.now))
    (as_it_is (chars c.args.joints.now.last.now) ++ g.W.Writeable.text c.args.last.now)
    (as_it_is (chars c.args.joints.now.behind.now))
    (subst
    (λ (t : List ℕ). Going g.S.Sink.took c.args.sink.now c.loop-value.sink
    (whole as_it_is (frame_of c.args.joints.now) (g.W.Writeable.text c.args.first.now)
    (map g.W.Writeable.text c.args.inner.now) (g.W.Writeable.text c.args.last.now)) t)
    (end_left as_it_is (frame_of c.args.joints.now) (g.W.Writeable.text c.args.last.now)
    (chars c.loop-value.between.now)
    (λ ys. map g.W.Writeable.text ys) refl c.args.inner.now c.loop-value.value-index
    c.loop-value-test.false) c.loop-value.invariant.1)
    c.in_ok-write_behind-3.ensures.ok))
    (c.push_str.ensures.err)
