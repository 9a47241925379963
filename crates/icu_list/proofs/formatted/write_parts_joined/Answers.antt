use Rattle.std.proofs.Common.{List, ◌+◌, ◌++◌, map, drop, chars, refl, rules, subst}
use Rattle.writeable_core.specs.Marks.{Mark}
use Rattle.writeable_core.specs.SinkLaws.{on_err}
use Rattle.icu_list.specs.Frames.{frame_of, left, whole}
use Rattle.icu_list.specs.Joined.{element, literal}
use Rattle.icu_list.proofs.Going.{Going, going_on, stopped, ended, ended_front}
use Rattle.icu_list.proofs.Turns.{step_left, end_left, ok_map, err_map}
use Rattle.icu_list.proofs.formatted.write_parts_joined.Goals as goal

pub returns-in_err-write_parts_behind-clause-err : goal.returns-in_err-write_parts_behind-clause-err
returns-in_err-write_parts_behind-clause-err g c =
    on_err c.from_residual.result
    (g.met.P.PartsWrite.marks_front_longer c.args.sink.now c.write_parts_behind.new.sink
    (literal (chars c.args.joints.now.before.now)
    ++ element (g.W.Writeable.marked c.args.first.now))
    (left literal (frame_of c.args.joints.now) (element (g.W.Writeable.marked c.args.last.now))
    (chars c.args.joints.now.first.now)
    (map element (map g.W.Writeable.marked c.args.inner.now)))
    c.in_err-write_parts_behind.ensures.err)

pub returns-in_err-write_parts_behind-2-clause-err :
    goal.returns-in_err-write_parts_behind-2-clause-err
returns-in_err-write_parts_behind-2-clause-err g c =
    on_err c.from_residual-in_err-write_parts_behind-2.result
    (stopped g.P.PartsWrite.took_marks g.met.P.PartsWrite.marks_both c.args.sink.now
    c.loop-value.sink c.write_parts_behind-in-loop-value.new.sink
    (whole literal (frame_of c.args.joints.now) (element (g.W.Writeable.marked c.args.first.now))
    (map element (map g.W.Writeable.marked c.args.inner.now))
    (element (g.W.Writeable.marked c.args.last.now)))
    (literal (chars c.loop-value.between.now) ++ element (g.W.Writeable.marked c.value-item.result))
    (left literal (frame_of c.args.joints.now) (element (g.W.Writeable.marked c.args.last.now))
    (chars c.args.joints.now.middle.now)
    (map element
    (map g.W.Writeable.marked (drop (c.loop-value.value-index + 1) c.args.inner.now))))
    (subst (λ (t : List Mark). Going g.P.PartsWrite.took_marks c.args.sink.now c.loop-value.sink
    (whole literal (frame_of c.args.joints.now)
    (element (g.W.Writeable.marked c.args.first.now))
    (map element (map g.W.Writeable.marked c.args.inner.now))
    (element (g.W.Writeable.marked c.args.last.now))) t)
    (step_left literal (frame_of c.args.joints.now)
    (element (g.W.Writeable.marked c.args.last.now)) (chars c.loop-value.between.now)
    (λ ys. map element (map g.W.Writeable.marked ys))
    (λ w. element (g.W.Writeable.marked w))
    (λ x ys. refl) c.args.inner.now c.loop-value.value-index c.value-item.result
    c.loop-value-test.true c.value-item.is) c.loop-value.invariant.1)
    c.in_err-write_parts_behind-2.ensures.err)

pub loop-value-preserved : goal.loop-value-preserved
loop-value-preserved g c = (
  search rules,
  going_on g.P.PartsWrite.took_marks g.met.P.PartsWrite.marks_both c.args.sink.now c.loop-value.sink
      c.write_parts_behind-in-loop-value.new.sink
      (whole literal (frame_of c.args.joints.now) (element (g.W.Writeable.marked c.args.first.now))
      (map element (map g.W.Writeable.marked c.args.inner.now))
      (element (g.W.Writeable.marked c.args.last.now)))
      (literal (chars c.loop-value.between.now)
      ++ element (g.W.Writeable.marked c.value-item.result))
      (left literal (frame_of c.args.joints.now) (element (g.W.Writeable.marked c.args.last.now))
      (chars c.args.joints.now.middle.now)
      (map element
      (map g.W.Writeable.marked (drop (c.loop-value.value-index + 1) c.args.inner.now))))
      (subst (λ (t : List Mark). Going g.P.PartsWrite.took_marks c.args.sink.now c.loop-value.sink
      (whole literal (frame_of c.args.joints.now)
      (element (g.W.Writeable.marked c.args.first.now))
      (map element (map g.W.Writeable.marked c.args.inner.now))
      (element (g.W.Writeable.marked c.args.last.now))) t)
      (step_left literal (frame_of c.args.joints.now)
      (element (g.W.Writeable.marked c.args.last.now)) (chars c.loop-value.between.now)
      (λ ys. map element (map g.W.Writeable.marked ys))
      (λ w. element (g.W.Writeable.marked w))
      (λ x ys. refl) c.args.inner.now c.loop-value.value-index c.value-item.result
      c.loop-value-test.true c.value-item.is) c.loop-value.invariant.1)
      c.in_ok-write_parts_behind-2.ensures.ok,
)

pub returns-in_err-write_parts_behind-3-clause-err :
    goal.returns-in_err-write_parts_behind-3-clause-err
returns-in_err-write_parts_behind-3-clause-err g c =
    on_err c.from_residual-in_err-write_parts_behind-3.result
    (stopped g.P.PartsWrite.took_marks g.met.P.PartsWrite.marks_both c.args.sink.now
    c.loop-value.sink c.write_parts_behind-2.new.sink
    (whole literal (frame_of c.args.joints.now) (element (g.W.Writeable.marked c.args.first.now))
    (map element (map g.W.Writeable.marked c.args.inner.now))
    (element (g.W.Writeable.marked c.args.last.now)))
    (literal (chars c.args.joints.now.last.now) ++ element (g.W.Writeable.marked c.args.last.now))
    (literal (chars c.args.joints.now.behind.now))
    (subst (λ (t : List Mark). Going g.P.PartsWrite.took_marks c.args.sink.now c.loop-value.sink
    (whole literal (frame_of c.args.joints.now)
    (element (g.W.Writeable.marked c.args.first.now))
    (map element (map g.W.Writeable.marked c.args.inner.now))
    (element (g.W.Writeable.marked c.args.last.now))) t)
    (end_left literal (frame_of c.args.joints.now)
    (element (g.W.Writeable.marked c.args.last.now)) (chars c.loop-value.between.now)
    (λ ys. map element (map g.W.Writeable.marked ys)) refl c.args.inner.now
    c.loop-value.value-index c.loop-value-test.false) c.loop-value.invariant.1)
    c.in_err-write_parts_behind-3.ensures.err)

pub returns-clause-ok : goal.returns-clause-ok
returns-clause-ok g c =
    ok_map c.write_inside.result
    (ended g.P.PartsWrite.took_marks g.met.P.PartsWrite.marks_both c.args.sink.now
    c.write_parts_behind-2.new.sink c.write_inside.new.sink
    (whole literal (frame_of c.args.joints.now) (element (g.W.Writeable.marked c.args.first.now))
    (map element (map g.W.Writeable.marked c.args.inner.now))
    (element (g.W.Writeable.marked c.args.last.now)))
    (literal (chars c.args.joints.now.behind.now))
    (going_on g.P.PartsWrite.took_marks g.met.P.PartsWrite.marks_both c.args.sink.now
    c.loop-value.sink c.write_parts_behind-2.new.sink
    (whole literal (frame_of c.args.joints.now)
    (element (g.W.Writeable.marked c.args.first.now))
    (map element (map g.W.Writeable.marked c.args.inner.now))
    (element (g.W.Writeable.marked c.args.last.now)))
    (literal (chars c.args.joints.now.last.now)
    ++ element (g.W.Writeable.marked c.args.last.now))
    (literal (chars c.args.joints.now.behind.now))
    (subst (λ (t : List Mark). Going g.P.PartsWrite.took_marks c.args.sink.now c.loop-value.sink
    (whole literal (frame_of c.args.joints.now)
    (element (g.W.Writeable.marked c.args.first.now))
    (map element (map g.W.Writeable.marked c.args.inner.now))
    (element (g.W.Writeable.marked c.args.last.now))) t)
    (end_left literal (frame_of c.args.joints.now)
    (element (g.W.Writeable.marked c.args.last.now)) (chars c.loop-value.between.now)
    (λ ys. map element (map g.W.Writeable.marked ys)) refl c.args.inner.now
    c.loop-value.value-index c.loop-value-test.false) c.loop-value.invariant.1)
    c.in_ok-write_parts_behind-3.ensures.ok))
    (c.write_inside.ensures.ok)

pub returns-clause-err : goal.returns-clause-err
returns-clause-err g c =
    err_map c.write_inside.result
    (ended_front g.P.PartsWrite.took_marks g.met.P.PartsWrite.marks_both c.args.sink.now
    c.write_parts_behind-2.new.sink c.write_inside.new.sink
    (whole literal (frame_of c.args.joints.now) (element (g.W.Writeable.marked c.args.first.now))
    (map element (map g.W.Writeable.marked c.args.inner.now))
    (element (g.W.Writeable.marked c.args.last.now)))
    (literal (chars c.args.joints.now.behind.now))
    (going_on g.P.PartsWrite.took_marks g.met.P.PartsWrite.marks_both c.args.sink.now
    c.loop-value.sink c.write_parts_behind-2.new.sink
    (whole literal (frame_of c.args.joints.now)
    (element (g.W.Writeable.marked c.args.first.now))
    (map element (map g.W.Writeable.marked c.args.inner.now))
    (element (g.W.Writeable.marked c.args.last.now)))
    (literal (chars c.args.joints.now.last.now)
    ++ element (g.W.Writeable.marked c.args.last.now))
    (literal (chars c.args.joints.now.behind.now))
    (subst (λ (t : List Mark). Going g.P.PartsWrite.took_marks c.args.sink.now c.loop-value.sink
    (whole literal (frame_of c.args.joints.now)
    (element (g.W.Writeable.marked c.args.first.now))
    (map element (map g.W.Writeable.marked c.args.inner.now))
    (element (g.W.Writeable.marked c.args.last.now))) t)
    (end_left literal (frame_of c.args.joints.now)
    (element (g.W.Writeable.marked c.args.last.now)) (chars c.loop-value.between.now)
    (λ ys. map element (map g.W.Writeable.marked ys)) refl c.args.inner.now
    c.loop-value.value-index c.loop-value-test.false) c.loop-value.invariant.1)
    c.in_ok-write_parts_behind-3.ensures.ok))
    (c.write_inside.ensures.err)
