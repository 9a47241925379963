use Rattle.std.proofs.Common.{List, [], subst, OnOk, OnErr}
use Rattle.writeable_core.specs.Marks.{Mark}
use Rattle.writeable_core.specs.Sink.{TookPrefix}
use Rattle.icu_list.specs.Frames.{frame_of}
use Rattle.icu_list.proofs.Turns.{none_marked, all_marked}
use Rattle.icu_list.proofs.formatted.FormattedListWriteable.write_to_parts.Goals as goal

pub returns-in_default-clause-ok : goal.returns-in_default-clause-ok
returns-in_default-clause-ok g c =
    subst (λ (t : List Mark). g.P.PartsWrite.took_marks c.args.sink.now t c.args.sink.now)
    (none_marked c.args.self.now.patterns.now g.W.Writeable.text g.W.Writeable.marked
    c.args.self.now.values.now c.in_default.ensures.cases)
    (g.met.P.PartsWrite.marks_of_text c.args.sink.now c.args.sink.now []
    (g.met.P.Sink.took_nothing c.args.sink.now))

pub returns-clause-ok : goal.returns-clause-ok
returns-clause-ok g c =
    let values = rw (c.in-Some.first-is, c.in-Some.others-is) at c.in-Some.ensures.cases in
    let others =
    rw (
      c.in-Some-split_last.last-is,
      c.in-Some-split_last.inner-is,
    ) at c.in-Some-split_last.ensures.cases in
    subst
    (λ (t : List Mark). OnOk c.write_parts_joined.result
    (g.P.PartsWrite.took_marks c.args.sink.now t c.write_parts_joined.new.sink))
    (all_marked c.args.self.now.patterns.now g.W.Writeable.text g.W.Writeable.marked
    c.args.self.now.values.now c.in-Some.others.now c.in-Some-split_last.inner.now
    c.in-Some.first.now c.in-Some-split_last.last.now
    c.is_empty.result
    (frame_of c.joints-joints.result) values.0 others.0 c.is_empty.ensures
    c.joints-joints.ensures)
    c.write_parts_joined.ensures.ok

pub returns-clause-err : goal.returns-clause-err
returns-clause-err g c =
    let values = rw (c.in-Some.first-is, c.in-Some.others-is) at c.in-Some.ensures.cases in
    let others =
    rw (
      c.in-Some-split_last.last-is,
      c.in-Some-split_last.inner-is,
    ) at c.in-Some-split_last.ensures.cases in
    subst
    (λ (t : List Mark). OnErr c.write_parts_joined.result
    (TookPrefix g.P.PartsWrite.took_marks c.args.sink.now t c.write_parts_joined.new.sink))
    (all_marked c.args.self.now.patterns.now g.W.Writeable.text g.W.Writeable.marked
    c.args.self.now.values.now c.in-Some.others.now c.in-Some-split_last.inner.now
    c.in-Some.first.now c.in-Some-split_last.last.now
    c.is_empty.result
    (frame_of c.joints-joints.result) values.0 others.0 c.is_empty.ensures
    c.joints-joints.ensures)
    c.write_parts_joined.ensures.err
