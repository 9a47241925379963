use Rattle.std.proofs.Common.{List, ℕ, subst, OnOk, OnErr}
use Rattle.writeable_core.specs.Sink.{TookPrefix}
use Rattle.icu_list.specs.Frames.{frame_of}
use Rattle.icu_list.proofs.Turns.{all_joined}
use Rattle.icu_list.proofs.formatted.FormattedListWriteable.write_to.Goals as goal

pub returns-clause-ok : goal.returns-clause-ok
returns-clause-ok g c =
    let values = rw (c.in-Some.first-is, c.in-Some.others-is) at c.in-Some.ensures.cases in
    let others =
    rw (
      c.in-Some-split_last.last-is,
      c.in-Some-split_last.inner-is,
    ) at c.in-Some-split_last.ensures.cases in
    subst
    (λ (t : List ℕ). OnOk c.write_joined.result
    (g.S.Sink.took c.args.sink.now t c.write_joined.new.sink))
    (all_joined c.args.self.now.patterns.now g.W.Writeable.text c.args.self.now.values.now
    c.in-Some.others.now c.in-Some-split_last.inner.now c.in-Some.first.now
    c.in-Some-split_last.last.now
    c.is_empty.result
    (frame_of c.joints-joints.result) values.0 others.0 c.is_empty.ensures
    c.joints-joints.ensures)
    c.write_joined.ensures.ok

pub returns-clause-err : goal.returns-clause-err
returns-clause-err g c =
    let values = rw (c.in-Some.first-is, c.in-Some.others-is) at c.in-Some.ensures.cases in
    let others =
    rw (
      c.in-Some-split_last.last-is,
      c.in-Some-split_last.inner-is,
    ) at c.in-Some-split_last.ensures.cases in
    subst
    (λ (t : List ℕ). OnErr c.write_joined.result
    (TookPrefix g.S.Sink.took c.args.sink.now t c.write_joined.new.sink))
    (all_joined c.args.self.now.patterns.now g.W.Writeable.text c.args.self.now.values.now
    c.in-Some.others.now c.in-Some-split_last.inner.now c.in-Some.first.now
    c.in-Some-split_last.last.now
    c.is_empty.result
    (frame_of c.joints-joints.result) values.0 others.0 c.is_empty.ensures
    c.joints-joints.ensures)
    c.write_joined.ensures.err
