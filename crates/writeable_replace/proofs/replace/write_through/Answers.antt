-- What was passed on, and what was kept back to the end, are the text replaced.
use Rattle.std.proofs.Common.{chars, subst}
use Rattle.std.proofs.lemmas.Result.{on_ok_weaker, on_err_weaker}
use Rattle.writeable_core.specs.Sink.{TookPrefix}
use Rattle.writeable_replace.specs.PositionLaws.{position_none, front_chars}
use Rattle.writeable_replace.specs.WentLaws.{ended_ok, ended_front, ended_refused}
use Rattle.writeable_replace.proofs.replace.write_through.Goals as goal

pub returns-in-Some-clause-err : goal.returns-in-Some-clause-err
returns-in-Some-clause-err g c =
    let went = rw c.in-Some.is at c.pass_on-matched.ensures.went in
    ended_refused (chars c.args.needle.now) (g.C.Writeable.text c.args.replacement.now)
    (g.A.Writeable.text c.args.source.now)
    (position_none c.args.needle.now) went

pub returns-in-None-clause-ok : goal.returns-in-None-clause-ok
returns-in-None-clause-ok g c =
    let went = rw c.in-None.is at c.pass_on-matched.ensures.went in
    let front =
    front_chars c.args.needle.now c.pass_on-matched.result.0 c.utf8.needle
    c.pass_on-matched.ensures.is_position.boundary in
    on_ok_weaker c.pass_front.result
    (λ last. ended_ok (chars c.args.needle.now) (g.C.Writeable.text c.args.replacement.now)
    (g.A.Writeable.text c.args.source.now)
    g.met.S.Sink.took_both (position_none c.args.needle.now) went
    (subst (λ t. g.S.Sink.took c.pass_on-matched.new.sink t c.pass_front.new.sink) front last))
    c.pass_front.ensures.ok

pub returns-in-None-clause-err : goal.returns-in-None-clause-err
returns-in-None-clause-err g c =
    let went = rw c.in-None.is at c.pass_on-matched.ensures.went in
    let front =
    front_chars c.args.needle.now c.pass_on-matched.result.0 c.utf8.needle
    c.pass_on-matched.ensures.is_position.boundary in
    on_err_weaker c.pass_front.result
    (λ last. ended_front (chars c.args.needle.now) (g.C.Writeable.text c.args.replacement.now)
    (g.A.Writeable.text c.args.source.now)
    g.met.S.Sink.took_both (position_none c.args.needle.now) went
    (subst
    (λ t. TookPrefix g.S.Sink.took c.pass_on-matched.new.sink t c.pass_front.new.sink) front
    last))
    c.pass_front.ensures.err
