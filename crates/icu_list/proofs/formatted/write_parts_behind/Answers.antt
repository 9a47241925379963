use Rattle.std.proofs.Common.{chars}
use Rattle.writeable_core.specs.SinkLaws.{on_err}
use Rattle.icu_list.specs.Joined.{element, literal}
use Rattle.icu_list.proofs.formatted.write_parts_behind.Goals as goal

pub returns-in_err-write_inside-clause-err : goal.returns-in_err-write_inside-clause-err
returns-in_err-write_inside-clause-err g c =
    on_err c.from_residual.result
    (g.met.P.PartsWrite.marks_front_longer c.args.sink.now c.write_inside.new.sink
    (literal (chars c.args.text.now))
    (element (g.W.Writeable.marked c.args.value.now)) c.in_err-write_inside.ensures.err)

pub returns-in_err-write_inside-2-clause-err : goal.returns-in_err-write_inside-2-clause-err
returns-in_err-write_inside-2-clause-err g c =
    on_err c.from_residual-in_err-write_inside-2.result
    (g.met.P.PartsWrite.marks_front_behind c.args.sink.now c.write_inside.new.sink
    c.write_inside-2.new.sink (literal (chars c.args.text.now))
    (element (g.W.Writeable.marked c.args.value.now))
    c.in_ok-write_inside.ensures.ok c.in_err-write_inside-2.ensures.err)

pub returns-clause-ok : goal.returns-clause-ok
returns-clause-ok g c =
    g.met.P.PartsWrite.marks_both c.args.sink.now c.write_inside.new.sink c.write_inside-2.new.sink
    (literal (chars c.args.text.now)) (element (g.W.Writeable.marked c.args.value.now))
    c.in_ok-write_inside.ensures.ok c.in_ok-write_inside-2.ensures.ok
