-- Three lines, or a front of them.
use Rattle.std.proofs.Common.{◌++◌, codes}
use Rattle.writeable_core.specs.SinkLaws.{on_err}
use Rattle.localise_run.specs.Generating.{number_line}
use Rattle.localise_run.proofs.generate.write_counted.Goals as goal

pub returns-in_err-write_number-clause-err : goal.returns-in_err-write_number-clause-err
returns-in_err-write_number-clause-err g c =
    let n = c.args.counted.now in
    on_err c.from_residual.result
    (g.met.O.Sink.front_longer c.args.out.now c.write_number.new.out
    (number_line (codes "requests ") n.requests)
    (number_line (codes "bytes ") n.bytes ++ number_line (codes "visited ") n.visited)
    c.in_err-write_number.ensures.err)

pub returns-in_err-write_number-2-clause-err : goal.returns-in_err-write_number-2-clause-err
returns-in_err-write_number-2-clause-err g c =
    let n = c.args.counted.now in
    on_err c.from_residual-in_err-write_number-2.result
    (g.met.O.Sink.front_behind c.args.out.now c.write_number.new.out c.write_number-2.new.out
    (number_line (codes "requests ") n.requests)
    (number_line (codes "bytes ") n.bytes ++ number_line (codes "visited ") n.visited)
    c.in_ok-write_number.ensures.ok
    (g.met.O.Sink.front_longer c.write_number.new.out c.write_number-2.new.out
    (number_line (codes "bytes ") n.bytes)
    (number_line (codes "visited ") n.visited) c.in_err-write_number-2.ensures.err))

pub returns-in_err-write_number-3-clause-err : goal.returns-in_err-write_number-3-clause-err
returns-in_err-write_number-3-clause-err g c =
    let n = c.args.counted.now in
    on_err c.from_residual-in_err-write_number-3.result
    (g.met.O.Sink.front_behind c.args.out.now c.write_number.new.out c.write_number-3.new.out
    (number_line (codes "requests ") n.requests)
    (number_line (codes "bytes ") n.bytes ++ number_line (codes "visited ") n.visited)
    c.in_ok-write_number.ensures.ok
    (g.met.O.Sink.front_behind c.write_number.new.out c.write_number-2.new.out
    c.write_number-3.new.out (number_line (codes "bytes ") n.bytes)
    (number_line (codes "visited ") n.visited) c.in_ok-write_number-2.ensures.ok
    c.in_err-write_number-3.ensures.err))

pub returns-clause-ok : goal.returns-clause-ok
returns-clause-ok g c =
    let n = c.args.counted.now in
    g.met.O.Sink.took_both c.args.out.now c.write_number.new.out c.write_number-3.new.out
    (number_line (codes "requests ") n.requests)
    (number_line (codes "bytes ") n.bytes ++ number_line (codes "visited ") n.visited)
    c.in_ok-write_number.ensures.ok
    (g.met.O.Sink.took_both c.write_number.new.out c.write_number-2.new.out c.write_number-3.new.out
    (number_line (codes "bytes ") n.bytes)
    (number_line (codes "visited ") n.visited) c.in_ok-write_number-2.ensures.ok
    c.in_ok-write_number-3.ensures.ok)
