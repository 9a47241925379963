-- The numbers are written, or there are none.
use Rattle.std.proofs.Common.{refl, sym, ap, subst}
use Rattle.std.specs.Prelude.{Err}
use Rattle.localise.specs.Views.{root_of}
use Rattle.localise_run.proofs.Numbers.{no_numbers, numbers_failing, wrote_numbers}
use Rattle.localise_run.specs.Generating.{AreGenerated, AreNumbers, made, three_lines}
use Rattle.localise_run.specs.Run.{Gives, written}
use Rattle.localise_status.specs.declared.status.Status.{Status}
use Rattle.localise_run.proofs.generate.write_numbers.Goals as goal

pub returns-in-Ok-write_counted : goal.returns-in-Ok-write_counted
returns-in-Ok-write_counted g c = λ bundles alike.
    let n = c.in-Ok.counted in
    wrote_numbers c.args.tables.now bundles (root_of c.args.localiser.now)
    (made c.args.requests.now 0 c.args.count)
    g.O.Sink.took g.O.Sink.faults g.O.Sink.takes_memory c.args.out.now c.write_counted.new.out
    (three_lines n.requests n.bytes n.visited)
    (record { counted = n; are = c.in-Ok.ensures.ok bundles alike; text_is = refl })
    c.in-Ok-write_counted.ensures.ok

pub returns-in-Err-write_counted : goal.returns-in-Err-write_counted
returns-in-Err-write_counted g c = λ bundles alike.
    let n = c.in-Ok.counted in
    let T = c.args.tables.now in
    let root = root_of c.args.localiser.now in
    let qs = made c.args.requests.now 0 c.args.count in
    subst
    (λ (s : Status). Gives g.O.Sink.took (AreGenerated T bundles root qs)
    (AreNumbers T bundles root qs)
    (written g.O.Sink.faults g.O.Sink.takes_memory c.args.out.now c.write_counted.new.out) s)
    (sym c.of_sink.ensures)
    (numbers_failing T bundles root qs g.O.Sink.took g.O.Sink.faults g.O.Sink.takes_memory
    c.args.out.now c.write_counted.new.out
    (three_lines n.requests n.bytes n.visited) c.in-Err-write_counted.error
    (record { counted = n; are = c.in-Ok.ensures.ok bundles alike; text_is = refl })
    c.in-Err-write_counted.ensures.err
    (λ fault. c.in-Err-write_counted.ensures.cause.fault (ap Err fault))
    (λ none. c.in-Err-write_counted.ensures.cause.no_memory (ap Err none)))

pub returns-in-Err : goal.returns-in-Err
returns-in-Err g c = λ bundles alike.
    no_numbers c.args.tables.now bundles (root_of c.args.localiser.now)
    (made c.args.requests.now 0 c.args.count)
    g.O.Sink.took g.O.Sink.faults g.O.Sink.takes_memory c.args.out.now c.in-Err.status
    (g.met.O.Sink.took_nothing c.args.out.now)
    (c.in-Err.ensures.err bundles alike)
