-- A line more, or the request at which the walks stop.
use Rattle.std.proofs.Common.{◌≡◌, ◌<◌, sym, subst, length, arith, slice_get, Some}
use Rattle.localise_run.proofs.Lines.{got}
use Rattle.localise_run.proofs.Written.{wrote_failing, wrote_more, wrote_to_tag}
use Rattle.localise_run.specs.Run.{Gives, written}
use Rattle.localise_run.specs.Walking.{AreWalked, BeginWalked, IsWalkFault, IsWalkLine, in_tag}
use Rattle.localise_status.specs.declared.status.Status.{Status}
use Rattle.localise_run.proofs.walk.write_walks.Goals as goal

pub returns-in-Err : goal.returns-in-Err
returns-in-Err g c =
    let T = c.args.tables.now in
    let q = c.index-requests-number.result in
    let took = g.O.Sink.took in
    let end = c.loop-number.auto.number-end in
    let within : c.loop-number.number < length c.args.requests.now =
    omega (arith, c.loop-number-test.true) in
    subst
    (λ (s : Status). Gives took (AreWalked T c.args.requests.now)
    (BeginWalked T c.args.requests.now)
    (written g.O.Sink.faults g.O.Sink.takes_memory c.args.out.now c.loop-number.out) s)
    (sym c.of_tag.ensures)
    (wrote_to_tag took g.O.Sink.faults g.O.Sink.takes_memory g.met.O.Sink.took_both
    g.met.O.Sink.took_faults g.met.O.Sink.took_memory (IsWalkLine T)
    (IsWalkFault T) c.args.requests.now
    c.args.out.now c.loop-number.out c.loop-number.number q c.in-Err.cause c.loop-number.invariant.0
    (got c.args.requests.now c.loop-number.number q within c.index-requests-number.is)
    (λ some.
    in_tag
    (c.in-Err.ensures.err q
    (got c.args.requests.now c.loop-number.number q within c.index-requests-number.is)
    some)))

pub write_walk-requires : goal.write_walk-requires
write_walk-requires g c =
    let end = c.loop-number.auto.number-end in
    let within : c.loop-number.number < length c.args.requests.now =
    omega (arith, c.loop-number-test.true) in
    c.in-Ok-locale_of.ensures.ok c.index-requests-number.result
    (got c.args.requests.now c.loop-number.number c.index-requests-number.result within
    c.index-requests-number.is)

pub returns-in-Err-write_walk : goal.returns-in-Err-write_walk
returns-in-Err-write_walk g c =
    let T = c.args.tables.now in
    let q = c.index-requests-number.result in
    let end = c.loop-number.auto.number-end in
    let within : c.loop-number.number < length c.args.requests.now =
    omega (arith, c.loop-number-test.true) in
    wrote_failing g.O.Sink.took g.O.Sink.faults g.O.Sink.takes_memory g.met.O.Sink.took_both
    g.met.O.Sink.took_faults g.met.O.Sink.took_memory (IsWalkLine T)
    (IsWalkFault T) c.args.requests.now
    c.args.out.now c.loop-number.out c.write_walk.new.out c.loop-number.number q
    c.in-Err-write_walk.status c.loop-number.invariant.0 within c.index-requests-number.is
    (got c.args.requests.now c.loop-number.number q within c.index-requests-number.is)
    c.in-Err-write_walk.ensures.err

pub loop-number-preserved : goal.loop-number-preserved
loop-number-preserved g c =
    let T = c.args.tables.now in
    let q = c.index-requests-number.result in
    let end = c.loop-number.auto.number-end in
    let within : c.loop-number.number < length c.args.requests.now =
    omega (arith, c.loop-number-test.true) in
    let line = c.in_default-write_walk.ensures.ok in (
      wrote_more g.O.Sink.took g.O.Sink.faults g.O.Sink.takes_memory g.met.O.Sink.took_both
          g.met.O.Sink.took_faults g.met.O.Sink.took_memory (IsWalkLine T)
          (IsWalkFault T) c.args.requests.now
          c.args.out.now c.loop-number.out c.write_walk.new.out c.loop-number.number q line.line
          c.loop-number.invariant.0 within c.index-requests-number.is line.is line.taken,
      c.in-Ok-locale_of.ensures.kept,
    )
