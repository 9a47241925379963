-- A line more, or the request at which the lines stop; over all bundles that the kept ones are
-- alike to.
use Rattle.std.proofs.Common.{◌≡◌, ◌<◌, List, ℕ, sym, subst, length, arith, slice_get, Some}
use Rattle.localise.specs.Meaning.{Meaning}
use Rattle.localise.specs.Views.{root_of}
use Rattle.localise_run.proofs.Lines.{got}
use Rattle.std.proofs.Math.Seq.{take-length}
use Rattle.localise_run.proofs.Written.{WroteTo, wrote_all, wrote_failing, wrote_more, wrote_to_tag}
use Rattle.localise_run.specs.Rendering.{AreRendered, BeginRendered, IsLine, IsLineFault, in_tag}
use Rattle.localise_run.specs.Run.{Gives, written}
use Rattle.localise_status.specs.declared.status.Status.{Status}
use Rattle.localise_run.proofs.render.write_lines.Goals as goal

pub returns-in-Err : goal.returns-in-Err
returns-in-Err g c = λ bundles alike.
    let T = c.args.tables.now in
    let root = root_of c.args.localiser.now in
    let q = c.index-requests-number.result in
    let took = g.O.Sink.took in
    let end = c.loop-number.auto.number-end in
    let within : c.loop-number.number < length c.args.requests.now =
    omega (arith, c.loop-number-test.true) in
    subst
    (λ (s : Status). Gives took (AreRendered T bundles root c.args.requests.now)
    (BeginRendered T bundles root c.args.requests.now)
    (written g.O.Sink.faults g.O.Sink.takes_memory c.args.out.now c.loop-number.out) s)
    (sym c.of_tag.ensures)
    (wrote_to_tag took g.O.Sink.faults g.O.Sink.takes_memory g.met.O.Sink.took_both
    g.met.O.Sink.took_faults g.met.O.Sink.took_memory (IsLine T bundles root)
    (IsLineFault T bundles root) c.args.requests.now
    c.args.out.now c.loop-number.out c.loop-number.number q c.in-Err.cause
    (c.loop-number.invariant.0 bundles alike)
    (got c.args.requests.now c.loop-number.number q within c.index-requests-number.is)
    (λ some.
    in_tag
    (c.in-Err.ensures.err q
    (got c.args.requests.now c.loop-number.number q within c.index-requests-number.is)
    some)))

pub write_request-requires-clause-wants : goal.write_request-requires-clause-wants
write_request-requires-clause-wants g c =
    let end = c.loop-number.auto.number-end in
    let within : c.loop-number.number < length c.args.requests.now =
    omega (arith, c.loop-number-test.true) in
    c.in-Ok-locale_of.ensures.ok c.index-requests-number.result
    (got c.args.requests.now c.loop-number.number c.index-requests-number.result within
    c.index-requests-number.is)

pub returns-in-Err-write_request : goal.returns-in-Err-write_request
returns-in-Err-write_request g c = λ bundles alike.
    let T = c.args.tables.now in
    let root = root_of c.args.localiser.now in
    let q = c.index-requests-number.result in
    let end = c.loop-number.auto.number-end in
    let within : c.loop-number.number < length c.args.requests.now =
    omega (arith, c.loop-number-test.true) in
    wrote_failing g.O.Sink.took g.O.Sink.faults g.O.Sink.takes_memory g.met.O.Sink.took_both
    g.met.O.Sink.took_faults g.met.O.Sink.took_memory (IsLine T bundles root)
    (IsLineFault T bundles root) c.args.requests.now
    c.args.out.now c.loop-number.out c.write_request.new.out c.loop-number.number q
    c.in-Err-write_request.status
    (c.loop-number.invariant.0 bundles alike) within c.index-requests-number.is
    (got c.args.requests.now c.loop-number.number q within c.index-requests-number.is)
    (c.in-Err-write_request.ensures.err bundles alike)

pub loop-number-preserved : goal.loop-number-preserved
loop-number-preserved g c =
    let T = c.args.tables.now in
    let root = root_of c.args.localiser.now in
    let q = c.index-requests-number.result in
    let end = c.loop-number.auto.number-end in
    let within : c.loop-number.number < length c.args.requests.now =
    omega (arith, c.loop-number-test.true) in (
      λ (bundles : List Meaning) alike.
          let line = c.in_default-write_request.ensures.ok bundles alike in
          wrote_more g.O.Sink.took g.O.Sink.faults g.O.Sink.takes_memory g.met.O.Sink.took_both
          g.met.O.Sink.took_faults g.met.O.Sink.took_memory (IsLine T bundles root)
          (IsLineFault T bundles root) c.args.requests.now
          c.args.out.now c.loop-number.out c.write_request.new.out c.loop-number.number q line.line
          (c.loop-number.invariant.0 bundles alike) within c.index-requests-number.is
          line.is line.taken,
      c.in-Ok-locale_of.ensures.kept,
    )

pub returns : goal.returns
returns g c = λ bundles alike.
    let T = c.args.tables.now in
    let root = root_of c.args.localiser.now in
    let qs = c.args.requests.now in
    let took = g.O.Sink.took in
    let end = c.loop-number.auto.number-end in
    let all : c.loop-number.number ≡ length qs = omega (arith, c.loop-number-test.false, end) in
    wrote_all took g.O.Sink.faults g.O.Sink.takes_memory g.met.O.Sink.took_both
    g.met.O.Sink.took_faults g.met.O.Sink.took_memory (IsLine T bundles root)
    (IsLineFault T bundles root) qs
    c.args.out.now c.loop-number.out
    (subst
    (λ (n : ℕ). WroteTo took (IsLine T bundles root)
    (IsLineFault T bundles root) qs c.args.out.now n c.loop-number.out) all
    (c.loop-number.invariant.0 bundles alike))
    (take-length qs)
