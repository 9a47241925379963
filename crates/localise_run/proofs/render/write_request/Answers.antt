-- The line is the localised text and a line feed; or the walk comes round.
use Rattle.std.proofs.Common.{ℕ, ◌≤◌, ◌^◌, refl, sym, ap, subst}
use Rattle.std.specs.Prelude.{Err}
use Rattle.localise.specs.Given.{text_given}
use Rattle.localise.specs.Views.{root_of, tables_of}
use Rattle.localise_run.proofs.FoundLines.{found_line, found_visits, round_fault}
use Rattle.localise_run.proofs.Written.{sink_fails}
use Rattle.localise_run.specs.Rendering.{IsLine, IsLineFault}
use Rattle.localise_run.specs.Requests.{line_of}
use Rattle.localise_run.specs.Run.{written}
use Rattle.localise_run.specs.Writing.{FailsLine}
use Rattle.localise_run.proofs.render.write_request.Goals as goal

pub returns-in_default-clause-err : goal.returns-in_default-clause-err
returns-in_default-clause-err g c = λ bundles alike.
    record {
      cause = _;
      fault =
          round_fault c.args.tables.now (tables_of c.args.localiser.now) c.requires.tables bundles
          (root_of c.args.localiser.now)
          c.args.locale c.args.request.now c.requires.wants
          (c.in_default.ensures.err bundles alike);
      status_is = refl;
      kept = refl;
    }

pub returns-in-Ok-write_line-clause-ok : goal.returns-in-Ok-write_line-clause-ok
returns-in-Ok-write_line-clause-ok g c = λ bundles alike.
    record {
      line = line_of (text_given c.in-Ok.found);
      is =
          found_line c.args.tables.now (tables_of c.args.localiser.now) c.requires.tables bundles
          (root_of c.args.localiser.now)
          c.args.locale c.args.request.now c.requires.wants c.in-Ok.found
          (c.in-Ok.ensures.ok bundles alike);
      taken = c.in-Ok-write_line.ensures.ok;
    }

pub returns-in-Err-clause-err : goal.returns-in-Err-clause-err
returns-in-Err-clause-err g c = λ bundles alike.
    let is =
    found_line c.args.tables.now (tables_of c.args.localiser.now) c.requires.tables bundles
    (root_of c.args.localiser.now)
    c.args.locale c.args.request.now c.requires.wants c.in-Ok.found
    (c.in-Ok.ensures.ok bundles alike) in
    subst
    (FailsLine g.O.Sink.took (IsLine c.args.tables.now bundles (root_of c.args.localiser.now))
    (IsLineFault c.args.tables.now bundles (root_of c.args.localiser.now))
    (written g.O.Sink.faults g.O.Sink.takes_memory c.args.out.now c.write_line.new.out)
    c.args.number c.args.request.now) (sym c.of_sink.ensures)
    (sink_fails g.O.Sink.took (IsLine c.args.tables.now bundles (root_of c.args.localiser.now))
    (IsLineFault c.args.tables.now bundles (root_of c.args.localiser.now))
    (written g.O.Sink.faults g.O.Sink.takes_memory c.args.out.now c.write_line.new.out)
    c.args.number c.args.request.now
    (line_of (text_given c.in-Ok.found)) c.in-Err.error is c.in-Err.ensures.err
    (λ fault. c.in-Err.ensures.cause.fault (ap Err fault))
    (λ none. c.in-Err.ensures.cause.no_memory (ap Err none)))

pub returns-in-Ok-write_line-clause-visited : goal.returns-in-Ok-write_line-clause-visited
returns-in-Ok-write_line-clause-visited g c = λ bundles alike.
    found_visits c.args.tables.now (tables_of c.args.localiser.now) c.requires.tables bundles
    (root_of c.args.localiser.now)
    c.args.locale c.args.request.now c.requires.wants c.in-Ok.found
    (c.in-Ok.ensures.ok bundles alike) c.visited.result c.visited.ensures

pub returns-in-Ok-write_line-clause-small : goal.returns-in-Ok-write_line-clause-small
returns-in-Ok-write_line-clause-small g c =
    subst (λ (n : ℕ). n ≤ 2 ^ 67) (sym c.visited.ensures) c.in-Ok.ensures.small
