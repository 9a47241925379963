-- The bytes that were read are answered, or reading failed.
use Rattle.std.proofs.Common.{sym, subst}
use Rattle.localise_run.proofs.Runs.{bytes_run, never_words, reading_runs}
use Rattle.localise_run.specs.Answers.{Says, SaysFirst}
use Rattle.localise_run.specs.Run.{Runs, written}
use Rattle.localise_status.specs.Classes.{class_of}
use Rattle.localise_status.specs.declared.status.Status.{Status}
use Rattle.localise_run.proofs.running.run_command.Goals as goal

pub returns-in-Ok-clause-runs : goal.returns-in-Ok-clause-runs
returns-in-Ok-clause-runs g c =
    bytes_run g.O.Sink.took g.O.Sink.faults g.O.Sink.takes_memory c.args.command
    (g.S.Source.left c.args.source.now) (g.S.Source.faults c.args.source.now)
    (g.S.Source.faults c.read_all.new.source) c.args.out.now c.run_over.new.out c.in-Ok.bytes.items
    c.run_over.result c.in-Ok.ensures.all c.run_over.ensures

pub returns-in-Err-clause-runs : goal.returns-in-Err-clause-runs
returns-in-Err-clause-runs g c =
    subst
    (λ (s : Status). Runs g.O.Sink.took c.args.command (g.S.Source.left c.args.source.now)
    (g.S.Source.faults c.args.source.now)
    (g.S.Source.faults c.read_all.new.source)
    (written g.O.Sink.faults g.O.Sink.takes_memory c.args.out.now c.args.out.now)
    (class_of s) s)
    (sym c.of_reading.ensures)
    (reading_runs g.O.Sink.took g.O.Sink.faults g.O.Sink.takes_memory c.args.command
    (g.S.Source.left c.args.source.now) (g.S.Source.faults c.args.source.now)
    (g.S.Source.faults c.read_all.new.source) c.args.out.now c.in-Err.error c.in-Err.ensures.err)

pub returns-in-Ok-clause-command : goal.returns-in-Ok-clause-command
returns-in-Ok-clause-command g c =
    never_words g.O.Sink.took (Says c.args.command c.in-Ok.bytes.items)
    (SaysFirst c.args.command c.in-Ok.bytes.items)
    (written g.O.Sink.faults g.O.Sink.takes_memory c.args.out.now c.run_over.new.out)
    c.run_over.result c.run_over.ensures
