-- The words are one command, or none.
use Rattle.std.proofs.Common.{subst}
use Rattle.localise_run.proofs.Runs.{one_command}
use Rattle.localise_run.specs.Run.{Runs, written}
use Rattle.localise_run.specs.declared.command.Command.{Command}
use Rattle.localise_status.specs.Classes.{class_of}
use Rattle.localise_run.proofs.running.run_words.Goals as goal

pub returns-in-Some-clause-runs : goal.returns-in-Some-clause-runs
returns-in-Some-clause-runs g c = λ command is.
    subst
    (λ (x : Command). Runs g.O.Sink.took x (g.S.Source.left c.args.source.now)
    (g.S.Source.faults c.args.source.now)
    (g.S.Source.faults c.run_command.new.source)
    (written g.O.Sink.faults g.O.Sink.takes_memory c.args.out.now c.run_command.new.out)
    (class_of c.run_command.result) c.run_command.result)
    (one_command c.args.words.now c.in-Some.command command c.in-Some.ensures is)
    c.run_command.ensures.runs

pub returns-in-Some-clause-bad_words : goal.returns-in-Some-clause-bad_words
returns-in-Some-clause-bad_words g c = (
  λ same. absurd (c.run_command.ensures.command same),
  λ none. absurd (none c.in-Some.command c.in-Some.ensures),
)

pub returns-in-None-clause-runs : goal.returns-in-None-clause-runs
returns-in-None-clause-runs g c = λ command is. absurd (c.in-None.ensures command is)
