-- What the run's answer says of the bytes.
use Rattle.localise_run.proofs.Runs.{complete, exact, headline}
use Rattle.localise_run.proofs.running.run.Goals as goal

pub returns-clause-headline : goal.returns-clause-headline
returns-clause-headline g c = λ done command is.
    headline g.O.Sink.took g.O.Sink.faults g.O.Sink.takes_memory command
    (g.S.Source.left c.args.source.now)
    (g.S.Source.faults c.args.source.now) (g.S.Source.faults c.run_words-status.new.source)
    c.args.out.now c.run_words-status.new.out g.O.Sink.held g.met.O.Sink.took_held
    c.run_words-status.result done (c.run_words-status.ensures.runs command is)

pub returns-clause-exact : goal.returns-clause-exact
returns-clause-exact g c = λ command is.
    exact g.O.Sink.took g.O.Sink.faults g.O.Sink.takes_memory command
    (g.S.Source.left c.args.source.now)
    (g.S.Source.faults c.args.source.now) (g.S.Source.faults c.run_words-status.new.source)
    c.args.out.now c.run_words-status.new.out c.one_answer.ensures
    c.run_words-status.result (c.run_words-status.ensures.runs command is)

pub returns-clause-complete : goal.returns-clause-complete
returns-clause-complete g c = λ command is.
    complete g.O.Sink.took g.O.Sink.faults g.O.Sink.takes_memory command
    (g.S.Source.left c.args.source.now)
    (g.S.Source.faults c.args.source.now) (g.S.Source.faults c.run_words-status.new.source)
    c.args.out.now c.run_words-status.new.out c.one_answer.ensures
    c.run_words-status.result (c.run_words-status.ensures.runs command is)
