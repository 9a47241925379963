-- What a flush leaves of the run's answer.
use Rattle.localise_run.proofs.Runs.{headline_flushed}
use Rattle.localise_run.proofs.running.run_and_flush.Goals as goal

pub returns-clause-headline : goal.returns-clause-headline
returns-clause-headline g c = λ done command is.
    headline_flushed g.O.Sink.took g.O.Sink.faults g.O.Sink.takes_memory command
    (g.S.Source.left c.args.source.now)
    (g.S.Source.faults c.args.source.now) (g.S.Source.faults c.run_words-answer.new.source)
    c.args.out.now c.run_words-answer.new.out g.O.Sink.held g.met.O.Sink.took_held
    g.met.O.Sink.took_both g.O.FlushSink.flushes c.flush_behind-status.new.out
    c.run_words-answer.result c.flush_behind-status.result done
    (c.run_words-answer.ensures.runs command is) c.flush_behind-status.ensures
