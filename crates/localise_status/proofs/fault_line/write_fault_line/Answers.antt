-- The line, piece by piece.
use Rattle.std.proofs.Common.{[], ◌∷◌, ◌++◌, codes}
use Rattle.writeable_core.specs.SinkLaws.{on_err}
use Rattle.localise_status.specs.FaultLines.{fault_text}
use Rattle.localise_status.proofs.fault_line.write_fault_line.Goals as goal

pub returns-in_err-write_words-clause-err : goal.returns-in_err-write_words-clause-err
returns-in_err-write_words-clause-err g c =
    on_err c.from_residual.result
    (g.met.E.Sink.front_longer c.args.err.now c.write_words.new.err (codes "localise: ")
    ((fault_text c.args.status.now) ++ ((10 ∷ [])))
    c.in_err-write_words.ensures.err)

pub returns-in_err-write_fault-clause-err : goal.returns-in_err-write_fault-clause-err
returns-in_err-write_fault-clause-err g c =
    on_err c.from_residual-in_err-write_fault.result
    (g.met.E.Sink.front_behind c.args.err.now c.write_words.new.err c.write_fault.new.err
    (codes "localise: ") ((fault_text c.args.status.now) ++ ((10 ∷ [])))
    c.in_ok-write_words.ensures.ok
    (g.met.E.Sink.front_longer c.write_words.new.err c.write_fault.new.err
    (fault_text c.args.status.now) ((10 ∷ []))
    c.in_err-write_fault.ensures.err))

pub returns-in_err-push_char-clause-err : goal.returns-in_err-push_char-clause-err
returns-in_err-push_char-clause-err g c =
    on_err c.from_residual-in_err-push_char.result
    (g.met.E.Sink.front_behind c.args.err.now c.write_words.new.err c.push_char.new.self
    (codes "localise: ") ((fault_text c.args.status.now) ++ ((10 ∷ [])))
    c.in_ok-write_words.ensures.ok
    (g.met.E.Sink.front_behind c.write_words.new.err c.write_fault.new.err c.push_char.new.self
    (fault_text c.args.status.now) ((10 ∷ []))
    c.in_ok-write_fault.ensures.ok
    c.in_err-push_char.ensures.err))

pub returns-clause-ok : goal.returns-clause-ok
returns-clause-ok g c =
    g.met.E.Sink.took_both c.args.err.now c.write_words.new.err c.push_char.new.self
    (codes "localise: ") ((fault_text c.args.status.now) ++ ((10 ∷ [])))
    c.in_ok-write_words.ensures.ok
    (g.met.E.Sink.took_both c.write_words.new.err c.write_fault.new.err c.push_char.new.self
    (fault_text c.args.status.now) ((10 ∷ []))
    c.in_ok-write_fault.ensures.ok
    c.in_ok-push_char.ensures.ok)
