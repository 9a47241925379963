-- A row, piece by piece.
use Rattle.std.proofs.Common.{◌++◌, codes}
use Rattle.std.specs.Fmt.{decimal}
use Rattle.std.specs.Str.{chars}
use Rattle.writeable_core.specs.SinkLaws.{on_err}
use Rattle.localise_status.proofs.fault_line.write_row.Goals as goal

pub returns-in_err-write_words-clause-err : goal.returns-in_err-write_words-clause-err
returns-in_err-write_words-clause-err g c =
    on_err c.from_residual.result
    (g.met.E.Sink.front_longer c.args.err.now c.write_words.new.err (codes "table ")
    ((chars c.args.name.now)
    ++ ((codes " row ")
    ++ ((decimal c.args.row) ++ ((codes ": ") ++ ((chars c.args.words.now))))))
    c.in_err-write_words.ensures.err)

pub returns-in_err-push_str-clause-err : goal.returns-in_err-push_str-clause-err
returns-in_err-push_str-clause-err g c =
    on_err c.from_residual-in_err-push_str.result
    (g.met.E.Sink.front_behind c.args.err.now c.write_words.new.err c.push_str.new.self
    (codes "table ")
    ((chars c.args.name.now)
    ++ ((codes " row ")
    ++ ((decimal c.args.row) ++ ((codes ": ") ++ ((chars c.args.words.now))))))
    c.in_ok-write_words.ensures.ok
    (g.met.E.Sink.front_longer c.write_words.new.err c.push_str.new.self (chars c.args.name.now)
    ((codes " row ") ++ ((decimal c.args.row) ++ ((codes ": ") ++ ((chars c.args.words.now)))))
    c.in_err-push_str.ensures.err))

pub returns-in_err-write_words-2-clause-err : goal.returns-in_err-write_words-2-clause-err
returns-in_err-write_words-2-clause-err g c =
    on_err c.from_residual-in_err-write_words-2.result
    (g.met.E.Sink.front_behind c.args.err.now c.write_words.new.err c.write_words-2.new.err
    (codes "table ")
    ((chars c.args.name.now)
    ++ ((codes " row ")
    ++ ((decimal c.args.row) ++ ((codes ": ") ++ ((chars c.args.words.now))))))
    c.in_ok-write_words.ensures.ok
    (g.met.E.Sink.front_behind c.write_words.new.err c.push_str.new.self c.write_words-2.new.err
    (chars c.args.name.now)
    ((codes " row ") ++ ((decimal c.args.row) ++ ((codes ": ") ++ ((chars c.args.words.now)))))
    c.in_ok-push_str.ensures.ok
    (g.met.E.Sink.front_longer c.push_str.new.self c.write_words-2.new.err (codes " row ")
    ((decimal c.args.row) ++ ((codes ": ") ++ ((chars c.args.words.now))))
    c.in_err-write_words-2.ensures.err)))

pub returns-in_err-write_to-clause-err : goal.returns-in_err-write_to-clause-err
returns-in_err-write_to-clause-err g c =
    on_err c.from_residual-in_err-write_to.result
    (g.met.E.Sink.front_behind c.args.err.now c.write_words.new.err c.write_to.new.sink
    (codes "table ")
    ((chars c.args.name.now)
    ++ ((codes " row ")
    ++ ((decimal c.args.row) ++ ((codes ": ") ++ ((chars c.args.words.now))))))
    c.in_ok-write_words.ensures.ok
    (g.met.E.Sink.front_behind c.write_words.new.err c.push_str.new.self c.write_to.new.sink
    (chars c.args.name.now)
    ((codes " row ") ++ ((decimal c.args.row) ++ ((codes ": ") ++ ((chars c.args.words.now)))))
    c.in_ok-push_str.ensures.ok
    (g.met.E.Sink.front_behind c.push_str.new.self c.write_words-2.new.err c.write_to.new.sink
    (codes " row ") ((decimal c.args.row) ++ ((codes ": ") ++ ((chars c.args.words.now))))
    c.in_ok-write_words-2.ensures.ok
    (g.met.E.Sink.front_longer c.write_words-2.new.err c.write_to.new.sink (decimal c.args.row)
    ((codes ": ") ++ ((chars c.args.words.now)))
    c.in_err-write_to.ensures.err))))

pub returns-in_err-write_words-3-clause-err : goal.returns-in_err-write_words-3-clause-err
returns-in_err-write_words-3-clause-err g c =
    on_err c.from_residual-in_err-write_words-3.result
    (g.met.E.Sink.front_behind c.args.err.now c.write_words.new.err c.write_words-3.new.err
    (codes "table ")
    ((chars c.args.name.now)
    ++ ((codes " row ")
    ++ ((decimal c.args.row) ++ ((codes ": ") ++ ((chars c.args.words.now))))))
    c.in_ok-write_words.ensures.ok
    (g.met.E.Sink.front_behind c.write_words.new.err c.push_str.new.self c.write_words-3.new.err
    (chars c.args.name.now)
    ((codes " row ") ++ ((decimal c.args.row) ++ ((codes ": ") ++ ((chars c.args.words.now)))))
    c.in_ok-push_str.ensures.ok
    (g.met.E.Sink.front_behind c.push_str.new.self c.write_words-2.new.err c.write_words-3.new.err
    (codes " row ") ((decimal c.args.row) ++ ((codes ": ") ++ ((chars c.args.words.now))))
    c.in_ok-write_words-2.ensures.ok
    (g.met.E.Sink.front_behind c.write_words-2.new.err c.write_to.new.sink c.write_words-3.new.err
    (decimal c.args.row) ((codes ": ") ++ ((chars c.args.words.now)))
    c.in_ok-write_to.ensures.ok
    (g.met.E.Sink.front_longer c.write_to.new.sink c.write_words-3.new.err (codes ": ")
    ((chars c.args.words.now))
    c.in_err-write_words-3.ensures.err)))))

pub returns-in_err-push_str-2-clause-err : goal.returns-in_err-push_str-2-clause-err
returns-in_err-push_str-2-clause-err g c =
    on_err c.from_residual-in_err-push_str-2.result
    (g.met.E.Sink.front_behind c.args.err.now c.write_words.new.err c.push_str-2.new.self
    (codes "table ")
    ((chars c.args.name.now)
    ++ ((codes " row ")
    ++ ((decimal c.args.row) ++ ((codes ": ") ++ ((chars c.args.words.now))))))
    c.in_ok-write_words.ensures.ok
    (g.met.E.Sink.front_behind c.write_words.new.err c.push_str.new.self c.push_str-2.new.self
    (chars c.args.name.now)
    ((codes " row ") ++ ((decimal c.args.row) ++ ((codes ": ") ++ ((chars c.args.words.now)))))
    c.in_ok-push_str.ensures.ok
    (g.met.E.Sink.front_behind c.push_str.new.self c.write_words-2.new.err c.push_str-2.new.self
    (codes " row ") ((decimal c.args.row) ++ ((codes ": ") ++ ((chars c.args.words.now))))
    c.in_ok-write_words-2.ensures.ok
    (g.met.E.Sink.front_behind c.write_words-2.new.err c.write_to.new.sink c.push_str-2.new.self
    (decimal c.args.row) ((codes ": ") ++ ((chars c.args.words.now)))
    c.in_ok-write_to.ensures.ok
    (g.met.E.Sink.front_behind c.write_to.new.sink c.write_words-3.new.err c.push_str-2.new.self
    (codes ": ") ((chars c.args.words.now))
    c.in_ok-write_words-3.ensures.ok
    c.in_err-push_str-2.ensures.err)))))

pub returns-clause-ok : goal.returns-clause-ok
returns-clause-ok g c =
    g.met.E.Sink.took_both c.args.err.now c.write_words.new.err c.push_str-2.new.self
    (codes "table ")
    ((chars c.args.name.now)
    ++ ((codes " row ")
    ++ ((decimal c.args.row) ++ ((codes ": ") ++ ((chars c.args.words.now))))))
    c.in_ok-write_words.ensures.ok
    (g.met.E.Sink.took_both c.write_words.new.err c.push_str.new.self c.push_str-2.new.self
    (chars c.args.name.now)
    ((codes " row ") ++ ((decimal c.args.row) ++ ((codes ": ") ++ ((chars c.args.words.now)))))
    c.in_ok-push_str.ensures.ok
    (g.met.E.Sink.took_both c.push_str.new.self c.write_words-2.new.err c.push_str-2.new.self
    (codes " row ") ((decimal c.args.row) ++ ((codes ": ") ++ ((chars c.args.words.now))))
    c.in_ok-write_words-2.ensures.ok
    (g.met.E.Sink.took_both c.write_words-2.new.err c.write_to.new.sink c.push_str-2.new.self
    (decimal c.args.row) ((codes ": ") ++ ((chars c.args.words.now)))
    c.in_ok-write_to.ensures.ok
    (g.met.E.Sink.took_both c.write_to.new.sink c.write_words-3.new.err c.push_str-2.new.self
    (codes ": ") ((chars c.args.words.now))
    c.in_ok-write_words-3.ensures.ok
    c.in_ok-push_str-2.ensures.ok))))
