-- A number and a text, piece by piece.
use Rattle.std.proofs.Common.{[], ◌∷◌, ◌++◌, codes}
use Rattle.std.specs.Fmt.{decimal}
use Rattle.std.specs.Str.{chars}
use Rattle.writeable_core.specs.SinkLaws.{on_err}
use Rattle.localise_status.proofs.fault_line.write_numbered.Goals as goal

pub returns-in_err-push_str-clause-err : goal.returns-in_err-push_str-clause-err
returns-in_err-push_str-clause-err g c =
    on_err c.from_residual.result
    (g.met.E.Sink.front_longer c.args.err.now c.push_str.new.self (chars c.args.what.now)
    ((32 ∷ [])
    ++ ((decimal c.args.i)
    ++ ((codes ": ") ++ ((chars c.args.part.now ++ chars c.args.words.now)))))
    c.in_err-push_str.ensures.err)

pub returns-in_err-push_char-clause-err : goal.returns-in_err-push_char-clause-err
returns-in_err-push_char-clause-err g c =
    on_err c.from_residual-in_err-push_char.result
    (g.met.E.Sink.front_behind c.args.err.now c.push_str.new.self c.push_char.new.self
    (chars c.args.what.now)
    ((32 ∷ [])
    ++ ((decimal c.args.i)
    ++ ((codes ": ") ++ ((chars c.args.part.now ++ chars c.args.words.now)))))
    c.in_ok-push_str.ensures.ok
    (g.met.E.Sink.front_longer c.push_str.new.self c.push_char.new.self (32 ∷ [])
    ((decimal c.args.i)
    ++ ((codes ": ") ++ ((chars c.args.part.now ++ chars c.args.words.now))))
    c.in_err-push_char.ensures.err))

pub returns-in_err-write_to-clause-err : goal.returns-in_err-write_to-clause-err
returns-in_err-write_to-clause-err g c =
    on_err c.from_residual-in_err-write_to.result
    (g.met.E.Sink.front_behind c.args.err.now c.push_str.new.self c.write_to.new.sink
    (chars c.args.what.now)
    ((32 ∷ [])
    ++ ((decimal c.args.i)
    ++ ((codes ": ") ++ ((chars c.args.part.now ++ chars c.args.words.now)))))
    c.in_ok-push_str.ensures.ok
    (g.met.E.Sink.front_behind c.push_str.new.self c.push_char.new.self c.write_to.new.sink
    (32 ∷ [])
    ((decimal c.args.i)
    ++ ((codes ": ") ++ ((chars c.args.part.now ++ chars c.args.words.now))))
    c.in_ok-push_char.ensures.ok
    (g.met.E.Sink.front_longer c.push_char.new.self c.write_to.new.sink (decimal c.args.i)
    ((codes ": ") ++ ((chars c.args.part.now ++ chars c.args.words.now)))
    c.in_err-write_to.ensures.err)))

pub returns-in_err-write_words-clause-err : goal.returns-in_err-write_words-clause-err
returns-in_err-write_words-clause-err g c =
    on_err c.from_residual-in_err-write_words.result
    (g.met.E.Sink.front_behind c.args.err.now c.push_str.new.self c.write_words.new.err
    (chars c.args.what.now)
    ((32 ∷ [])
    ++ ((decimal c.args.i)
    ++ ((codes ": ") ++ ((chars c.args.part.now ++ chars c.args.words.now)))))
    c.in_ok-push_str.ensures.ok
    (g.met.E.Sink.front_behind c.push_str.new.self c.push_char.new.self c.write_words.new.err
    (32 ∷ [])
    ((decimal c.args.i)
    ++ ((codes ": ") ++ ((chars c.args.part.now ++ chars c.args.words.now))))
    c.in_ok-push_char.ensures.ok
    (g.met.E.Sink.front_behind c.push_char.new.self c.write_to.new.sink c.write_words.new.err
    (decimal c.args.i) ((codes ": ") ++ ((chars c.args.part.now ++ chars c.args.words.now)))
    c.in_ok-write_to.ensures.ok
    (g.met.E.Sink.front_longer c.write_to.new.sink c.write_words.new.err (codes ": ")
    ((chars c.args.part.now ++ chars c.args.words.now))
    c.in_err-write_words.ensures.err))))

pub returns-in_err-write_behind-clause-err : goal.returns-in_err-write_behind-clause-err
returns-in_err-write_behind-clause-err g c =
    on_err c.from_residual-in_err-write_behind.result
    (g.met.E.Sink.front_behind c.args.err.now c.push_str.new.self c.write_behind.new.err
    (chars c.args.what.now)
    ((32 ∷ [])
    ++ ((decimal c.args.i)
    ++ ((codes ": ") ++ ((chars c.args.part.now ++ chars c.args.words.now)))))
    c.in_ok-push_str.ensures.ok
    (g.met.E.Sink.front_behind c.push_str.new.self c.push_char.new.self c.write_behind.new.err
    (32 ∷ [])
    ((decimal c.args.i)
    ++ ((codes ": ") ++ ((chars c.args.part.now ++ chars c.args.words.now))))
    c.in_ok-push_char.ensures.ok
    (g.met.E.Sink.front_behind c.push_char.new.self c.write_to.new.sink c.write_behind.new.err
    (decimal c.args.i) ((codes ": ") ++ ((chars c.args.part.now ++ chars c.args.words.now)))
    c.in_ok-write_to.ensures.ok
    (g.met.E.Sink.front_behind c.write_to.new.sink c.write_words.new.err c.write_behind.new.err
    (codes ": ") ((chars c.args.part.now ++ chars c.args.words.now))
    c.in_ok-write_words.ensures.ok
    c.in_err-write_behind.ensures.err))))

pub returns-clause-ok : goal.returns-clause-ok
returns-clause-ok g c =
    g.met.E.Sink.took_both c.args.err.now c.push_str.new.self c.write_behind.new.err
    (chars c.args.what.now)
    ((32 ∷ [])
    ++ ((decimal c.args.i)
    ++ ((codes ": ") ++ ((chars c.args.part.now ++ chars c.args.words.now)))))
    c.in_ok-push_str.ensures.ok
    (g.met.E.Sink.took_both c.push_str.new.self c.push_char.new.self c.write_behind.new.err
    (32 ∷ [])
    ((decimal c.args.i)
    ++ ((codes ": ") ++ ((chars c.args.part.now ++ chars c.args.words.now))))
    c.in_ok-push_char.ensures.ok
    (g.met.E.Sink.took_both c.push_char.new.self c.write_to.new.sink c.write_behind.new.err
    (decimal c.args.i) ((codes ": ") ++ ((chars c.args.part.now ++ chars c.args.words.now)))
    c.in_ok-write_to.ensures.ok
    (g.met.E.Sink.took_both c.write_to.new.sink c.write_words.new.err c.write_behind.new.err
    (codes ": ") ((chars c.args.part.now ++ chars c.args.words.now))
    c.in_ok-write_words.ensures.ok
    c.in_ok-write_behind.ensures.ok)))
