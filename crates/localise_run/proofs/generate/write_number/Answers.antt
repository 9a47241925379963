-- A word, a number and a line feed, or a front of them.
use Rattle.std.proofs.Common.{◌++◌, ◌∷◌, [], List, ℕ, subst}
use Rattle.writeable_core.specs.Sink.{TookPrefix}
use Rattle.writeable_core.specs.SinkLaws.{on_err}
use Rattle.localise_run.proofs.Ascii.{plain}
use Rattle.localise_run.proofs.generate.write_number.Goals as goal

pub returns-in_err-push_str-clause-err : goal.returns-in_err-push_str-clause-err
returns-in_err-push_str-clause-err g c =
    on_err c.from_residual.result
    (g.met.O.Sink.front_longer c.args.out.now c.push_str.new.self c.args.word.now
    (g.N.Writeable.text c.args.number.now ++ 10 ∷ [])
    (subst (λ (t : List ℕ). TookPrefix g.O.Sink.took c.args.out.now t c.push_str.new.self)
    (plain c.args.word.now c.requires) c.in_err-push_str.ensures.err))

pub returns-in_err-write_to-clause-err : goal.returns-in_err-write_to-clause-err
returns-in_err-write_to-clause-err g c =
    on_err c.from_residual-in_err-write_to.result
    (g.met.O.Sink.front_behind c.args.out.now c.push_str.new.self c.write_to.new.sink
    c.args.word.now
    (g.N.Writeable.text c.args.number.now ++ 10 ∷ [])
    (subst (λ (t : List ℕ). g.O.Sink.took c.args.out.now t c.push_str.new.self)
    (plain c.args.word.now c.requires) c.in_ok-push_str.ensures.ok)
    (g.met.O.Sink.front_longer c.push_str.new.self c.write_to.new.sink
    (g.N.Writeable.text c.args.number.now) (10 ∷ [])
    c.in_err-write_to.ensures.err))

pub returns-in_err-push_char-clause-err : goal.returns-in_err-push_char-clause-err
returns-in_err-push_char-clause-err g c =
    on_err c.from_residual-in_err-push_char.result
    (g.met.O.Sink.front_behind c.args.out.now c.push_str.new.self c.push_char.new.self
    c.args.word.now
    (g.N.Writeable.text c.args.number.now ++ 10 ∷ [])
    (subst (λ (t : List ℕ). g.O.Sink.took c.args.out.now t c.push_str.new.self)
    (plain c.args.word.now c.requires) c.in_ok-push_str.ensures.ok)
    (g.met.O.Sink.front_behind c.push_str.new.self c.write_to.new.sink c.push_char.new.self
    (g.N.Writeable.text c.args.number.now) (10 ∷ [])
    c.in_ok-write_to.ensures.ok c.in_err-push_char.ensures.err))

pub returns-clause-ok : goal.returns-clause-ok
returns-clause-ok g c =
    g.met.O.Sink.took_both c.args.out.now c.push_str.new.self c.push_char.new.self c.args.word.now
    (g.N.Writeable.text c.args.number.now ++ 10 ∷ [])
    (subst (λ (t : List ℕ). g.O.Sink.took c.args.out.now t c.push_str.new.self)
    (plain c.args.word.now c.requires) c.in_ok-push_str.ensures.ok)
    (g.met.O.Sink.took_both c.push_str.new.self c.write_to.new.sink c.push_char.new.self
    (g.N.Writeable.text c.args.number.now) (10 ∷ [])
    c.in_ok-write_to.ensures.ok c.in_ok-push_char.ensures.ok)
