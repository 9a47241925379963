-- A space, and then the locale's text or a front of it.
use Rattle.std.proofs.Common.{◌∷◌, []}
use Rattle.std.specs.Str.{byte}
use Rattle.icu_locale_core.specs.Locale.{print}
use Rattle.writeable_core.specs.SinkLaws.{on_err}
use Rattle.fallback_chain.proofs.writing.write_behind_space.Goals as goal

pub returns-in_err-push_char-clause-err : goal.returns-in_err-push_char-clause-err
returns-in_err-push_char-clause-err g c =
    on_err c.from_residual.result
    (g.met.S.Sink.front_longer c.args.sink.now c.push_char.new.self (byte " " ∷ [])
    (print c.args.locale.now)
    c.in_err-push_char.ensures.err)

pub returns-in_err-write_to-clause-err : goal.returns-in_err-write_to-clause-err
returns-in_err-write_to-clause-err g c =
    on_err c.from_residual-in_err-write_to.result
    (g.met.S.Sink.front_behind c.args.sink.now c.push_char.new.self c.write_to.new.sink
    (byte " " ∷ []) (print c.args.locale.now)
    c.in_ok-push_char.ensures.ok c.in_err-write_to.ensures.err)

pub returns-clause-ok : goal.returns-clause-ok
returns-clause-ok g c =
    g.met.S.Sink.took_both c.args.sink.now c.push_char.new.self c.write_to.new.sink (byte " " ∷ [])
    (print c.args.locale.now)
    c.in_ok-push_char.ensures.ok c.in_ok-write_to.ensures.ok
