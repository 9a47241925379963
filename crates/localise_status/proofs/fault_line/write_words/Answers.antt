-- The characters of words in ASCII are their bytes.
use Rattle.std.proofs.Common.{ℕ, List, OnOk, OnErr, subst}
use Rattle.writeable_core.specs.Sink.{TookPrefix}
use Rattle.localise_status.proofs.Texts.{plain}
use Rattle.localise_status.proofs.fault_line.write_words.Goals as goal

pub returns-clause-ok : goal.returns-clause-ok
returns-clause-ok g c =
    subst
    (λ (t : List ℕ). OnOk c.push_str.result
    (g.E.Sink.took c.args.err.now t c.push_str.new.self))
    (plain c.args.words.now c.requires)
    c.push_str.ensures.ok

pub returns-clause-err : goal.returns-clause-err
returns-clause-err g c =
    subst
    (λ (t : List ℕ). OnErr c.push_str.result
    (TookPrefix g.E.Sink.took c.args.err.now t c.push_str.new.self))
    (plain c.args.words.now c.requires)
    c.push_str.ensures.err
