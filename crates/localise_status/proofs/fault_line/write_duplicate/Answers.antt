-- The words in characters.
use Rattle.std.proofs.Common.{ℕ, List, OnOk, OnErr, codes, refl, subst}
use Rattle.writeable_core.specs.Sink.{TookPrefix}
use Rattle.localise_status.proofs.Texts.{numbered}
use Rattle.localise_status.proofs.fault_line.write_duplicate.Goals as goal

pub returns-clause-ok : goal.returns-clause-ok
returns-clause-ok g c =
    subst
    (λ (t : List ℕ). OnOk c.write_numbered.result
    (g.E.Sink.took c.args.err.now t c.write_numbered.new.err))
    (numbered c.args.i (codes "bundle") (codes "")
    (codes "locale of an earlier bundle") _ refl refl refl refl)
    c.write_numbered.ensures.ok

pub returns-clause-err : goal.returns-clause-err
returns-clause-err g c =
    subst
    (λ (t : List ℕ). OnErr c.write_numbered.result
    (TookPrefix g.E.Sink.took c.args.err.now t c.write_numbered.new.err))
    (numbered c.args.i (codes "bundle") (codes "")
    (codes "locale of an earlier bundle") _ refl refl refl refl)
    c.write_numbered.ensures.err
