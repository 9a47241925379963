-- The words in characters.
use Rattle.std.proofs.Common.{ℕ, List, ◌++◌, OnOk, OnErr, codes, refl, ap₂, subst}
use Rattle.writeable_core.specs.Sink.{TookPrefix}
use Rattle.localise_status.proofs.Texts.{list_ascii, plain, said}
use Rattle.localise_status.proofs.fault_line.write_root.Goals as goal

pub returns-clause-ok : goal.returns-clause-ok
returns-clause-ok g c =
    subst
    (λ (t : List ℕ). OnOk c.write_behind.result
    (g.E.Sink.took c.args.err.now t c.write_behind.new.err))
    (ap₂ (λ a b. a ++ b) (plain (codes "root patterns: ") refl)
    (said _ _ c.text.ensures (list_ascii _)))
    c.write_behind.ensures.ok

pub returns-clause-err : goal.returns-clause-err
returns-clause-err g c =
    subst
    (λ (t : List ℕ). OnErr c.write_behind.result
    (TookPrefix g.E.Sink.took c.args.err.now t c.write_behind.new.err))
    (ap₂ (λ a b. a ++ b) (plain (codes "root patterns: ") refl)
    (said _ _ c.text.ensures (list_ascii _)))
    c.write_behind.ensures.err
