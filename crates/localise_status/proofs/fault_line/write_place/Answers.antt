-- The names in characters.
use Rattle.std.proofs.Common.{ℕ, List, ◌++◌, OnOk, OnErr, codes, ap₂, subst}
use Rattle.writeable_core.specs.Sink.{TookPrefix}
use Rattle.localise_status.specs.FaultLines.{placed_text}
use Rattle.localise_status.proofs.Texts.{field_ascii, said, section_ascii}
use Rattle.localise_status.proofs.fault_line.write_place.Goals as goal

pub returns-clause-ok : goal.returns-clause-ok
returns-clause-ok g c =
    subst
    (λ (t : List ℕ). OnOk c.write_placed.result
    (g.E.Sink.took c.args.err.now t c.write_placed.new.err))
    (ap₂ (λ s f. codes "wrong shape: " ++ placed_text s c.args.place.now.index f)
    (said _ _ c.name-section.ensures (section_ascii _))
    (said _ _ c.name-field.ensures (field_ascii _)))
    c.write_placed.ensures.ok

pub returns-clause-err : goal.returns-clause-err
returns-clause-err g c =
    subst
    (λ (t : List ℕ). OnErr c.write_placed.result
    (TookPrefix g.E.Sink.took c.args.err.now t c.write_placed.new.err))
    (ap₂ (λ s f. codes "wrong shape: " ++ placed_text s c.args.place.now.index f)
    (said _ _ c.name-section.ensures (section_ascii _))
    (said _ _ c.name-field.ensures (field_ascii _)))
    c.write_placed.ensures.err
