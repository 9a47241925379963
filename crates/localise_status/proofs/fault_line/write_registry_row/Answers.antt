-- The name of a table in characters.
use Rattle.std.proofs.Common.{ℕ, List, OnOk, OnErr, ap, subst}
use Rattle.std.specs.Str.{chars}
use Rattle.writeable_core.specs.Sink.{TookPrefix}
use Rattle.localise_status.proofs.Texts.{field_ascii, said}
use Rattle.localise_document.specs.declared.place.Field.TheVariants.{RegistryTable}
use Rattle.localise_status.specs.FaultLines.{row_text}
use Rattle.localise_status.proofs.fault_line.write_registry_row.Goals as goal

pub returns-clause-ok : goal.returns-clause-ok
returns-clause-ok g c =
    subst
    (λ (t : List ℕ). OnOk c.write_row.result
    (g.E.Sink.took c.args.err.now t c.write_row.new.err))
    (ap (λ name. row_text name c.args.row (chars c.args.words.now))
    (said _ _ c.name-name.ensures (field_ascii (RegistryTable c.args.table))))
    c.write_row.ensures.ok

pub returns-clause-err : goal.returns-clause-err
returns-clause-err g c =
    subst
    (λ (t : List ℕ). OnErr c.write_row.result
    (TookPrefix g.E.Sink.took c.args.err.now t c.write_row.new.err))
    (ap (λ name. row_text name c.args.row (chars c.args.words.now))
    (said _ _ c.name-name.ensures (field_ascii (RegistryTable c.args.table))))
    c.write_row.ensures.err
