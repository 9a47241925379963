-- The words of a row, and its text.
use Rattle.std.proofs.Common.{ℕ, List, OnOk, OnErr, refl, subst}
use Rattle.writeable_core.specs.Sink.{TookPrefix}
use Rattle.localise_status.proofs.Texts.{registry_memory, registry_row}
use Rattle.localise_status.proofs.fault_line.write_registry.Goals as goal

pub returns-in-DuplicateKey-clause-ok : goal.returns-in-DuplicateKey-clause-ok
returns-in-DuplicateKey-clause-ok g c =
    subst
    (λ (t : List ℕ). OnOk c.write_registry_row.result
    (g.E.Sink.took c.args.err.now t c.write_registry_row.new.err))
    (registry_row _ _ _ _ _ c.in-DuplicateKey.is c.text-words.ensures refl)
    c.write_registry_row.ensures.ok

pub returns-in-DuplicateKey-clause-err : goal.returns-in-DuplicateKey-clause-err
returns-in-DuplicateKey-clause-err g c =
    subst
    (λ (t : List ℕ). OnErr c.write_registry_row.result
    (TookPrefix g.E.Sink.took c.args.err.now t c.write_registry_row.new.err))
    (registry_row _ _ _ _ _ c.in-DuplicateKey.is c.text-words.ensures refl)
    c.write_registry_row.ensures.err

pub returns-in-BadKey-clause-ok : goal.returns-in-BadKey-clause-ok
returns-in-BadKey-clause-ok g c =
    subst
    (λ (t : List ℕ). OnOk c.write_registry_row-in-BadKey.result
    (g.E.Sink.took c.args.err.now t c.write_registry_row-in-BadKey.new.err))
    (registry_row _ _ _ _ _ c.in-BadKey.is c.text-words.ensures refl)
    c.write_registry_row-in-BadKey.ensures.ok

pub returns-in-BadKey-clause-err : goal.returns-in-BadKey-clause-err
returns-in-BadKey-clause-err g c =
    subst
    (λ (t : List ℕ). OnErr c.write_registry_row-in-BadKey.result
    (TookPrefix g.E.Sink.took c.args.err.now t c.write_registry_row-in-BadKey.new.err))
    (registry_row _ _ _ _ _ c.in-BadKey.is c.text-words.ensures refl)
    c.write_registry_row-in-BadKey.ensures.err

pub returns-in-BadValue-clause-ok : goal.returns-in-BadValue-clause-ok
returns-in-BadValue-clause-ok g c =
    subst
    (λ (t : List ℕ). OnOk c.write_registry_row-in-BadValue.result
    (g.E.Sink.took c.args.err.now t c.write_registry_row-in-BadValue.new.err))
    (registry_row _ _ _ _ _ c.in-BadValue.is c.text-words.ensures refl)
    c.write_registry_row-in-BadValue.ensures.ok

pub returns-in-BadValue-clause-err : goal.returns-in-BadValue-clause-err
returns-in-BadValue-clause-err g c =
    subst
    (λ (t : List ℕ). OnErr c.write_registry_row-in-BadValue.result
    (TookPrefix g.E.Sink.took c.args.err.now t c.write_registry_row-in-BadValue.new.err))
    (registry_row _ _ _ _ _ c.in-BadValue.is c.text-words.ensures refl)
    c.write_registry_row-in-BadValue.ensures.err

pub returns-in-NoMemory-clause-ok : goal.returns-in-NoMemory-clause-ok
returns-in-NoMemory-clause-ok g c =
    subst
    (λ (t : List ℕ). OnOk c.push_str.result
    (g.E.Sink.took c.args.err.now t c.push_str.new.self))
    (registry_memory _ _ c.in-NoMemory.is c.text-words.ensures)
    c.push_str.ensures.ok

pub returns-in-NoMemory-clause-err : goal.returns-in-NoMemory-clause-err
returns-in-NoMemory-clause-err g c =
    subst
    (λ (t : List ℕ). OnErr c.push_str.result
    (TookPrefix g.E.Sink.took c.args.err.now t c.push_str.new.self))
    (registry_memory _ _ c.in-NoMemory.is c.text-words.ensures)
    c.push_str.ensures.err
