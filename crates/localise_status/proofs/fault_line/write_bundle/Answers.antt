-- The words of a cause, and its text.
use Rattle.std.proofs.Common.{ℕ, List, OnOk, OnErr, subst}
use Rattle.writeable_core.specs.Sink.{TookPrefix}
use Rattle.localise_status.proofs.Texts.{bundle_catalog, bundle_list, bundle_tag}
use Rattle.localise_status.proofs.fault_line.write_bundle.Goals as goal

pub returns-in-Tag-clause-ok : goal.returns-in-Tag-clause-ok
returns-in-Tag-clause-ok g c =
    subst
    (λ (t : List ℕ). OnOk c.write_numbered.result
    (g.E.Sink.took c.args.err.now t c.write_numbered.new.err))
    (bundle_tag c.args.i _ _ _ c.in-Tag.is c.text.ensures)
    c.write_numbered.ensures.ok

pub returns-in-Tag-clause-err : goal.returns-in-Tag-clause-err
returns-in-Tag-clause-err g c =
    subst
    (λ (t : List ℕ). OnErr c.write_numbered.result
    (TookPrefix g.E.Sink.took c.args.err.now t c.write_numbered.new.err))
    (bundle_tag c.args.i _ _ _ c.in-Tag.is c.text.ensures)
    c.write_numbered.ensures.err

pub returns-in-Mo-clause-ok : goal.returns-in-Mo-clause-ok
returns-in-Mo-clause-ok g c =
    subst
    (λ (t : List ℕ). OnOk c.write_numbered-in-Mo.result
    (g.E.Sink.took c.args.err.now t c.write_numbered-in-Mo.new.err))
    (bundle_catalog c.args.i _ _ _ c.in-Mo.is c.text-in-Mo.ensures)
    c.write_numbered-in-Mo.ensures.ok

pub returns-in-Mo-clause-err : goal.returns-in-Mo-clause-err
returns-in-Mo-clause-err g c =
    subst
    (λ (t : List ℕ). OnErr c.write_numbered-in-Mo.result
    (TookPrefix g.E.Sink.took c.args.err.now t c.write_numbered-in-Mo.new.err))
    (bundle_catalog c.args.i _ _ _ c.in-Mo.is c.text-in-Mo.ensures)
    c.write_numbered-in-Mo.ensures.err

pub returns-in-List-clause-ok : goal.returns-in-List-clause-ok
returns-in-List-clause-ok g c =
    subst
    (λ (t : List ℕ). OnOk c.write_numbered-in-List.result
    (g.E.Sink.took c.args.err.now t c.write_numbered-in-List.new.err))
    (bundle_list c.args.i _ _ _ c.in-List.is c.text-in-List.ensures)
    c.write_numbered-in-List.ensures.ok

pub returns-in-List-clause-err : goal.returns-in-List-clause-err
returns-in-List-clause-err g c =
    subst
    (λ (t : List ℕ). OnErr c.write_numbered-in-List.result
    (TookPrefix g.E.Sink.took c.args.err.now t c.write_numbered-in-List.new.err))
    (bundle_list c.args.i _ _ _ c.in-List.is c.text-in-List.ensures)
    c.write_numbered-in-List.ensures.err
