-- The words of a cause, and its text.
use Rattle.std.proofs.Common.{ℕ, List, OnOk, OnErr, subst}
use Rattle.writeable_core.specs.Sink.{TookPrefix}
use Rattle.localise_status.proofs.Texts.{request_loops, request_tag}
use Rattle.localise_status.proofs.fault_line.write_request.Goals as goal

pub returns-in-Tag-clause-ok : goal.returns-in-Tag-clause-ok
returns-in-Tag-clause-ok g c =
    subst
    (λ (t : List ℕ). OnOk c.write_numbered.result
    (g.E.Sink.took c.args.err.now t c.write_numbered.new.err))
    (request_tag c.args.i _ _ _ c.in-Tag.is c.text.ensures)
    c.write_numbered.ensures.ok

pub returns-in-Tag-clause-err : goal.returns-in-Tag-clause-err
returns-in-Tag-clause-err g c =
    subst
    (λ (t : List ℕ). OnErr c.write_numbered.result
    (TookPrefix g.E.Sink.took c.args.err.now t c.write_numbered.new.err))
    (request_tag c.args.i _ _ _ c.in-Tag.is c.text.ensures)
    c.write_numbered.ensures.err

pub returns-in-ChainLoops-clause-ok : goal.returns-in-ChainLoops-clause-ok
returns-in-ChainLoops-clause-ok g c =
    subst
    (λ (t : List ℕ). OnOk c.write_numbered-in-ChainLoops.result
    (g.E.Sink.took c.args.err.now t c.write_numbered-in-ChainLoops.new.err))
    (request_loops c.args.i _ c.in-ChainLoops.is)
    c.write_numbered-in-ChainLoops.ensures.ok

pub returns-in-ChainLoops-clause-err : goal.returns-in-ChainLoops-clause-err
returns-in-ChainLoops-clause-err g c =
    subst
    (λ (t : List ℕ). OnErr c.write_numbered-in-ChainLoops.result
    (TookPrefix g.E.Sink.took c.args.err.now t c.write_numbered-in-ChainLoops.new.err))
    (request_loops c.args.i _ c.in-ChainLoops.is)
    c.write_numbered-in-ChainLoops.ensures.err
