-- The document's answer is the bytes', or they are none.
use Rattle.std.proofs.Common.{sym, subst}
use Rattle.localise_run.proofs.Runs.{document_fails, document_gives}
use Rattle.localise_run.specs.Answers.{Says, SaysFirst}
use Rattle.localise_run.specs.Run.{Gives, written}
use Rattle.localise_status.specs.declared.status.Status.{Status}
use Rattle.localise_run.proofs.running.run_over.Goals as goal

pub returns-in-Ok : goal.returns-in-Ok
returns-in-Ok g c =
    document_gives g.O.Sink.took g.O.Sink.faults g.O.Sink.takes_memory c.args.command
    c.args.bytes.items c.args.out.now c.run_document.new.out
    c.in-Ok.document c.run_document.result c.requires c.in-Ok.ensures.ok c.run_document.ensures

pub returns-in-Err : goal.returns-in-Err
returns-in-Err g c =
    subst
    (λ (s : Status). Gives g.O.Sink.took (Says c.args.command c.args.bytes.items)
    (SaysFirst c.args.command c.args.bytes.items)
    (written g.O.Sink.faults g.O.Sink.takes_memory c.args.out.now c.args.out.now) s)
    (sym c.of_document.ensures)
    (document_fails g.O.Sink.took g.O.Sink.faults g.O.Sink.takes_memory c.args.command
    c.args.bytes.items c.args.out.now c.in-Err.error c.requires c.in-Err.ensures.err)
