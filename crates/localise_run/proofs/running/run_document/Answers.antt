-- A row of the tables is faulty, or memory ran out.
use Rattle.std.proofs.Common.{◌≡◌, ap}
use Rattle.localise_document.specs.Contents.{Contents, fallback_lists, registry_lists}
use Rattle.localise_run.proofs.Runs.{tables_fail}
use Rattle.localise_run.proofs.running.run_document.Goals as goal

pub run_bundles-requires : goal.run_bundles-requires
run_bundles-requires g c =
    let in_registry = ap (λ (d : Contents). d.registry) c.document.view_is in
    let in_fallback = ap (λ (d : Contents). d.fallback) c.document.view_is in
    let registry : registry_lists c.document.inside.registry ≡ c.args.document.now.registry = cc in
    let fallback : fallback_lists c.document.inside.fallback ≡ c.args.document.now.fallback = cc in
    c.in-Ok.ensures.ok c.args.document.now registry fallback

pub returns-in-Err : goal.returns-in-Err
returns-in-Err g c =
    let in_registry = ap (λ (d : Contents). d.registry) c.document.view_is in
    let in_fallback = ap (λ (d : Contents). d.fallback) c.document.view_is in
    let registry : registry_lists c.document.inside.registry ≡ c.args.document.now.registry = cc in
    let fallback : fallback_lists c.document.inside.fallback ≡ c.args.document.now.fallback = cc in
    tables_fail g.O.Sink.took g.O.Sink.faults g.O.Sink.takes_memory c.args.command
    c.args.document.now c.args.out.now c.in-Err.status
    (c.in-Err.ensures.err c.args.document.now registry fallback)
