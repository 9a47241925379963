-- Bundles or the root are refused; else what the command makes of the requests is the answer.
use Rattle.std.proofs.Common.{◌≡◌, List, ap, subst}
use Rattle.localise.specs.Bundles.{AreAccepted}
use Rattle.localise.specs.Views.{root_of}
use Rattle.localise_document.specs.Contents.{Contents}
use Rattle.localise_run.proofs.Runs.{bundles_fail, requests_give}
use Rattle.localise_run.specs.Answers.{Begins, IsMade, IsRefusedBy}
use Rattle.localise_run.specs.Run.{Gives, written}
use Rattle.localise_texts.specs.declared.bundle.BundleText.{BundleText}
use Rattle.localise_texts.specs.declared.patterns.PatternTexts.{PatternTexts}
use Rattle.localise_texts.specs.declared.request.Request.{Request}
use Rattle.localise_run.proofs.running.run_bundles.Goals as goal

pub returns-in-Ok : goal.returns-in-Ok
returns-in-Ok g c =
    let in_bundles = ap (λ (d : Contents). d.bundles) c.document.view_is in
    let in_root = ap (λ (d : Contents). d.root) c.document.view_is in
    let value = c.deref.ensures.value in
    let bundles : c.deref.result.now ≡ c.args.document.now.bundles = cc in
    let root : c.document.inside.root ≡ c.args.document.now.root = cc in
    let in_requests = ap (λ (d : Contents). d.requests) c.document.view_is in
    let behind = c.deref_mut.ensures.value in
    let requests : c.deref_mut.result.now ≡ c.args.document.now.requests = cc in
    let T = c.args.tables.now in
    let l = c.in-Ok.ensures.ok in
    let patterns = root_of c.in-Ok.localiser in
    let accepted =
    subst
    (λ (p : PatternTexts). AreAccepted T c.args.document.now.bundles p l.bundles patterns) root
    (subst (λ (bs : List BundleText). AreAccepted T bs c.document.inside.root l.bundles patterns)
    bundles l.accepted) in
    requests_give g.O.Sink.took g.O.Sink.faults g.O.Sink.takes_memory c.args.command
    c.args.document.now c.args.out.now c.run_requests.new.out T
    l.bundles patterns c.run_requests.result c.requires accepted
    (subst
    (λ (qs : List Request). Gives g.O.Sink.took (IsMade c.args.command T l.bundles patterns qs)
    (Begins c.args.command T l.bundles patterns qs)
    (written g.O.Sink.faults g.O.Sink.takes_memory c.args.out.now c.run_requests.new.out)
    c.run_requests.result) requests
    (c.run_requests.ensures l.bundles l.alike))

pub returns-in-Err : goal.returns-in-Err
returns-in-Err g c =
    let in_bundles = ap (λ (d : Contents). d.bundles) c.document.view_is in
    let in_root = ap (λ (d : Contents). d.root) c.document.view_is in
    let value = c.deref.ensures.value in
    let bundles : c.deref.result.now ≡ c.args.document.now.bundles = cc in
    let root : c.document.inside.root ≡ c.args.document.now.root = cc in
    bundles_fail g.O.Sink.took g.O.Sink.faults g.O.Sink.takes_memory c.args.command
    c.args.document.now c.args.out.now c.args.tables.now c.in-Err.status c.requires
    (subst
    (λ (p : PatternTexts).
    IsRefusedBy c.args.tables.now c.args.document.now.bundles p c.in-Err.status) root
    (subst
    (λ (bs : List BundleText).
    IsRefusedBy c.args.tables.now bs c.document.inside.root c.in-Err.status) bundles
    c.in-Err.ensures.err))
