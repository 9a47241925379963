use Rattle.std.proofs.Common.{◌≡◌, ◌≢◌, ℕ, List, sym, subst}
use Rattle.localise.specs.Given.{IsFound, IsNotFound}
use Rattle.localise.specs.Render.{IsRefused, in_localiser}
use Rattle.localise.specs.Views.{meanings, root_of}
use Rattle.localise.specs.declared.error.RenderError.{RenderError}
use Rattle.localise.proofs.BundleReading.{bytes_of_text}
use Rattle.localise.proofs.Rendering.{calm_error, found_front, found_written, memory_or}
use Rattle.localise.proofs.Rendering.{no_answer_refused, no_answer_round, no_answer_tag}
use Rattle.localise.proofs.Rendering.{refused_round, refused_tag, sink_error}
use Rattle.wanted_locale.specs.Wanted.{IsTagCause, IsWantedOf}
use Rattle.wanted_locale.specs.declared.error.TagCause.TheVariants.{NoMemory as NoMemoryTag}
use Rattle.wanted_locale.specs.declared.tables.Tables.{Tables}
use Rattle.localise.proofs.rendered.render.Goals as goal

pub returns-in-Err-clause-err : goal.returns-in-Err-clause-err
returns-in-Err-clause-err g c = λ no_sink no_memory. in_localiser (c.in-Err.ensures.err no_memory)

pub returns-in-Err-clause-complete : goal.returns-in-Err-clause-complete
returns-in-Err-clause-complete g c = λ answer has calm.
    memory_or c.in-Err.error (λ ne.
    no_answer_refused c.args.tables.now c.args.bundles.now c.args.root.now c.args.request.now
    c.in-Err.error answer
    c.bundles_have_one_meaning.ensures.never_both (c.in-Err.ensures.err ne) has)

pub returns-in-Err-wanted-clause-err : goal.returns-in-Err-wanted-clause-err
returns-in-Err-wanted-clause-err g c = λ no_sink no_memory.
    let T = c.args.tables.now in
    let q = c.args.request.now in
    let bytes = bytes_of_text c.as_str.result.now q.tag c.as_str.utf8 c.as_str.ensures in
    refused_tag T c.args.bundles.now c.args.root.now q (meanings c.in-Ok.localiser)
    (root_of c.in-Ok.localiser) c.in-Ok.ensures.ok
    c.in-Err-wanted.cause c.in_request.result
    (λ ne. subst (λ (t : List ℕ). IsTagCause T.registry t c.in-Err-wanted.cause) (sym bytes)
    (c.in-Err-wanted.ensures.err ne))
    c.in_request.ensures.memory c.in_request.ensures.own no_memory

pub returns-in-Err-wanted-clause-complete : goal.returns-in-Err-wanted-clause-complete
returns-in-Err-wanted-clause-complete g c = λ answer has calm.
    let T = c.args.tables.now in
    let q = c.args.request.now in
    let bytes = bytes_of_text c.as_str.result.now q.tag c.as_str.utf8 c.as_str.ensures in
    memory_or c.in_request.result (λ not_memory.
    let ne : c.in-Err-wanted.cause ≢ NoMemoryTag =
    λ same. not_memory (c.in_request.ensures.memory same) in
    no_answer_tag T c.args.bundles.now c.args.root.now q c.in-Err-wanted.cause answer
    c.texts_and_locales.ensures.never_both
    (subst (λ (t : List ℕ). IsTagCause T.registry t c.in-Err-wanted.cause) (sym bytes)
    (c.in-Err-wanted.ensures.err ne)) has)

pub returns-in-Ok-find-clause-ok : goal.returns-in-Ok-find-clause-ok
returns-in-Ok-find-clause-ok g c =
    let T = c.args.tables.now in
    let q = c.args.request.now in
    let l = c.in-Ok.localiser in
    let w = c.in-Ok-wanted.wanted in
    let found =
    subst (λ (t : Tables). IsFound t.fallbacker (meanings l) (root_of l) w q c.in-Ok-find.found)
    c.in-Ok.ensures.tables c.in-Ok-find.ensures.ok in
    let wants =
    subst (λ (t : List ℕ). IsWantedOf T.registry t w)
    (sym (bytes_of_text c.as_str.result.now q.tag c.as_str.utf8 c.as_str.ensures))
    c.in-Ok-wanted.ensures.ok in
    found_written T c.args.bundles.now c.args.root.now q (meanings l)
    (root_of l) c.in-Ok.ensures.ok w wants g.S.Sink.took c.args.sink.now c.write_found.new.sink
    c.in-Ok-find.found found c.write_found.result c.write_found.ensures.told
    c.write_found.ensures.ok

pub returns-in-Ok-find-clause-err : goal.returns-in-Ok-find-clause-err
returns-in-Ok-find-clause-err g c =
    sink_error (IsRefused c.args.tables.now c.args.bundles.now c.args.root.now c.args.request.now)
    c.write_found.result c.write_found.ensures.err

pub returns-in-Ok-find-clause-unchanged : goal.returns-in-Ok-find-clause-unchanged
returns-in-Ok-find-clause-unchanged g c =
    sink_error (λ (e : RenderError). c.write_found.new.sink ≡ c.args.sink.now) c.write_found.result
    c.write_found.ensures.err

pub returns-in-Ok-find-clause-appended : goal.returns-in-Ok-find-clause-appended
returns-in-Ok-find-clause-appended g c =
    let T = c.args.tables.now in
    let q = c.args.request.now in
    let l = c.in-Ok.localiser in
    let w = c.in-Ok-wanted.wanted in
    let found =
    subst (λ (t : Tables). IsFound t.fallbacker (meanings l) (root_of l) w q c.in-Ok-find.found)
    c.in-Ok.ensures.tables c.in-Ok-find.ensures.ok in
    let wants =
    subst (λ (t : List ℕ). IsWantedOf T.registry t w)
    (sym (bytes_of_text c.as_str.result.now q.tag c.as_str.utf8 c.as_str.ensures))
    c.in-Ok-wanted.ensures.ok in
    found_front T c.args.bundles.now c.args.root.now q (meanings l)
    (root_of l) c.in-Ok.ensures.ok w wants g.S.Sink.took c.args.sink.now c.write_found.new.sink
    c.in-Ok-find.found found c.write_found.result c.write_found.ensures.front

pub returns-in-Ok-find-clause-complete : goal.returns-in-Ok-find-clause-complete
returns-in-Ok-find-clause-complete g c = λ answer has calm.
    calm_error (g.S.Sink.faults c.args.sink.now)
    (g.S.Sink.faults c.write_found.new.sink) c.write_found.result c.write_found.ensures.err
    c.write_found.ensures.cause calm

pub returns-clause-err : goal.returns-clause-err
returns-clause-err g c = λ no_sink no_memory.
    let T = c.args.tables.now in
    let q = c.args.request.now in
    let l = c.in-Ok.localiser in
    let w = c.in-Ok-wanted.wanted in
    let round =
    subst (λ (t : Tables). IsNotFound t.fallbacker (meanings l) w q) c.in-Ok.ensures.tables
    c.in-Err-find.ensures.err in
    let wants =
    subst (λ (t : List ℕ). IsWantedOf T.registry t w)
    (sym (bytes_of_text c.as_str.result.now q.tag c.as_str.utf8 c.as_str.ensures))
    c.in-Ok-wanted.ensures.ok in
    refused_round T c.args.bundles.now c.args.root.now q (meanings l)
    (root_of l) c.in-Ok.ensures.ok w wants round

pub returns-clause-complete : goal.returns-clause-complete
returns-clause-complete g c = λ answer has calm.
    let T = c.args.tables.now in
    let q = c.args.request.now in
    let l = c.in-Ok.localiser in
    let w = c.in-Ok-wanted.wanted in
    let round =
    subst (λ (t : Tables). IsNotFound t.fallbacker (meanings l) w q) c.in-Ok.ensures.tables
    c.in-Err-find.ensures.err in
    let wants =
    subst (λ (t : List ℕ). IsWantedOf T.registry t w)
    (sym (bytes_of_text c.as_str.result.now q.tag c.as_str.utf8 c.as_str.ensures))
    c.in-Ok-wanted.ensures.ok in
    absurd
    (no_answer_round T c.args.bundles.now c.args.root.now q (meanings l)
    (root_of l) c.in-Ok.ensures.ok w wants c.walk_has_one_outcome.ensures.round
    c.bundles_have_one_meaning.ensures.one c.texts_and_locales.ensures.one round answer has)
