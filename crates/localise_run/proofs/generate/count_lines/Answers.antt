-- A line more is counted, or the request at which counting stops.
use Rattle.std.proofs.Common.{◌≡◌, ℕ, zero, suc, ◌+◌, ◌<◌, ◌%◌, List, length, take, get_or, Bool}
use Rattle.std.proofs.Common.{true, false, eqb, Ok, Err, Result, refl, sym, ap, ◌∙◌, subst, arith}
use Rattle.std.specs.Prelude.{OnOk, is_err}
use Rattle.localise.specs.Meaning.{Meaning}
use Rattle.localise.specs.Views.{root_of}
use Rattle.localise_run.proofs.Made.{AreKnown, known_is, known_more, got_made, in_made, made_length}
use Rattle.localise_run.proofs.Made.{read_back, remade_next, stands, place_within, visits_more}
use Rattle.localise_run.proofs.Numbers.{CountsTo, counted_all, uncounted_line, uncounted_tag}
use Rattle.localise_run.proofs.Written.{wrote_more}
use Rattle.localise_run.specs.Generating.{AreCounted, AreUncounted, AreVisited, Visits, made}
use Rattle.localise_run.specs.Generating.{made_from}
use Rattle.localise_run.specs.Rendering.{IsLine, IsLineFault}
use Rattle.localise_run.specs.Run.{written}
use Rattle.localise_run.specs.Wanting.{HasTagCause, Wants}
use Rattle.localise_run.specs.Writing.{FailsLine}
use Rattle.localise_status.specs.declared.status.RequestCause.TheVariants.{Tag}
use Rattle.localise_texts.specs.declared.request.Request.{Request}
use Rattle.writeable_sinks.specs.CountSink.{Counts}
use Rattle.writeable_sinks.specs.CountSinkLaws.{Counts-both}
use Rattle.icu_locale_core.specs.Locale.{Locale}
use Rattle.localise_run.proofs.generate.count_lines.Goals as goal

-- a list that isn't empty
positive : (n : ℕ) (b : Bool) → b ≡ eqb n 0 → b ≡ false → 0 < n
positive zero b is not = let same : true ≡ false = sym is ∙ not in cc
positive (suc n) b is not = omega arith

-- what holds of an answer that is no error
of_ok : {T E : Type 0} (r : Result T E) (P : Type 0) (b : Bool) → b ≡ is_err r → b ≡ false
    → OnOk r P → P
of_ok (Ok x) P b is not h = h
of_ok (Err e) P b is not h = let same : true ≡ false = sym is ∙ not in cc

pub locale_at-requires-clause-wants : goal.locale_at-requires-clause-wants
locale_at-requires-clause-wants c = λ l at.
    let T = c.args.tables.now in
    let old = c.args.requests.now in
    let now = c.loop-number.requests in
    let n = c.loop-number.number in
    let h = c.loop-number.invariant.remade in
    let r = c.index-requests-place.result in
    let q = c.remake.new.request in
    let some = positive (length old) c.is_empty.result c.is_empty.ensures c.if-is_empty.false in
    let within : n < c.args.count = omega (arith, c.loop-number-test.true) in
    let is_made : q ≡ made_from n r =
    of_ok c.remake.result
    (q ≡ made_from n (get_or now (n % length now) r)) c.is_err.result c.is_err.ensures.value
    c.if-is_err.false c.remake.ensures
    ∙ ap (made_from n) (sym c.index-requests-place.is) in
    let wants : Wants T r l =
    known_is T old now h c.loop-number.locales.items n
    (n % length now) r l c.loop-number.invariant.locales_known
    (place_within old now h some n c.args.count within r q c.index-requests-place.is is_made)
    c.index-requests-place.is at in
    subst (λ (p : Request). Wants T p l)
    (sym
    (read_back old now h some n c.args.count within r q c.index-requests-place.is is_made
    c.index-requests-place-in-loop-number.result))
    (subst (λ (p : Request). Wants T p l) (sym is_made) wants)

pub returns-in-Err-clause-err : goal.returns-in-Err-clause-err
returns-in-Err-clause-err c = λ bundles alike.
    let T = c.args.tables.now in
    let root = root_of c.args.localiser.now in
    let old = c.args.requests.now in
    let now = c.loop-number.requests in
    let n = c.loop-number.number in
    let h = c.loop-number.invariant.remade in
    let r = c.index-requests-place.result in
    let q = c.remake.new.request in
    let some = positive (length old) c.is_empty.result c.is_empty.ensures c.if-is_empty.false in
    let within : n < c.args.count = omega (arith, c.loop-number-test.true) in
    let is_made : q ≡ made_from n r =
    of_ok c.remake.result
    (q ≡ made_from n (get_or now (n % length now) r)) c.is_err.result c.is_err.ensures.value
    c.if-is_err.false c.remake.ensures
    ∙ ap (made_from n) (sym c.index-requests-place.is) in
    let back =
    read_back old now h some n c.args.count within r q c.index-requests-place.is is_made
    c.index-requests-place-in-loop-number.result in
    subst (AreUncounted T bundles root (made old 0 c.args.count)) (sym c.of_tag.ensures)
    (uncounted_tag T bundles root (made old 0 c.args.count) n c.loop-number.lines q c.in-Err.cause
    (c.loop-number.invariant.lines_counted bundles alike)
    (got_made old now h some n c.args.count within r q c.index-requests-place.is is_made)
    (λ some_cause. subst (λ (p : Request). HasTagCause T p (Tag c.in-Err.cause)) back
    (c.in-Err.ensures.err some_cause)))

pub returns-in-Err-write_request-clause-err : goal.returns-in-Err-write_request-clause-err
returns-in-Err-write_request-clause-err c = λ bundles alike.
    let T = c.args.tables.now in
    let root = root_of c.args.localiser.now in
    let old = c.args.requests.now in
    let now = c.loop-number.requests in
    let n = c.loop-number.number in
    let h = c.loop-number.invariant.remade in
    let r = c.index-requests-place.result in
    let q = c.remake.new.request in
    let some = positive (length old) c.is_empty.result c.is_empty.ensures c.if-is_empty.false in
    let within : n < c.args.count = omega (arith, c.loop-number-test.true) in
    let is_made : q ≡ made_from n r =
    of_ok c.remake.result
    (q ≡ made_from n (get_or now (n % length now) r)) c.is_err.result c.is_err.ensures.value
    c.if-is_err.false c.remake.ensures
    ∙ ap (made_from n) (sym c.index-requests-place.is) in
    let back =
    read_back old now h some n c.args.count within r q c.index-requests-place.is is_made
    c.index-requests-place-in-loop-number.result in
    uncounted_line T bundles root
    (made old 0 c.args.count) n c.loop-number.lines c.write_request.new.out q
    c.in-Err-write_request.status
    (c.loop-number.invariant.lines_counted bundles alike)
    (got_made old now h some n c.args.count within r q c.index-requests-place.is is_made)
    (subst (λ (p : Request). FailsLine Counts (IsLine T bundles root) (IsLineFault T bundles root)
    (written (λ (m : ℕ). 0) (λ (m : ℕ). false) c.loop-number.lines c.write_request.new.out) n p
    c.in-Err-write_request.status) back
    (c.in-Err-write_request.ensures.err bundles alike))

pub loop-number-preserved : goal.loop-number-preserved
loop-number-preserved c =
    let T = c.args.tables.now in
    let root = root_of c.args.localiser.now in
    let old = c.args.requests.now in
    let now = c.loop-number.requests in
    let n = c.loop-number.number in
    let h = c.loop-number.invariant.remade in
    let r = c.index-requests-place.result in
    let q = c.remake.new.request in
    let made_all = made old 0 c.args.count in
    let some = positive (length old) c.is_empty.result c.is_empty.ensures c.if-is_empty.false in
    let within : n < c.args.count = omega (arith, c.loop-number-test.true) in
    let is_made : q ≡ made_from n r =
    of_ok c.remake.result
    (q ≡ made_from n (get_or now (n % length now) r)) c.is_err.result c.is_err.ensures.value
    c.if-is_err.false c.remake.ensures
    ∙ ap (made_from n) (sym c.index-requests-place.is) in
    let back =
    read_back old now h some n c.args.count within r q c.index-requests-place.is is_made
    c.index-requests-place-in-loop-number.result in
    let next = in_made old now h some n c.args.count within r q c.index-requests-place.is is_made in
    let stand = stands old now h some n c.args.count within r q c.index-requests-place.is is_made in
    let l = c.in-Ok.locale in
    record {
      remade =
          remade_next old now h some n c.args.count within r q c.index-requests-place.is is_made;
      locales_known =
          subst (λ (ls : List Locale). AreKnown T old ls (n + 1)) (sym c.in-Ok.ensures.kept)
          (known_more T old now h c.loop-number.locales.items n r l some
          c.loop-number.invariant.locales_known c.index-requests-place.is
          (subst (λ (p : Request). Wants T p l) is_made
          (subst (λ (p : Request). Wants T p l) back c.in-Ok.ensures.ok)));
      lines_counted = λ (bundles : List Meaning) alike.
          let line = c.in-Ok-write_request.ensures.ok bundles alike in
          wrote_more Counts (λ (m : ℕ). 0) (λ (m : ℕ). false) Counts-both (λ a b t p. omega arith)
          (λ a b t p. refl) (IsLine T bundles root) (IsLineFault T bundles root) made_all
          0 c.loop-number.lines c.write_request.new.out n q line.line
          (c.loop-number.invariant.lines_counted bundles alike) next stand
          (subst (λ (p : Request). IsLine T bundles root p line.line) back line.is) line.taken;
      visits = λ (bundles : List Meaning) alike.
          visits_more T bundles root made_all n q c.loop-number.counted.visited
          c.in-Ok-write_request.visited next stand
          (c.loop-number.invariant.visits bundles alike)
          (subst (λ (p : Request). Visits T bundles root p c.in-Ok-write_request.visited) back
          (c.in-Ok-write_request.ensures.visited bundles alike));
      small = omega (arith, c.loop-number.invariant.small, c.in-Ok-write_request.ensures.small);
    }

pub returns-clause-ok : goal.returns-clause-ok
returns-clause-ok c = λ bundles alike.
    let T = c.args.tables.now in
    let root = root_of c.args.localiser.now in
    let old = c.args.requests.now in
    let made_all = made old 0 c.args.count in
    let visited = c.loop-number.counted.visited in
    let end = c.loop-number.auto.number-end in
    let all : c.loop-number.number ≡ c.args.count = omega (arith, c.loop-number-test.false, end) in
    let some = positive (length old) c.is_empty.result c.is_empty.ensures c.if-is_empty.false in
    subst
    (λ (b : ℕ). AreCounted T bundles root made_all
    (record { requests = c.args.count; bytes = b; visited = visited }))
    (sym c.bytes.ensures)
    (counted_all T bundles root made_all c.args.count c.loop-number.lines visited
    (sym (made_length old c.args.count 0 some))
    (subst (λ (m : ℕ). CountsTo T bundles root made_all m c.loop-number.lines) all
    (c.loop-number.invariant.lines_counted bundles alike))
    (subst (λ (m : ℕ). AreVisited T bundles root (take m made_all) visited) all
    (c.loop-number.invariant.visits bundles alike)))
