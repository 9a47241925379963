use Rattle.std.proofs.Common.{◌≡◌, ℕ, ◌+◌, ◌*◌, ap, ◌∙◌, subst, arith}
use Rattle.std.specs.FinMap as map
use Rattle.icu_locale_fallback.specs.Walk.{at}
use Rattle.localise.specs.Chosen.{NoneBelow}
use Rattle.localise.specs.Read.{meanings_of}
use Rattle.localise.proofs.Outcomes.{KnownBelow, last_outcome, stop_here}
use Rattle.localise.proofs.walk.walk_to_stop.Goals as goal

pub returns-in-Some-clause-outcome : goal.returns-in-Some-clause-outcome
returns-in-Some-clause-outcome c =
    let F = c.args.fallbacker.now in
    let l = c.args.wanted in
    let so_far = c.loop-steps.invariant in
    let there = c.get.ensures ∙ ap (λ w. w.reached.locale) so_far.place in
    stop_here F (meanings_of c.args.bundles.now.list.items) l c.args.request.now c.loop-steps.steps
    c.get.result.now c.in-Some.stop c.in-Some.ensures.some
    there (c.walk_ends_or_repeats.ensures.revisits F l)
    (c.walk_that_ends_never_repeats.ensures.stays F l) so_far.untranslated so_far.known

pub returns-clause-outcome : goal.returns-clause-outcome
returns-clause-outcome c =
    let F = c.args.fallbacker.now in
    let l = c.args.wanted in
    let bs = meanings_of c.args.bundles.now.list.items in
    let q = c.args.request.now in
    let so_far = c.loop-steps.invariant in
    let end = c.loop-steps.auto.steps-end in
    let test = c.loop-steps-test.false in
    let most : ℕ = 4 * c.len.result + 5 in
    let whole : c.loop-steps.steps ≡ most = omega arith in
    let p : c.len.result ≡ map.len F.parents = c.len.ensures ∙ ap map.len c.parents.ensures in
    let there = c.get-2.ensures ∙ ap (λ w. w.reached.locale) so_far.place ∙ ap (at F l) whole in
    last_outcome F bs l q most c.get-2.result.now c.stop_at-2.result
    (ap (λ n. 4 * n + 5) p) c.stop_at-2.ensures.some c.stop_at-2.ensures.none
    there (c.walk_ends_or_repeats.ensures.ends F l) (c.walk_ends_or_repeats.ensures.revisits F l)
    (c.walk_that_ends_never_repeats.ensures.stays F l)
    (subst (NoneBelow F bs l q) whole so_far.untranslated)
    (subst (KnownBelow F bs l q) whole so_far.known)
