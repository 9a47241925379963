-- Where the most steps lead to no end the walk has repeated; where it has an end it never does.
use Rattle.std.proofs.Common.{◌≡◌, ◌+◌, ◌*◌, sym, ap, ◌∙◌, subst, inl, inr, arith}
use Rattle.std.proofs.lemmas.Bool.{false≢true, cases_lt}
use Rattle.std.specs.FinMap as map
use Rattle.icu_locale_core.specs.Locale.{unknown}
use Rattle.icu_locale_fallback.specs.Walk.{at}
use Rattle.fallback_chain.proofs.ends.steps_to_end.Goals as goal

pub returns-then-steps-most-clause-loops : goal.returns-then-steps-most-clause-loops
returns-then-steps-most-clause-loops c =
    let F = c.args.fallbacker.now in
    let l = c.args.locale in
    let parents : c.len.result ≡ map.len F.parents = c.len.ensures ∙ ap map.len c.parents.ensures in
    let most : c.loop-walk.steps ≡ 4 * c.len.result + 5 = c.if-steps-most.true in
    let stop = c.walk_ends_or_repeats.ensures.ends F l in
    let bound = stop.bound in
    elim stop.ends [
      | inr repeats ↦ (stop.steps, repeats)
      | inl ended ↦ elim (cases_lt stop.steps c.loop-walk.steps) [
        | inl less ↦ absurd (c.loop-walk.invariant.before stop.steps less ended)
        | inr more ↦
            let last : stop.steps ≡ c.loop-walk.steps = omega arith in
            let here : c.get.result.now ≡ unknown =
            c.get.ensures ∙ ap (λ w. w.reached.locale) c.loop-walk.invariant.here
            ∙ subst (λ k. at F l k ≡ unknown) last ended in
            absurd (false≢true (sym c.loop-walk-test.true ∙ c.is_unknown.ensures.1 here))
      ]
    ]

pub returns-clause-never : goal.returns-clause-never
returns-clause-never c =
    let F = c.args.fallbacker.now in
    let l = c.args.locale in
    let ended : at F l c.loop-walk.steps ≡ unknown =
    sym (ap (λ w. w.reached.locale) c.loop-walk.invariant.here)
    ∙ sym c.get.ensures ∙ c.is_unknown.ensures.0 c.loop-walk-test.false in
    λ k repeats. c.walk_that_ends_never_repeats.ensures.never F l c.loop-walk.steps k ended repeats
