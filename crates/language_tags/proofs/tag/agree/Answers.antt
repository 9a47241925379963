use Rattle.std.proofs.Common.{List, ℕ, refl, subst, sym}
use Rattle.language_tags.specs.Equality.{Agree}
use Rattle.language_tags.proofs.AgreeLaws.{agree_differs, agree_end, agree_none, agree_step}
use Rattle.language_tags.proofs.tag.agree.Goals as goal

pub loop-subtag-init : goal.loop-subtag-init
loop-subtag-init c =
    let e = c.into_iter-subtag-iterator.ensures.into_iter_gives in (
      λ h. subst (λ (xs : List (List ℕ)). Agree xs c.args.tag) e h,
      λ h. subst (λ (xs : List (List ℕ)). Agree xs c.args.tag) (sym e) h,
    )

pub returns-in-None-next : goal.returns-in-None-next
returns-in-None-next c =
    (λ same. c.loop-subtag.invariant.0 (agree_none _ _ c.in-None-next.ensures.steps.0), λ h. refl)

pub returns-then-ne : goal.returns-then-ne
returns-then-ne c = (
  λ same. cc,
  λ h.
      absurd
      (agree_differs _ _ _ _ _ _ c.in-Some.ensures.steps c.in-Some-next.ensures.steps
      c.if-ne.ensures (c.loop-subtag.invariant.1 h)),
)

pub loop-subtag-preserved : goal.loop-subtag-preserved
loop-subtag-preserved c =
    let step =
    agree_step _ _ _ _ _ _ c.in-Some.ensures.steps c.in-Some-next.ensures.steps
    c.if-ne.ensures in
    (λ h. c.loop-subtag.invariant.0 (step.0 h), λ h. step.1 (c.loop-subtag.invariant.1 h))

pub returns : goal.returns
returns c = (λ same. c.loop-subtag.invariant.0 (agree_end _ _ c.in-None.ensures.steps.0), λ h. refl)
