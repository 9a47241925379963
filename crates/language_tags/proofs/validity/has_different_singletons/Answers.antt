use Rattle.std.proofs.Common.{ap, sym, ◌∙◌, nat_eq}
use Rattle.std.specs.List.{list_any}
use Rattle.language_tags.proofs.ValidLaws.{different_hit, different_miss, different_none, singles}
use Rattle.language_tags.proofs.ValidLaws.{singles-none, singles-step}
use Rattle.language_tags.proofs.validity.has_different_singletons.Goals as goal

pub loop-singleton-preserved : goal.loop-singleton-preserved
loop-singleton-preserved c = (
  tt,
  tt,
  sym
      (different_miss nat_eq (singles c.loop-singleton.rest)
      (singles c.next.new.self) c.in-Some.singleton
      (singles-step c.loop-singleton.rest c.next.new.self c.in-Some.singleton
      c.in-Some.field-0-1.now c.in-Some.ensures.steps)
      (ap (λ es. list_any (nat_eq c.in-Some.singleton) (singles es)) (sym c.again.ensures)
      ∙ sym c.has_singleton.ensures ∙ c.if-has_singleton.false))
      ∙ c.loop-singleton.invariant.2,
)

pub returns-then-has_singleton : goal.returns-then-has_singleton
returns-then-has_singleton c =
    sym
    (different_hit nat_eq (singles c.loop-singleton.rest)
    (singles c.next.new.self) c.in-Some.singleton
    (singles-step c.loop-singleton.rest c.next.new.self c.in-Some.singleton c.in-Some.field-0-1.now
    c.in-Some.ensures.steps)
    (ap (λ es. list_any (nat_eq c.in-Some.singleton) (singles es)) (sym c.again.ensures)
    ∙ sym c.has_singleton.ensures ∙ c.if-has_singleton.true))
    ∙ c.loop-singleton.invariant.2

pub returns : goal.returns
returns c =
    sym
    (different_none nat_eq (singles c.loop-singleton.rest)
    (singles-none c.loop-singleton.rest c.in_default.ensures.steps.0))
    ∙ c.loop-singleton.invariant.2
