use Rattle.std.proofs.Common.{ap, sym, ◌∙◌, nat_eq}
use Rattle.std.specs.List.{list_any}
use Rattle.language_tags.proofs.ValidLaws.{any_hit, any_miss, any_none, nat_other, nat_same}
use Rattle.language_tags.proofs.ValidLaws.{singles, singles-none, singles-step}
use Rattle.language_tags.proofs.validity.has_singleton.Goals as goal

pub loop-other-init : goal.loop-other-init
loop-other-init c =
    ap (λ es. list_any (nat_eq c.args.singleton) (singles es))
    c.into_iter-other-iterator.ensures.into_iter_gives

pub returns-then-singleton-other : goal.returns-then-singleton-other
returns-then-singleton-other c =
    sym
    (any_hit (nat_eq c.args.singleton) (singles c.loop-other.other-iterator)
    (singles c.next.new.self) c.in-Some.other
    (singles-step c.loop-other.other-iterator c.next.new.self c.in-Some.other
    c.in-Some.field-0-1.now c.in-Some.ensures.steps)
    (nat_same c.args.singleton c.in-Some.other c.if-singleton-other.true)) ∙ c.loop-other.invariant

pub loop-other-preserved : goal.loop-other-preserved
loop-other-preserved c =
    sym
    (any_miss (nat_eq c.args.singleton) (singles c.loop-other.other-iterator)
    (singles c.next.new.self) c.in-Some.other
    (singles-step c.loop-other.other-iterator c.next.new.self c.in-Some.other
    c.in-Some.field-0-1.now c.in-Some.ensures.steps)
    (nat_other c.args.singleton c.in-Some.other c.if-singleton-other.false))
    ∙ c.loop-other.invariant

pub returns : goal.returns
returns c =
    sym (any_none (nat_eq c.args.singleton) (singles c.loop-other.other-iterator)
    (singles-none c.loop-other.other-iterator c.in-None.ensures.steps.0)) ∙ c.loop-other.invariant
