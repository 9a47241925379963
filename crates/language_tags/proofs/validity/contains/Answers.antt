use Rattle.std.proofs.Common.{ap, sym, ◌∙◌}
use Rattle.std.specs.List.{list_any}
use Rattle.std.specs.Str.{bytes_eq}
use Rattle.language_tags.proofs.ValidLaws.{any_hit, any_miss, any_none}
use Rattle.language_tags.proofs.validity.contains.Goals as goal

pub loop-other-init : goal.loop-other-init
loop-other-init c =
    ap (list_any (bytes_eq c.args.piece.now)) c.into_iter-other-iterator.ensures.into_iter_gives

pub returns-then-eq : goal.returns-then-eq
returns-then-eq c =
    sym
    (any_hit (bytes_eq c.args.piece.now) c.loop-other.other-iterator c.next.new.self
    c.in-Some.other.now c.in-Some.ensures.steps
    (sym c.eq.ensures ∙ c.if-eq.true)) ∙ c.loop-other.invariant

pub loop-other-preserved : goal.loop-other-preserved
loop-other-preserved c =
    sym
    (any_miss (bytes_eq c.args.piece.now) c.loop-other.other-iterator c.next.new.self
    c.in-Some.other.now c.in-Some.ensures.steps
    (sym c.eq.ensures ∙ c.if-eq.false)) ∙ c.loop-other.invariant

pub returns : goal.returns
returns c =
    sym (any_none (bytes_eq c.args.piece.now) c.loop-other.other-iterator c.in-None.ensures.steps.0)
    ∙ c.loop-other.invariant
