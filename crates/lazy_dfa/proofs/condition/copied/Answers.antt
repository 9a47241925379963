use Rattle.std.proofs.Common.{take, map-id, sym, ap, ◌∙◌, arith}
use Rattle.std.specs.Str.{chars}
use Rattle.std.proofs.lemmas.Iterator.{YieldsList-from_chars}
use Rattle.std.proofs.lemmas.Iterator.Consumers.{YieldsList-so_far, YieldsList-end}
use Rattle.lazy_dfa.proofs.Compiling.{take_all}
use Rattle.lazy_dfa.proofs.condition.copied.Goals as goal

pub returns-then-count-eq-ROOM-clause-copied : goal.returns-then-count-eq-ROOM-clause-copied
returns-then-count-eq-ROOM-clause-copied c =
    let far =
    YieldsList-so_far (YieldsList-from_chars c.args.pattern.now c.utf8.pattern cc)
    c.loop-c.yielded _ c.loop-c.yielded_by in
    c.loop-c.invariant.3 ∙ sym (map-id c.loop-c.yielded) ∙ far
    ∙ ap (λ n. take n (chars c.args.pattern.now)) (sym c.loop-c.invariant.0
    ∙ c.if-count-eq-ROOM.true)

pub returns-clause-copied : goal.returns-clause-copied
returns-clause-copied c =
    let done =
    YieldsList-end (YieldsList-from_chars c.args.pattern.now c.utf8.pattern cc) c.loop-c.yielded
    _ c.loop-c.yielded_by _ _ c.in-None.is c.next.ensures.steps in
    c.loop-c.invariant.3 ∙ sym (map-id c.loop-c.yielded) ∙ done.0
    ∙ sym (take_all 66 (chars c.args.pattern.now)
    (omega (arith, done.1, c.loop-c.invariant.0, c.loop-c.invariant.1)))
