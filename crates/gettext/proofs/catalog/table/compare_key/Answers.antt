use Rattle.std.proofs.Common.{rules, sym}
use Rattle.writeable_core.specs.OrderingLaws.{then-decided}
use Rattle.gettext.proofs.Keys.{behind_context}
use Rattle.gettext.proofs.catalog.table.compare_key.Goals as goal

pub returns-in-Equal : goal.returns-in-Equal
returns-in-Equal c =
    let e = behind_context c.args.key.now c.in-Some.context.now c.args.id.now
    c.split_at.result.0.now c.split_at.result.1.now (search (rules, c.split_at.ensures.front))
    (search (rules, c.split_at.ensures.back)) in
    let k = c.cmp-2.ensures in
    rw (c.in-Some.is, e, ← k, c.in-Equal.is) c.compare_rest.ensures

pub returns-in_default-cmp : goal.returns-in_default-cmp
returns-in_default-cmp c =
    let e = behind_context c.args.key.now c.in-Some.context.now c.args.id.now
    c.split_at.result.0.now c.split_at.result.1.now (search (rules, c.split_at.ensures.front))
    (search (rules, c.split_at.ensures.back)) in
    let k = c.cmp-2.ensures in
    rw (c.in-Some.is, e, ← k) (sym (then-decided c.cmp-2.result _ c.in_default-cmp.not-Equal))
