use Rattle.std.proofs.Common.{◌≤◌, ◌≡◌, length, rules, ap, ◌∙◌, List, ℕ}
use Rattle.lazy_dfa.specs.States.{machine, state}
use Rattle.lazy_dfa.proofs.States.{reached_at, rows_go_on}
use Rattle.lazy_dfa.proofs.matcher.Matcher.tabled.Goals as goal

pub row-requires-clause-reachable : goal.row-requires-clause-reachable
row-requires-clause-reachable c =
    let low : c.len-in-loop-alloc-2.result ≤ length c.loop-alloc.sets.items = search rules in
    reached_at (machine c.args.self.now) c.loop-alloc.sets.items c.deref.result.now
    c.len-in-loop-alloc-2.result c.state_at-reached.result c.loop-alloc.invariant.0
    c.deref.ensures.value low
    c.state_at-reached.ensures

pub loop-alloc-preserved : goal.loop-alloc-preserved
loop-alloc-preserved c =
    let low : length c.loop-alloc.rows.items ≤ length c.loop-alloc.sets.items = search rules in
    let count : c.len-in-loop-alloc-2.result ≡ length c.loop-alloc.rows.items = search rules in
    let from : c.state_at-reached.result ≡ state c.loop-alloc.sets.items
    (length c.loop-alloc.rows.items) =
    c.state_at-reached.ensures
    ∙ ap (λ (l : List ℕ). state l c.len-in-loop-alloc-2.result) c.deref.ensures.value
    ∙ ap (state c.loop-alloc.sets.items) count in
    rw (c.in_ok-push.ensures.items) (
    rows_go_on (machine c.args.self.now) c.in_ok-firsts.firsts.items
    c.deref-in-loop-alloc.result.now c.loop-alloc.sets.items c.row.new.sets.items
    c.loop-alloc.rows.items c.in-Some.row c.state_at-reached.result
    c.in_ok-row.field-0 c.loop-alloc.invariant low from c.deref-in-loop-alloc.ensures.value
    c.in-Some.is c.in_ok-row.ensures)
