use Rattle.lazy_dfa.proofs.States.{edged_more}
use Rattle.lazy_dfa.proofs.table.edges.Goals as goal

pub loop-range-preserved : goal.loop-range-preserved
loop-range-preserved c = (
  c.in_ok-add_edges.ensures.keeps 0 c.loop-range.invariant.0,
  edged_more c.loop-range.edges.items c.add_edges.new.edges.items c.args.ranges.now
      c.loop-range.range-index c.loop-range.invariant.1 c.in_ok-add_edges.ensures.keeps
      c.loop-range-test.true
      _ c.in_ok-add_edges.ensures.edged,
)
