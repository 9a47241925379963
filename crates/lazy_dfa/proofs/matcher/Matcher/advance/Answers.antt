use Rattle.lazy_dfa.specs.States.{machine}
use Rattle.lazy_dfa.proofs.States.{table_step}
use Rattle.lazy_dfa.proofs.matcher.Matcher.advance.Goals as goal

pub returns-in-Some-clause-step : goal.returns-in-Some-clause-step
returns-in-Some-clause-step c =
    table_step (machine c.args.self.now) c.in-Some.table c.args.place c.index-row.result.now
    c.deref.result.now c.args.c c.class_of.result c.index.result.now c.index-in-Some.result.now
    (rw c.in-Some.is at c.requires.table) (rw c.in-Some.is at c.requires.at) c.index-row.ensures
    c.deref.ensures.value c.ranges.c.0 c.class_of.ensures c.index.ensures
    c.index-in-Some.ensures
