use Rattle.lazy_dfa.proofs.ConditionReading.{condition_is, refused_is}
use Rattle.lazy_dfa.proofs.laws.a_pattern_is_read.Goals as goal

pub returns-clause-ok : goal.returns-clause-ok
returns-clause-ok c = condition_is

pub returns-clause-err : goal.returns-clause-err
returns-clause-err c = refused_is
