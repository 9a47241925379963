use Rattle.icu_list.proofs.ConditionLaws.{applies_is, one_expression}
use Rattle.icu_list.proofs.laws.conditions_apply.Goals as goal

pub returns-clause-applies : goal.returns-clause-applies
returns-clause-applies c = applies_is c.a_pattern_is_read.ensures.ok

pub returns-clause-one : goal.returns-clause-one
returns-clause-one c = one_expression c.a_pattern_is_read.ensures.ok
