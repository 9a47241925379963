use Rattle.gettext.proofs.Expressions.{one_expression}
use Rattle.gettext.proofs.ExpressionOf.{expression_found, expression_is}
use Rattle.gettext.proofs.plurals.expression.one_tree.Goals as goal

pub returns-clause-unique : goal.returns-clause-unique
returns-clause-unique c = one_expression

pub returns-clause-found : goal.returns-clause-found
returns-clause-found c = λ t e. ((λ h. expression_is t e h), (λ h. expression_found t e h))
