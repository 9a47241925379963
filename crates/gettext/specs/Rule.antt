-- The plural rule of a file, as the code keeps it.
use Rattle.gettext.specs.declared.plurals.rule.PluralRule.{PluralRule}
use Rattle.gettext.specs.declared.plurals.rule.PluralRule.TheVariants as kept
use Rattle.gettext.specs.Expression.{tree_of}
use Rattle.gettext.specs.Messages.{Rule, Default, Expr, Function}

-- the rule that the code keeps
abbrev pub rule_shown : PluralRule → Rule
rule_shown kept.Default = Default
rule_shown (kept.Expr ast) = Expr (tree_of ast)
rule_shown kept.Function = Function
