use Rattle.std.proofs.Common.{ap}
use Rattle.std.specs.Option.{option_map}
use Rattle.std.proofs.lemmas.Result.{err_from_is_err_and}
use Rattle.gettext.specs.Messages.{Expr}
use Rattle.gettext.proofs.ExpressionOf.{expression_found, expression_none}
use Rattle.gettext.proofs.Memory.{or_memory}
use Rattle.gettext.proofs.parser.settings.rule_of.Goals as goal

pub returns-in_err-parse-in-Some : goal.returns-in_err-parse-in-Some
returns-in_err-parse-in-Some c =
    let p = err_from_is_err_and c.from_residual.result c.from_residual.ensures.1 in
    rw (c.in-Some.is, p.1, p.2)
    (or_memory c.in_err-parse-in-Some.ensures.err
    (λ g. (g.0, ap (option_map Expr) (expression_none _ g.1))))

pub returns-in_ok-parse-in-Some : goal.returns-in_ok-parse-in-Some
returns-in_ok-parse-in-Some c =
    rw c.in-Some.is (ap (option_map Expr) (expression_found _ _ c.in_ok-parse-in-Some.ensures.ok))
