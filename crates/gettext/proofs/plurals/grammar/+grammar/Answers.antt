use Rattle.std.proofs.Common.{◌-◌, arith}
use Rattle.std.proofs.lemmas.Result.{err_from_is_err_and}
use Rattle.gettext.specs.Parsing.{parse}
use Rattle.gettext.proofs.Chains.{fails_by, chain_breaks, chain_grows}
use Rattle.gettext.proofs.plurals.grammar.+grammar.Goals as goal

pub chain-returns-in_err-right-clause-found : goal.chain-returns-in_err-right-clause-found
chain-returns-in_err-right-clause-found t c =
    let p = err_from_is_err_and c.from_residual-in_err-right.result
    c.from_residual-in_err-right.ensures.1 in
    rw (p.1, p.2)
    (fails_by (parse (c.args.budget - 1) c.tighter-in-Some.result c.in-Some.rest.now)
    (parse c.args.budget c.args.level c.args.tokens.now) c.in_err-right.ensures.found
    (λ none.
    chain_breaks c.args.budget c.args.level c.args.tokens.now c.loop-operator.left
    c.loop-operator.invariant c.in-Some.operator c.in-Some.rest.now c.in-Some.ensures
    (omega (arith, c.if-left-budget.false)) (rw c.tighter-in-Some.ensures at none)))

pub chain-loop-operator-preserved : goal.chain-loop-operator-preserved
chain-loop-operator-preserved t c =
    chain_grows c.args.budget c.args.level c.args.tokens.now c.loop-operator.left
    c.loop-operator.invariant c.in-Some.operator c.in-Some.rest.now c.in-Some.ensures
    c.in_ok-right.right c.in_ok-left-2.left (omega (arith, c.if-left-budget.false))
    (rw c.tighter-in-Some.ensures at c.in_ok-right.ensures.found) c.in_ok-right.ensures.low
    c.in_ok-left-2.ensures
