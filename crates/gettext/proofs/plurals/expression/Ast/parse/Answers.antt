use Rattle.std.proofs.lemmas.Result.{err_from_is_err_and}
use Rattle.gettext.proofs.Expressions.{no_tokens, parsed_ok, parsed_err}
use Rattle.gettext.proofs.Memory.{or_memory}
use Rattle.gettext.proofs.plurals.expression.Ast.parse.Goals as goal

pub returns-in_err-tokens-clause-err : goal.returns-in_err-tokens-clause-err
returns-in_err-tokens-clause-err c =
    let p = err_from_is_err_and c.from_residual.result c.from_residual.ensures.1 in
    let h = rw c.as_bytes.ensures.value at c.in_err-tokens.ensures.err in
    rw (p.1, p.2) (or_memory h (λ g. (g.0, no_tokens c.args.src.now c.utf8.src g.1)))

pub returns-clause-ok : goal.returns-clause-ok
returns-clause-ok c =
    let read =
    rw (c.as_bytes.ensures.value, ← c.deref.ensures.value) at c.in_ok-tokens.ensures.ok in
    parsed_ok _ _ _ read c.whole.ensures.ok

pub returns-clause-err : goal.returns-clause-err
returns-clause-err c =
    let read =
    rw (c.as_bytes.ensures.value, ← c.deref.ensures.value) at c.in_ok-tokens.ensures.ok in
    parsed_err _ _ _ c.utf8.src read c.whole.ensures.err
