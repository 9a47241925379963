use Rattle.std.proofs.Common.{◌≡◌, length, refl, inr, arith}
use Rattle.std.proofs.lemmas.Grind.{common_steps}
use Rattle.std.proofs.lemmas.List.{nil_from_length}
use Rattle.std.proofs.lemmas.Result.{err_from_is_err_and}
use Rattle.gettext.specs.Parsing.{found_of}
use Rattle.gettext.proofs.Expressions.{is_whole, no_whole, no_rest}
use Rattle.gettext.proofs.Memory.{or_memory}
use Rattle.gettext.proofs.plurals.expression.whole.Goals as goal

pub returns-in_err-part-clause-err : goal.returns-in_err-part-clause-err
returns-in_err-part-clause-err c =
    let p = err_from_is_err_and c.from_residual.result c.from_residual.ensures.1 in
    rw (p.1, p.2)
    (or_memory c.in_err-part.ensures.found (λ g. (g.0, no_whole c.args.tokens.now g.1)))

pub returns-then-not-is_empty-clause-err : goal.returns-then-not-is_empty-clause-err
returns-then-not-is_empty-clause-err c =
    inr (
      refl,
      no_rest c.args.tokens.now (found_of c.in_ok-part.part) c.in_ok-part.ensures.found
          (λ h. grind (arith, common_steps)),
    )

pub returns-clause-ok : goal.returns-clause-ok
returns-clause-ok c =
    let none : length c.in_ok-part.part.rest.now ≡ 0 = grind (arith, common_steps) in
    is_whole c.args.tokens.now (found_of c.in_ok-part.part) c.in_ok-part.ensures.found
    (nil_from_length c.in_ok-part.part.rest.now none)
