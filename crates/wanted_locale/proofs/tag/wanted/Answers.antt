use Rattle.std.proofs.Common.{refl}
use Rattle.std.proofs.lemmas.Result.{err_from_is_err_and}
use Rattle.wanted_locale.specs.Wanted.{long_language}
use Rattle.wanted_locale.proofs.tag.wanted.Goals as goal

pub returns-in_err-identifier-clause-err : goal.returns-in_err-identifier-clause-err
returns-in_err-identifier-clause-err c =
    let p = err_from_is_err_and c.from_residual.result c.from_residual.ensures.1 in
    rw (p.1, p.2) c.in_err-identifier.ensures.err

pub returns-clause-err : goal.returns-clause-err
returns-clause-err c = λ _. long_language c.in_ok-identifier.ensures.ok c.in-None.ensures refl
