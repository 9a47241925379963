use Rattle.std.proofs.lemmas.Result.{err_from_is_err_and}
use Rattle.language_tags_grammar.specs.Pieces.{lowercase}
use Rattle.language_tags_grammar.specs.Lemmas.PrivateLaws.{private-ascii}
use Rattle.language_tags.proofs.tag.LanguageTag.private_tag.Goals as goal

pub whole_in_lowercase-requires : goal.whole_in_lowercase-requires
whole_in_lowercase-requires c =
    private-ascii c.args.text.now (lowercase c.args.rest.now) c.requires c.in_ok-check.ensures

pub returns-in_err-check-clause-err : goal.returns-in_err-check-clause-err
returns-in_err-check-clause-err c =
    let p = err_from_is_err_and c.from_residual.result c.from_residual.ensures.1 in
    rw (p.1, p.2) (λ other. c.in_err-check.ensures)
