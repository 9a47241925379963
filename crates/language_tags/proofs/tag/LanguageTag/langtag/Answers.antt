use Rattle.std.proofs.Common.{sym}
use Rattle.std.proofs.lemmas.Result.{MatchResult-at_err, err_from_is_err_and}
use Rattle.language_tags_grammar.specs.Pieces.{lowercase, pieces}
use Rattle.language_tags_grammar.specs.Lemmas.Faults.{Scanned, scanned_law}
use Rattle.language_tags_grammar.specs.TagFault.{IsFaultOfPieces}
use Rattle.language_tags_grammar.specs.Lemmas.PieceLaws.{some_piece}
use Rattle.language_tags.proofs.tag.LanguageTag.langtag.Goals as goal

pub with_ends-requires : goal.with_ends-requires
with_ends-requires c = sym c.in_ok-ends.ensures

pub returns-in_err-ends-clause-err : goal.returns-in_err-ends-clause-err
returns-in_err-ends-clause-err c =
    let ps = pieces (lowercase c.args.text.now) in
    let p = err_from_is_err_and c.from_residual.result c.from_residual.ensures.1 in
    rw (p.1, p.2)
    (λ other. MatchResult-at_err (Scanned ps) (IsFaultOfPieces ps) _ (sym c.in_err-ends.ensures)
    (scanned_law ps (some_piece (lowercase c.args.text.now))))
