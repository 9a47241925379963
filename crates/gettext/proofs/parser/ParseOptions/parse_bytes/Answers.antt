use Rattle.std.proofs.lemmas.Result.{err_from_is_err_and}
use Rattle.gettext.proofs.parser.ParseOptions.parse_bytes.Goals as goal

pub returns-in_err-entries-clause-read : goal.returns-in_err-entries-clause-read
returns-in_err-entries-clause-read g c =
    let p = err_from_is_err_and c.from_residual.result c.from_residual.ensures.1 in
    rw (p.1, p.2) (rw c.options.ensures at c.in_err-entries.ensures)
