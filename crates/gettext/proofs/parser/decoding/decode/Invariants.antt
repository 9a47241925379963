use Rattle.std.proofs.Common.{drop}
use Rattle.gettext.proofs.DecodedRows.{IsDecoding}
use Rattle.gettext.proofs.parser.decoding.decode.Given as goal

abbrev pub invariant-loop-row : goal.invariant-loop-row
invariant-loop-row l = IsDecoding l.bytes l.fn.first l.later l.rows l.texts.items l.decoded.items
    l.encoding (drop l.row-index l.rows)
