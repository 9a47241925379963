use Rattle.gettext.proofs.PushedRows.{IsPushing}
use Rattle.gettext.proofs.parser.rows.push_rows.Given as goal

abbrev pub invariant-loop-index : goal.invariant-loop-index
invariant-loop-index l =
    IsPushing l.initial.rows.items l.rows.items l.bytes l.encoding l.first l.header.count l.index
