use Rattle.gettext.proofs.Pieces.{IsAtPiece}
use Rattle.gettext.proofs.spans.nth_span.Given as goal

abbrev pub invariant-loop : goal.invariant-loop
invariant-loop l = IsAtPiece l.text l.counter l.start
