use Rattle.std.proofs.Common.{map}
use Rattle.language_tags_grammar.specs.Pieces.{lowercase, pieces}
use Rattle.language_tags_grammar.specs.Lemmas.PrivateLaws.{Checked}
use Rattle.language_tags_grammar.proofs.private_use.check.Given as goal

-- the pieces so far are of one to eight bytes
abbrev pub invariant-loop-piece : goal.invariant-loop-piece
invariant-loop-piece l = Checked (pieces (lowercase l.rest)) (map lowercase l.piece-iterator)
