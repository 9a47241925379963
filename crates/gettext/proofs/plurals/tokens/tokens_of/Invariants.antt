use Rattle.std.proofs.Common.{length}
use Rattle.gettext.proofs.Words.{IsReading}
use Rattle.gettext.proofs.plurals.tokens.tokens_of.Given as goal

abbrev pub invariant-loop-first : goal.invariant-loop-first
invariant-loop-first l = IsReading l.text l.tokens.items l.rest

abbrev pub decreases-loop-first : goal.decreases-loop-first
decreases-loop-first l = length l.rest
