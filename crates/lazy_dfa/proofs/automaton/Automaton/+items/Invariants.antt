use Rattle.std.proofs.Common.{length}
use Rattle.lazy_dfa.proofs.automaton.Automaton.+items.Given as goal

abbrev pub decreases-items : goal.decreases-items
decreases-items l = length l.text.now
