use Rattle.std.proofs.Common.{length, ◌+◌, ◌*◌}
use Rattle.lazy_dfa.proofs.automaton.Automaton.+parser.Given as goal

abbrev pub decreases-alternatives : goal.decreases-alternatives
decreases-alternatives l = 5 * length l.text.now + 3

abbrev pub decreases-atom : goal.decreases-atom
decreases-atom l = 5 * length l.text.now

abbrev pub decreases-group : goal.decreases-group
decreases-group l = 5 * length l.inside.now + 4

abbrev pub decreases-repetition : goal.decreases-repetition
decreases-repetition l = 5 * length l.text.now + 1

abbrev pub decreases-sequence : goal.decreases-sequence
decreases-sequence l = 5 * length l.text.now + 2
