use Rattle.lazy_dfa.proofs.Linking.{LinkedBelow}
use Rattle.lazy_dfa.proofs.automaton.Automaton.link.Given as goal

abbrev pub invariant-loop-place : goal.invariant-loop-place
invariant-loop-place l = LinkedBelow l.place l.initial.self l.last l.first l.self
