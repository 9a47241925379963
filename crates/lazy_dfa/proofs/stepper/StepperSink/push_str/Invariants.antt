use Rattle.lazy_dfa.proofs.Pushing.{Passed}
use Rattle.lazy_dfa.proofs.stepper.StepperSink.push_str.Given as goal

abbrev pub invariant-loop-c : goal.invariant-loop-c
invariant-loop-c l = Passed l.initial.self l.yielded l.self
