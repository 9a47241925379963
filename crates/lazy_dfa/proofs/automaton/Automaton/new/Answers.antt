use Rattle.std.proofs.Common.{ap}
use Rattle.std.specs.List.{list_any}
use Rattle.lazy_dfa.specs.Compiled.{range_reads}
use Rattle.lazy_dfa.proofs.Sets.{has-none}
use Rattle.lazy_dfa.proofs.Building.{zeros_have}
use Rattle.lazy_dfa.proofs.automaton.Automaton.new.Goals as goal

pub returns-clause-fresh : goal.returns-clause-fresh
returns-clause-fresh c = record {
  follows = λ p q le. zeros_have 64 p q;
  negations = λ p le. has-none p;
  ranges = λ p d le. ap (list_any (range_reads p d)) c.new.ensures.items;
}
