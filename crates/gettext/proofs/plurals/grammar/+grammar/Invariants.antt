use Rattle.std.proofs.Common.{◌-◌, ◌+◌, ◌*◌}
use Rattle.gettext.specs.Grammar.{rank}
use Rattle.gettext.proofs.Chains.{IsChained}
use Rattle.gettext.proofs.plurals.grammar.+grammar.Given as goal

abbrev pub decreases-atom : goal.decreases-atom
decreases-atom l = l.budget * 32 - 1

abbrev pub decreases-chain : goal.decreases-chain
decreases-chain l = l.budget * 32 + 2 * rank l.level

abbrev pub decreases-conditional : goal.decreases-conditional
decreases-conditional l = l.budget * 32 + 16

abbrev pub decreases-part_at : goal.decreases-part_at
decreases-part_at l = l.budget * 32 + 2 * rank l.level + 1

abbrev pub decreases-unary : goal.decreases-unary
decreases-unary l = l.budget * 32 + 2

abbrev pub invariant-chain-loop-operator : goal.invariant-chain-loop-operator
invariant-chain-loop-operator l = IsChained l.budget l.level l.tokens l.left

abbrev pub decreases-chain-loop-operator : goal.decreases-chain-loop-operator
decreases-chain-loop-operator l = l.budget - l.left.height

abbrev pub decreases-in_parentheses : goal.decreases-in_parentheses
decreases-in_parentheses l = l.budget * 32 - 2
