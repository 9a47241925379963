use Rattle.std.proofs.Common.{◌≡◌, ◌&&◌, ℕ, slice_index}
use Rattle.lazy_dfa.specs.Sets.{has, any_below}
use Rattle.lazy_dfa.proofs.automaton.Automaton.behind.Given as goal

abbrev pub invariant-loop-place : goal.invariant-loop-place
invariant-loop-place l =
    (q : ℕ) → has l.next q ≡ any_below l.place
    (λ p. has l.positions p && has (slice_index l.self.follow p) q)
