-- Each turn so far gave a byte at least, none failed, and what was given stands in the bytes.
use Rattle.std.proofs.Common.{◌≡◌, ℕ, ◌≤◌, List, length, Option}
use Rattle.std.specs.Io.KnownBytes.{Consumes}
use Rattle.reading.proofs.turns.read_turns.Given as goal

pub record Kept (left_before left : Option (List ℕ)) (faults_before faults turn most : ℕ)
    (bytes : List ℕ) : Type 0 where
  pub taken : Consumes left_before left bytes
  pub no_fault : faults ≡ faults_before
  pub each_turn : turn ≤ length bytes
  pub within : length bytes ≤ most

abbrev pub invariant-loop-turn : goal.invariant-loop-turn
invariant-loop-turn g l =
    Kept (g.S.Source.left l.initial.source) (g.S.Source.left l.source)
    (g.S.Source.faults l.initial.source)
    (g.S.Source.faults l.source) l._turn l.most l.bytes.items
