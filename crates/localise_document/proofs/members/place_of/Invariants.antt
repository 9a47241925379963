use Rattle.std.proofs.Common.{◌≡◌, ℕ, ◌<◌, ◌≤◌, [], get_or, false, bytes_eq}
use Rattle.localise_document.specs.Members.{texts}
use Rattle.localise_document.proofs.members.place_of.Given as goal

abbrev pub invariant-loop-place : goal.invariant-loop-place
invariant-loop-place l = (k : ℕ) → k < l.place → l.fn.from ≤ k
    → bytes_eq l.key (get_or (texts l.names) k []) ≡ false

abbrev pub invariant-loop-earlier : goal.invariant-loop-earlier
invariant-loop-earlier l = (k : ℕ) → k < l.earlier
    → bytes_eq l.key (get_or (texts l.names) k []) ≡ false
