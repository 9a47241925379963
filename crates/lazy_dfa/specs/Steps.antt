-- How the crate works: one step of the automaton, and what the positions that a text reaches tell.
use Rattle.std.specs.Prelude.{◌≡◌, ℕ, Bool, true, ◌&&◌, Option, Some, None, slice_index, ◌⊎◌}
use Rattle.lazy_dfa.specs.Compiled.{atom_reads}
use Rattle.lazy_dfa.specs.Machine.{Machine}
use Rattle.lazy_dfa.specs.Sets.{has, any_below, Meet}

-- whether the atom at the place q can read the next character
abbrev pub next_has : Machine → Option ℕ → ℕ → Bool
next_has m None q = has m.whole.first q
next_has m (Some set) q = any_below m.size (λ p. has set p && has (slice_index m.follow p) q)

-- what is reached with the character d more
abbrev pub IsStep : Machine → Option ℕ → ℕ → Option ℕ → Type 0
IsStep m r d None = ⊥
IsStep m r d (Some set) =
    (q : ℕ) → has set q ≡ (next_has m r q && atom_reads m.ranges m.negated q d)

-- a text that reaches these positions decides: none is left, or one of them can be the last
abbrev pub IsDecidedAt : Machine → Option ℕ → Type 0
IsDecidedAt m None = m.whole.empty ≡ true
IsDecidedAt m (Some set) = (set ≡ 0) ⊎ Meet set m.whole.last

-- the condition holds on a text that reaches these positions
abbrev pub HoldsAt : Machine → Option ℕ → Type 0
HoldsAt m None = m.whole.empty_at_end ≡ true
HoldsAt m (Some set) = Meet set m.whole.last_at_end
