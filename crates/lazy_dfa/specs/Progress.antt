-- How the crate works: what a stepper keeps of a text.
use Rattle.std.specs.Prelude.{◌≡◌, ◌↔◌, ◌<◌, ℕ, true, List, [], length, Option, Some, None}
use Rattle.lazy_dfa.specs.Expression.{Expression}
use Rattle.lazy_dfa.specs.Meaning.{after}
use Rattle.lazy_dfa.specs.Machine.{Machine}
use Rattle.lazy_dfa.specs.Sets.{has}

-- what a contract sees of a stepper: the condition, the positions that the text so far reaches
-- (none before its first character), and how many pushes were refused
pub record Progress : Type 0 where
  pub machine : Machine
  pub reached : Option ℕ
  pub refusals : ℕ

-- a stepper as it is made
abbrev pub begun : Machine → Progress
begun m = record { machine = m; reached = None; refusals = 0 }

-- the positions are those that the text reaches
abbrev pub IsReached : Expression → List ℕ → Option ℕ → Type 0
IsReached c u None = u ≡ []
IsReached c u (Some set) = (0 < length u) × ((p : ℕ) → (has set p ≡ true) ↔ after c u p)
