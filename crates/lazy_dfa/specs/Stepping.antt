-- Reading a text a piece at a time: when a condition is decided, what a stepper has read, and what
-- a push takes.
use Rattle.std.specs.Prelude.{◌≡◌, ◌≤◌, ◌<◌, ℕ, List, ◌++◌, length, Result, Ok, Err, ◌⊎◌}
use Rattle.lazy_dfa.specs.Expression.{Expression}
use Rattle.lazy_dfa.specs.Meaning.{early, front}
use Rattle.lazy_dfa.specs.Machine.{IsFor}
use Rattle.lazy_dfa.specs.Progress.{Progress, IsReached}

-- the condition is decided by the text: it holds whatever follows, or fails whatever follows
abbrev pub Decided : Expression → List ℕ → Type 0
Decided c u = early c u ⊎ (front c u → ⊥)

-- The stepper read the text. It passed no place at which the condition holds whatever follows, and
-- refused a push only where the condition was decided.
pub record HasRead (c : Expression) (u : List ℕ) (s : Progress) : Type 0 where
  pub reached : IsReached c u s.reached
  pub unsettled : (v w : List ℕ) → u ≡ v ++ w → 0 < length w → early c v → ⊥
  pub refused : 0 < s.refusals → Decided c u

-- the stepper took the text: whatever it had read before, it has read that and the text
pub record Took (before : Progress) (text : List ℕ) (now : Progress) : Type 0 where
  pub machine : now.machine ≡ before.machine
  pub read : (c : Expression) (u : List ℕ) → IsFor before.machine c → HasRead c u before
      → HasRead c (u ++ text) now
  pub later : before.refusals ≤ now.refusals

-- no prefix of the piece decides
abbrev pub NoneDecides : Expression → List ℕ → List ℕ → Type 0
NoneDecides c u piece = (q r : List ℕ) → q ++ r ≡ piece → Decided c (u ++ q) → ⊥

-- the shortest prefix of the piece that decides was taken
pub record TookShortest (c : Expression) (u : List ℕ) (piece : List ℕ) (before now : Progress) :
    Type 0 where
  pub prefix : List ℕ
  pub rest : List ℕ
  pub parts : prefix ++ rest ≡ piece
  pub taken : Took before prefix now
  pub decides : Decided c (u ++ prefix)
  pub shortest : (q r : List ℕ) → q ++ r ≡ prefix → 0 < length r → Decided c (u ++ q) → ⊥

-- A piece is taken whole where no prefix of it decides; else the push is refused, and took the
-- shortest that does.
abbrev pub Decides : {E : Type 0} → Expression → List ℕ → List ℕ → Progress → Result (Unit {0}) E
    → Progress → Type 0
Decides c u piece before (Ok x) now = NoneDecides c u piece
Decides c u piece before (Err e) now = TookShortest c u piece before now
