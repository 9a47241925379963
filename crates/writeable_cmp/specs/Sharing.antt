-- A text that other bytes may begin with.
use Rattle.std.specs.Prelude.{◌≡◌, ℕ, List, ◌++◌, take, length}

-- bytes begin with these
abbrev pub BeginsWith : List ℕ → List ℕ → Type 0
BeginsWith bytes front = take (length front) bytes ≡ front

-- what a contract sees of the sink that looks for its text in other bytes: the text so far, and
-- these bytes
pub record Sharing : Type 0 where
  pub text : List ℕ
  pub reference : List ℕ

abbrev pub sharing : List ℕ → List ℕ → Sharing
sharing text reference = record { text = text; reference = reference }

-- the text grew by what was taken
pub record Shared (old : Sharing) (piece : List ℕ) (new : Sharing) : Type 0 where
  pub text : new.text ≡ old.text ++ piece
  pub reference : new.reference ≡ old.reference
