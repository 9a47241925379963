-- A text that is taken character by character.
use Rattle.std.specs.Prelude.{◌≡◌, ℕ, List, ◌++◌, chars, IsUtf8}
use Rattle.writeable_replace.specs.Passed.{Passed}
use Rattle.writeable_replace.specs.Position.{position, IsPosition}

-- the front of a text that was taken, at the position where the rest is left
pub record Along {S : Type 0} (took : S → List ℕ → S → Type 0) (needle r : List ℕ) (start : ℕ)
    (old : S) (text rest : List ℕ) (matched : ℕ) (new : S) : Type 0 where
  pub front : List ℕ
  pub parts : chars text ≡ front ++ chars rest
  pub utf8 : IsUtf8 rest
  pub is_position : IsPosition needle matched
  pub passed :
      Passed took (chars needle) r (position needle start) old front (position needle matched) new
