-- How much of a text was matched: so many bytes, or the characters that they are.
use Rattle.std.specs.Prelude.{◌≡◌, ℕ, ◌+◌, ◌-◌, ◌<◌, ◌≤◌, suc, List, [], ◌∷◌, ◌++◌, length, take}
use Rattle.std.specs.Prelude.{chars, IsCharBoundary}
use Rattle.std.specs.Char.{len_utf8}
use Rattle.writeable_replace.specs.Overlap.{Ends, IsOverlap}
use Rattle.writeable_replace.specs.Passed.{so_far, Came}

-- how many characters the first n bytes of a text are
abbrev pub position : List ℕ → ℕ → ℕ
position bytes n = length (chars (take n bytes))

-- n bytes are a front of the needle, and not the whole of it, unless it is empty
pub record IsPosition (needle : List ℕ) (n : ℕ) : Type 0 where
  pub boundary : IsCharBoundary needle n
  pub proper : position needle n ≤ length (chars needle) - 1

-- p goes on with the character c behind its first i characters
abbrev pub GoesOn : List ℕ → ℕ → ℕ → Type 0
GoesOn p i c = take (suc i) p ≡ take i p ++ c ∷ []

-- The bytes behind a position begin with those of c: the text goes on with c, and the position
-- behind it is one character further.
pub record Next (bytes : List ℕ) (n c : ℕ) : Type 0 where
  pub goes_on : GoesOn (chars bytes) (position bytes n) c
  pub boundary : IsCharBoundary bytes (n + len_utf8 c)
  pub position : position bytes (n + len_utf8 c) ≡ suc (position bytes n)

-- n bytes are the longest front of a text that ends it and isn't all of it
pub record Border (bytes : List ℕ) (n : ℕ) : Type 0 where
  pub boundary : IsCharBoundary bytes n
  pub overlap : IsOverlap (chars bytes) (chars bytes) (position bytes n)

-- The first i characters of p end its first k, and none of the longer fronts that do so, up to the
-- k themselves, goes on with c.
pub record IsTried (p : List ℕ) (k c i : ℕ) : Type 0 where
  pub within : i ≤ k
  pub ends : Ends (take i p) (take k p)
  pub longer : (l : ℕ) → i < l → l ≤ k → Ends (take l p) (take k p) → GoesOn p l c → ⊥

-- so many bytes of the needle stay matched where c follows those that were, and the needle goes on
-- with c
pub record Resumed (needle : List ℕ) (matched c kept : ℕ) : Type 0 where
  pub within : kept ≤ matched
  pub boundary : IsCharBoundary needle kept
  pub tried : IsTried (chars needle) (position needle matched) c (position needle kept)
  pub next : Next needle kept c

-- the first n bytes of a text pass as they are, whatever the replacement, and as much stays matched
pub record IsFree (needle : List ℕ) (matched : ℕ) (text : List ℕ) (n : ℕ) : Type 0 where
  pub boundary : IsCharBoundary text n
  pub came : (r : List ℕ)
      → Came (chars needle) r
      (so_far (chars needle) (position needle matched) (chars (take n text)))
      (position needle matched) (chars (take n text))
