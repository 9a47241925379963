-- How the crate works: sets of the places 0 to 63, as the bits of a number.
use Rattle.std.specs.Prelude.{◌≡◌, ℕ, zero, suc, ◌==◌, Bool, true, false, ◌||◌}
use Rattle.std.specs.Int.{bit_at}

-- whether a place is in the set
abbrev pub has : ℕ → ℕ → Bool
has set place = bit_at set place == 1

-- whether a test passes at a place below n
unfoldable pub any_below : ℕ → (ℕ → Bool) → Bool
any_below zero test = false
any_below (suc n) test = any_below n test || test n

-- two sets have a place in common
pub record Meet (left right : ℕ) : Type 0 where
  pub place : ℕ
  pub in_left : has left place ≡ true
  pub in_right : has right place ≡ true
