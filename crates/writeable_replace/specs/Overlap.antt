-- The front of a text that ends another text: where a match that is open may go on.
use Rattle.std.specs.Prelude.{◌≡◌, ℕ, ◌-◌, ◌≤◌, zero, suc, Bool, if◌then◌else◌, List, ◌++◌, length}
use Rattle.std.specs.Prelude.{take, nat_eq}
use Rattle.std.specs.List.{ends_with}

-- a text ends with a part
pub record Ends (part text : List ℕ) : Type 0 where
  pub before : List ℕ
  pub parts : before ++ part ≡ text

-- The first j characters of p are the longest proper front of p that ends w. For an empty p, j is
-- 0.
pub record IsOverlap (p w : List ℕ) (j : ℕ) : Type 0 where
  pub proper : j ≤ length p - 1
  pub ends : Ends (take j p) w
  pub longest : (i : ℕ) → i ≤ length p - 1 → Ends (take i p) w → i ≤ j

-- the greatest number up to n that passes a test, or 0
abbrev pub greatest : (ℕ → Bool) → ℕ → ℕ
greatest test zero = 0
greatest test (suc n) = if test (suc n) then suc n else greatest test n

-- the length of the longest proper front of p that ends w
abbrev pub overlap : List ℕ → List ℕ → ℕ
overlap p w = greatest (λ j. ends_with nat_eq w (take j p)) (length p - 1)
