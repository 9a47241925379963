-- Numbers that ascend.
use Rattle.std.specs.Prelude.{ℕ, Bool, true, ◌&&◌, nat_lt, List, [], ◌∷◌}

abbrev pub is_below_first : ℕ → List ℕ → Bool
is_below_first number [] = true
is_below_first number (next ∷ numbers) = nat_lt number next

-- each is less than the next
abbrev pub ascends : List ℕ → Bool
ascends [] = true
ascends (number ∷ numbers) = is_below_first number numbers && ascends numbers
