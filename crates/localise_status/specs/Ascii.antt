-- Texts in ASCII.
use Rattle.std.specs.Prelude.{ℕ, List, Bool, nat_lt}
use Rattle.std.specs.List.{list_all}

-- whether each byte of a text is ASCII
abbrev pub in_ascii : List ℕ → Bool
in_ascii text = list_all (λ c. nat_lt c 128) text
