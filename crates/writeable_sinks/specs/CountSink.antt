-- A count of bytes that ends at the greatest number of 64 bits.
use Rattle.std.specs.Prelude.{◌≡◌, ℕ, ◌+◌, ◌-◌, ◌^◌, min, max, List}
use Rattle.writeable_core.specs.Hint.{byte_length}

-- the count, so many bytes later: it stops at the greatest number, and never falls
abbrev pub counted : ℕ → ℕ → ℕ
counted before bytes = max before (min (before + bytes) (2 ^ 64 - 1))

-- the count after a text
abbrev pub Counts : ℕ → List ℕ → ℕ → Type 0
Counts before text now = now ≡ counted before (byte_length text)
