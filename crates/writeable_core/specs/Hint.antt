-- Hints on the length of a text in UTF-8: a lower bound, and an upper bound where there is one.
use Rattle.std.specs.Prelude.{ℕ, ◌+◌, ◌-◌, ◌*◌, ◌^◌, ◌≤◌, min, max, nat_le, if◌then◌else◌, List}
use Rattle.std.specs.Prelude.{length, Option, Some, None, IfSome, option_and_then, encode_utf8_all}
use Rattle.std.specs.Prelude.{unwrap_or}
use Rattle.writeable_core.specs.declared.length_hint.LengthHint.{LengthHint}

-- how many bytes a text has in UTF-8
abbrev pub byte_length : List ℕ → ℕ
byte_length text = length (encode_utf8_all text)

-- a length is at least the hint's lower bound, and at most its upper bound where there is one
pub record Hinted (hint : LengthHint) (len : ℕ) : Type 0 where
  pub lower : hint.0 ≤ len
  pub upper : IfSome hint.1 (λ most. len ≤ most)

-- nothing is known
abbrev pub undefined : LengthHint
undefined = record { 0 = 0; 1 = None }

-- the length is n
abbrev pub exact : ℕ → LengthHint
exact n = record { 0 = n; 1 = Some n }

abbrev pub at_least : ℕ → LengthHint
at_least n = record { 0 = n; 1 = None }

abbrev pub at_most : ℕ → LengthHint
at_most n = record { 0 = 0; 1 = Some n }

-- the lesser of the two is the lower bound
abbrev pub between : ℕ → ℕ → LengthHint
between n m = record { 0 = min n m; 1 = Some (max n m) }

-- a lower bound stops at the greatest `usize`
abbrev pub saturated : ℕ → ℕ
saturated n = min n (2 ^ 64 - 1)

-- an upper bound past the greatest `usize` is none
abbrev pub fitting : ℕ → Option ℕ
fitting n = if nat_le n (2 ^ 64 - 1) then Some n else None

-- a bound made of two, where both are there
abbrev pub of_both : (ℕ → ℕ → Option ℕ) → Option ℕ → Option ℕ → Option ℕ
of_both f None b = None
of_both f (Some x) None = None
of_both f (Some x) (Some y) = f x y

-- one text, and then another
abbrev pub hint_sum : LengthHint → LengthHint → LengthHint
hint_sum a b = record { 0 = saturated (a.0 + b.0); 1 = of_both (λ x y. fitting (x + y)) a.1 b.1 }

-- a text n times
abbrev pub hint_times : LengthHint → ℕ → LengthHint
hint_times a n = record { 0 = saturated (a.0 * n); 1 = option_and_then (λ x. fitting (x * n)) a.1 }

-- one text or another
abbrev pub hint_either : LengthHint → LengthHint → LengthHint
hint_either a b = record { 0 = min a.0 b.0; 1 = of_both (λ x y. Some (max x y)) a.1 b.1 }

-- the upper bound where there is one, else the lower
abbrev pub hint_capacity : LengthHint → ℕ
hint_capacity h = unwrap_or h.1 h.0

-- the length of a text that is known
abbrev pub text_hint : List ℕ → LengthHint
text_hint text = exact (byte_length text)
