-- Hints of a text with replacements.
use Rattle.std.specs.Prelude.{ℕ, nat_le, if◌then◌else◌, None, option_and_then}
use Rattle.writeable_core.specs.declared.length_hint.LengthHint.{LengthHint}

-- A text in which needles of n bytes are replaced, each by the same text. A replacement that is no
-- shorter than the needle keeps the lower bound, one that is no longer keeps the upper bound. So an
-- exact hint of n keeps both.
abbrev pub hint_rule : LengthHint → ℕ → LengthHint → LengthHint
hint_rule source n replacement = record {
  0 = if nat_le n replacement.0 then source.0 else 0;
  1 = option_and_then (λ most. if nat_le most n then source.1 else None) replacement.1;
}
