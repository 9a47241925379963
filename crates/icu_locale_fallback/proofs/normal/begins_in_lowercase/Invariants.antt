use Rattle.std.proofs.Common.{◌≡◌, ℕ, ◌<◌, length, slice_index}
use Rattle.std.specs.Char.{to_ascii_lowercase}
use Rattle.icu_locale_fallback.proofs.normal.begins_in_lowercase.Given as goal

-- each byte so far is the lower case of the front's
abbrev pub invariant-loop-upper : goal.invariant-loop-upper
invariant-loop-upper l =
    (k : ℕ) → k < length l.yielded
    → to_ascii_lowercase (slice_index l.front k) ≡ slice_index l.text k
