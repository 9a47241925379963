use Rattle.std.proofs.Common.{◌≡◌, length}
use Rattle.std.specs.List.{list_any, slice_split}
use denote.Text.{Utf8}
use denote.Shadow.{shadow}
use Rattle.language_tags.specs.Valid.{begins, is_space}
use Rattle.language_tags.proofs.validity.begins_with_any.Given as goal

-- one of the prefixes that are left begins the text exactly where one of all does
abbrev pub invariant-loop-prefix : goal.invariant-loop-prefix
invariant-loop-prefix l =
    shadow (Utf8 l.rest)
    × (list_any (begins l.text) (slice_split is_space l.rest)
    ≡ list_any (begins l.text) (slice_split is_space l.fn.prefixes))

abbrev pub decreases-loop-prefix : goal.decreases-loop-prefix
decreases-loop-prefix l = length (slice_split is_space l.rest)
