use Rattle.std.proofs.Common.{◌≡◌, map, drop}
use Rattle.std.specs.Cmp.Lexicographic.{slice_cmp}
use Rattle.std.specs.List.{concat}
use Rattle.std.specs.Ordering.{nat_cmp}
use Rattle.icu_locale_core.specs.Locale.{print}
use Rattle.icu_locale_core.proofs.data.DataLocale.strict_cmp.Given as goal

-- what is left of the text compares with what is left of `other` as the whole does
abbrev pub invariant-loop-piece : goal.invariant-loop-piece
invariant-loop-piece l =
    slice_cmp nat_cmp (print l.self) l.other
    ≡ slice_cmp nat_cmp
    (concat (map (λ piece. piece.now) (drop l.piece-index l.piece-items))) l.rest
