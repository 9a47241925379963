-- A text that is compared with other bytes, a piece at a time.
use Rattle.std.specs.Prelude.{◌≡◌, ℕ, ◌≤◌, List, ◌++◌, encode_utf8_all}
use Rattle.std.specs.Ordering.{nat_cmp, ordering_then}
use Rattle.std.specs.Cmp.Lexicographic.{slice_cmp}
use Rattle.std.specs.declared.cmp.Ordering.{Ordering}
use Rattle.std.specs.declared.cmp.Ordering.TheVariants.{Less, Equal, Greater}

-- the other bytes that are left, and the order of what was compared: Equal so far, or what decides
pub record Comparison : Type 0 where
  pub rest : List ℕ
  pub order : Ordering

-- the order of the whole if these bytes follow
abbrev pub outcome : Comparison → List ℕ → Ordering
outcome comparison more = ordering_then comparison.order (slice_cmp nat_cmp more comparison.rest)

-- how often the comparison was decided: once at most
abbrev pub decisions : Ordering → ℕ
decisions Less = 1
decisions Equal = 0
decisions Greater = 1

-- whatever follows, the comparison ends as if it began with these bytes
pub record ComparedBytes (before : Comparison) (bytes : List ℕ) (now : Comparison) : Type 0 where
  pub outcome : (more : List ℕ) → outcome before (bytes ++ more) ≡ outcome now more
  pub later : decisions before.order ≤ decisions now.order

abbrev pub Compared : Comparison → List ℕ → Comparison → Type 0
Compared before text now = ComparedBytes before (encode_utf8_all text) now
