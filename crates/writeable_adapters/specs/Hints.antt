-- Hints of several texts.
use Rattle.std.specs.Prelude.{ℕ, List, fold}
use Rattle.writeable_core.specs.Hint.{exact, hint_sum}
use Rattle.writeable_core.specs.declared.length_hint.LengthHint.{LengthHint}

-- several texts, one after another
abbrev pub hint_total : List LengthHint → LengthHint
hint_total hints = fold hint_sum (exact 0) hints

-- several texts of these lengths, one after another
abbrev pub length_total : List ℕ → LengthHint
length_total lengths = fold (λ a n. hint_sum a (exact n)) (exact 0) lengths
