use Rattle.std.proofs.Common.{◌≡◌}
use Rattle.std.specs.List.{list_any}
use Rattle.std.specs.Str.{bytes_eq}
use Rattle.language_tags.proofs.validity.contains.Given as goal

-- what is left has the piece exactly where all have
abbrev pub invariant-loop-other : goal.invariant-loop-other
invariant-loop-other l =
    list_any (bytes_eq l.piece) l.other-iterator ≡ list_any (bytes_eq l.piece) l.fn.pieces
