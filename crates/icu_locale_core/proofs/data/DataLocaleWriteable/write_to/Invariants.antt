use Rattle.std.proofs.Common.{map, take}
use Rattle.std.specs.List.{concat}
use Rattle.icu_locale_core.proofs.data.DataLocaleWriteable.write_to.Given as goal

-- the sink took the pieces so far
abbrev pub invariant-loop-piece : goal.invariant-loop-piece
invariant-loop-piece g l =
    g.S.Sink.took l.fn.sink
    (concat (map (λ piece. piece.now) (take l.piece-index l.piece-items))) l.sink
