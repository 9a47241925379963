use Rattle.std.proofs.Common.{◌<◌, ◌+◌, subst, arith, length}
use Rattle.writeable_core.specs.Sink.{TookPrefix}
use Rattle.writeable_core.specs.SinkLaws.{on_err}
use Rattle.icu_locale_core.proofs.Pieces.{pieces-more, pieces-parts, text_from}
use Rattle.icu_locale_core.specs.ShapeLaws.{print-IsAscii}
use Rattle.icu_locale_core.proofs.data.DataLocaleWriteable.write_to.Goals as goal

-- the sink took the first pieces and a front of the next, which is a front of the text
pub returns-in_err-push_str-clause-err : goal.returns-in_err-push_str-clause-err
returns-in_err-push_str-clause-err g c =
    let within : c.loop-piece.piece-index < length c.pieces-piece-items.result = omega arith in
    on_err c.from_residual.result
    (subst (λ text. TookPrefix g.S.Sink.took c.args.sink.now text c.push_str.new.self)
    (pieces-parts c.pieces-piece-items.result _ c.pieces-piece-items.ensures.whole
    (print-IsAscii c.args.self.now c.pieces-piece-items.ensures.shape)
    c.loop-piece.piece-index _ within)
    (g.met.S.Sink.front_longer _ _ _
    (text_from c.pieces-piece-items.result (c.loop-piece.piece-index + 1))
    (g.met.S.Sink.front_behind _ _ _ _ _ c.loop-piece.invariant c.in_err-push_str.ensures.err)))

pub loop-piece-preserved : goal.loop-piece-preserved
loop-piece-preserved g c =
    let within : c.loop-piece.piece-index < length c.pieces-piece-items.result = omega arith in
    subst (λ text. g.S.Sink.took c.args.sink.now text c.push_str.new.self)
    (pieces-more c.pieces-piece-items.result _ c.pieces-piece-items.ensures.whole
    (print-IsAscii c.args.self.now c.pieces-piece-items.ensures.shape)
    c.loop-piece.piece-index _ within)
    (g.met.S.Sink.took_both _ _ _ _ _ c.loop-piece.invariant c.in_ok-push_str.ensures.ok)
