use Rattle.std.proofs.Common.{◌<◌, arith, refl, length}
use Rattle.std.proofs.lemmas.Grind.{put_two}
use Rattle.icu_locale_core.proofs.Pieces.{concat-take-more}
use Rattle.icu_locale_core.proofs.data.DataLocaleDisplay.fmt.Goals as goal

pub loop-piece-preserved : goal.loop-piece-preserved
loop-piece-preserved g c = λ plain.
    let before = c.loop-piece.invariant plain in
    let within : c.loop-piece.piece-index < length c.pieces-piece-items.result = omega arith in
    put_two _ _ _ _ _ _ _ before (c.in_ok-write_str.ensures.writes before.plain refl)
    (concat-take-more c.pieces-piece-items.result c.loop-piece.piece-index _ _ within refl)
