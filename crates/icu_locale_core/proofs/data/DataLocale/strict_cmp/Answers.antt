use Rattle.std.proofs.Common.{◌<◌, ◌∙◌, sym, arith, length}
use Rattle.icu_locale_core.proofs.Pieces.{cmp-equal_piece, cmp-other_piece}
use Rattle.icu_locale_core.proofs.data.DataLocale.strict_cmp.Goals as goal

pub returns-in_default : goal.returns-in_default
returns-in_default c =
    let within : c.loop-piece.piece-index < length c.pieces-piece-items.result =
    omega arith in record {
      order = sym (c.loop-piece.invariant
          ∙ cmp-other_piece _ _ _ _ _ _ _ _ _ within c.as_bytes.ensures.value c.min.ensures
          c.split_at.ensures.front c.split_at.ensures.back c.cmp.ensures c.in_default.not-Equal);
      shape = c.pieces-piece-items.ensures.shape;
    }

pub loop-piece-preserved : goal.loop-piece-preserved
loop-piece-preserved c =
    let within : c.loop-piece.piece-index < length c.pieces-piece-items.result = omega arith in
    c.loop-piece.invariant
    ∙ cmp-equal_piece _ _ _ _ _ _ _ _ within c.as_bytes.ensures.value c.min.ensures
    c.split_at.ensures.front c.split_at.ensures.back c.in-Equal.ensures
