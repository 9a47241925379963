use Rattle.std.proofs.lemmas.Bool.{false≢true}
use Rattle.icu_locale_fallback.proofs.Cells.{triple_of_cell, none_of_cell}
use Rattle.icu_locale_fallback.proofs.rows.triple.Goals as goal

pub returns-in-Ok : goal.returns-in-Ok
returns-in-Ok c =
    triple_of_cell _ _ c.as_str.utf8 c.as_str.ensures _ _ c.in-Ok.ensures.shape c.in-Ok.ensures.ok
    c.try_of.ensures

pub returns-in-Err : goal.returns-in-Err
returns-in-Err c =
    none_of_cell _ _ c.as_str.utf8 c.as_str.ensures
    (λ printed. false≢true (c.in-Err.ensures.variant.1 printed))
