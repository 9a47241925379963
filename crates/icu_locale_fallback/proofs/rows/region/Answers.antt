use Rattle.icu_locale_core.specs.Shapes.{IsRegion}
use Rattle.icu_locale_core.specs.ShapeLaws.{region-IsAscii}
use Rattle.icu_locale_fallback.proofs.Cells.{subtag_of_cell}
use Rattle.icu_locale_fallback.proofs.rows.region.Goals as goal

pub returns : goal.returns
returns c =
    rw c.ok.ensures.value
    (subtag_of_cell IsRegion region-IsAscii c.try_from_str.result _ _ c.as_str.utf8
    c.as_str.ensures c.try_from_str.ensures)
