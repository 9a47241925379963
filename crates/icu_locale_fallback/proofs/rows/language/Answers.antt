use Rattle.icu_locale_core.specs.Shapes.{IsLanguage}
use Rattle.icu_locale_core.specs.ShapeLaws.{language-IsAscii}
use Rattle.icu_locale_fallback.proofs.Cells.{subtag_of_cell}
use Rattle.icu_locale_fallback.proofs.rows.language.Goals as goal

pub returns : goal.returns
returns c =
    rw c.ok.ensures.value
    (subtag_of_cell IsLanguage language-IsAscii c.try_from_str.result _ _ c.as_str.utf8
    c.as_str.ensures c.try_from_str.ensures)
