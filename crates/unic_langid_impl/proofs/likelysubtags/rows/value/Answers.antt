use Rattle.unic_langid_impl.proofs.CellLemmas.{triple-cell, triple-none}
use Rattle.unic_langid_impl.proofs.likelysubtags.rows.value.Goals as goal

pub returns-in-Ok : goal.returns-in-Ok
returns-in-Ok c =
    triple-cell c.as_str-text.result.now c.args.cell.now c.as_str-text.utf8 c.as_str-text.ensures
    c.in-Ok.identifier
    c.printed_triple.result
    (rw c.as_bytes.ensures.value at c.in-Ok.ensures.ok) c.printed_triple.ensures

pub returns-in-Err-InvalidLanguage : goal.returns-in-Err-InvalidLanguage
returns-in-Err-InvalidLanguage c =
    triple-none c.as_str-text.result.now c.args.cell.now c.as_str-text.utf8 c.as_str-text.ensures
    c.in-Err-InvalidLanguage.field-0 (λ e. cc)
    (rw c.as_bytes.ensures.value at c.in-Err-InvalidLanguage.ensures.err)

pub returns-in-Err-InvalidSubtag : goal.returns-in-Err-InvalidSubtag
returns-in-Err-InvalidSubtag c =
    triple-none c.as_str-text.result.now c.args.cell.now c.as_str-text.utf8 c.as_str-text.ensures
    c.in-Err-InvalidSubtag.field-0 (λ e. cc)
    (rw c.as_bytes.ensures.value at c.in-Err-InvalidSubtag.ensures.err)
