use Rattle.std.proofs.Common.{sym, ◌∙◌}
use Rattle.std.proofs.lemmas.Bool.{false≢true}
use Rattle.tinystr.specs.Shapes.{IsScript}
use Rattle.tinystr.specs.ShapesLaws.{tiny_script, tiny-IsAscii}
use Rattle.tinystr.specs.Text.{titlecase}
use Rattle.unic_langid_impl.proofs.CellLemmas.{subtag-cell, subtag-none, subtag-other}
use Rattle.unic_langid_impl.proofs.PrintLemmas.{script-title}
use Rattle.unic_langid_impl.proofs.likelysubtags.rows.script.Goals as goal

pub returns-in_default : goal.returns-in_default
returns-in_default c =
    subtag-none c.as_str-text.result.now c.args.cell.now c.as_str-text.utf8 c.as_str-text.ensures
    IsScript titlecase script-title
    (λ t h. tiny-IsAscii 4 t (tiny_script t h))
    (rw c.as_bytes.ensures.value at c.in_default.ensures.value)

pub returns-then-eq_str : goal.returns-then-eq_str
returns-then-eq_str c =
    let read = rw c.as_bytes.ensures.value at c.in-Ok.ensures.value in
    subtag-cell c.as_str-text.result.now c.args.cell.now c.as_str-text.utf8 c.as_str-text.ensures
    IsScript titlecase script-title
    (λ t h. tiny-IsAscii 4 t (tiny_script t h)) c.in-Ok.script read.0 read.1
    (c.eq_str.ensures.0 c.if-eq_str.true)

pub returns-else-eq_str : goal.returns-else-eq_str
returns-else-eq_str c =
    let read = rw c.as_bytes.ensures.value at c.in-Ok.ensures.value in
    subtag-other c.as_str-text.result.now c.args.cell.now c.as_str-text.utf8 c.as_str-text.ensures
    IsScript titlecase script-title
    (λ t h. tiny-IsAscii 4 t (tiny_script t h)) c.in-Ok.script read.1
    (λ e. false≢true (sym c.if-eq_str.false ∙ c.eq_str.ensures.1 e))
