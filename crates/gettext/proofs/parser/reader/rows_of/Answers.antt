use Rattle.std.proofs.Common.{inr}
use Rattle.std.proofs.lemmas.Result.{err_from_is_err_and}
use Rattle.gettext.proofs.FileRows.{no_rows, first_fails, metadata_fail, others_fail, all_read}
use Rattle.gettext.proofs.parser.reader.rows_of.Goals as goal

pub returns-then-header-eq0 : goal.returns-then-header-eq0
returns-then-header-eq0 c =
    no_rows _ _ _ _ _ c.if-header-eq0.true c.new-rows.ensures.items c.plain.ensures

pub returns-in_err-first : goal.returns-in_err-first
returns-in_err-first c =
    let p = err_from_is_err_and c.from_residual.result c.from_residual.ensures.1 in
    let h = rw c.first_encoding.ensures at c.in_err-first.ensures in
    rw (p.1, p.2)
    (inr (first_fails c.args.bytes.now c.args.options c.args.header.count c.if-header-eq0.false
    _ h))

pub returns-in_err-settings : goal.returns-in_err-settings
returns-in_err-settings c =
    let p = err_from_is_err_and c.from_residual-in_err-settings.result
    c.from_residual-in_err-settings.ensures.1 in
    let first = rw c.first_encoding.ensures at c.in_ok-first.ensures.1 in
    rw (p.1, p.2)
    (metadata_fail c.args.bytes.now c.args.options c.args.header.count c.if-header-eq0.false first
    _ c.in_err-settings.ensures)

pub returns-in_err-push_rows : goal.returns-in_err-push_rows
returns-in_err-push_rows c =
    let p = err_from_is_err_and c.from_residual-in_err-push_rows.result
    c.from_residual-in_err-push_rows.ensures.1 in
    let first = rw c.first_encoding.ensures at c.in_ok-first.ensures.1 in
    rw (p.1, p.2)
    (others_fail c.args.bytes.now c.args.options c.args.header.count c.if-header-eq0.false first
    c.in_ok-settings.settings c.in_ok-settings.ensures.0 c.in_ok-settings.ensures.1
    _ c.in_err-push_rows.ensures)

pub returns : goal.returns
returns c =
    let first = rw c.first_encoding.ensures at c.in_ok-first.ensures in
    all_read _ _ _ c.if-header-eq0.false first.1 _ c.in_ok-settings.ensures.0
    c.in_ok-settings.ensures.1 _ _ _ first.0
    (rw c.new-rows.ensures.items at c.in_ok-push.ensures.items) c.in_ok-push_rows.ensures.0
    c.in_ok-push_rows.ensures.1
