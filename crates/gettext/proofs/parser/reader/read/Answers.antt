use Rattle.std.proofs.Common.{sym, ◌∙◌, inr}
use Rattle.std.proofs.lemmas.Result.{err_from_is_err_and}
use Rattle.gettext.proofs.Files.{fit_in_place, file_in_place, file_decoded}
use Rattle.gettext.proofs.Meaning.{header_fails, rows_fail, all_pass}
use Rattle.gettext.proofs.parser.reader.read.Goals as goal

pub returns-in_err-header : goal.returns-in_err-header
returns-in_err-header c =
    let p = err_from_is_err_and c.from_residual.result c.from_residual.ensures.1 in
    rw (p.1, p.2)
    (inr (header_fails c.args.bytes.now c.args.options c.in_err-header.field-0.0
    c.in_err-header.ensures))

pub returns-in_err-rows : goal.returns-in_err-rows
returns-in_err-rows c =
    let p = err_from_is_err_and c.from_residual-in_err-rows.result
    c.from_residual-in_err-rows.ensures.1 in
    rw (p.1, p.2)
    (rows_fail c.args.bytes.now c.args.options c.in_ok-header.header.count
    _ c.in_ok-header.ensures.0.count c.in_ok-header.ensures.1 c.in_err-rows.ensures)

pub sorted-requires : goal.sorted-requires
sorted-requires c =
    rw c.deref.ensures.value
    (fit_in_place _ _ _ _ _ c.in_ok-rows.ensures.0
    _ (c.len.ensures ∙ c.in_ok-rows.field-0.rows.ok.0)
    (rw (← c.first_encoding-first.ensures) (sym c.is_in_utf8.ensures ∙ c.if-is_in_utf8.true)))

pub returns-then-is_in_utf8 : goal.returns-then-is_in_utf8
returns-then-is_in_utf8 c =
    let none = all_pass _ _ _ c.in_ok-header.ensures.0.count c.in_ok-header.ensures.1
    c.in_ok-rows.ensures.1 in (
      file_in_place _ _ _ _ _ c.in_ok-rows.ensures.0
          _ (c.len.ensures ∙ c.in_ok-rows.field-0.rows.ok.0) c.in_ok-header.ensures.0.count none
          _ (rw (← c.first_encoding-first.ensures)
          (sym c.is_in_utf8.ensures ∙ c.if-is_in_utf8.true))
          (rw (← c.deref.ensures.value) c.in_ok-rows-2.ensures),
      none,
    )

pub returns : goal.returns
returns c =
    let none = all_pass c.args.bytes.now c.args.options c.in_ok-header.header.count
    c.in_ok-header.ensures.0.count c.in_ok-header.ensures.1 c.in_ok-rows.ensures.1 in
    let decodes =
    rw (c.deref-2.ensures.value, c.first_encoding-first.ensures) at c.in_ok-texts.ensures in
    let sorts = rw (c.deref-3.ensures.value, c.deref-4.ensures.value) at c.in_ok-rows-3.ensures in (
      file_decoded c.args.bytes.now c.args.options c.in_ok-header.header.count
          c.in_ok-rows.field-0.rows.items c.in_ok-rows.field-0.settings c.in_ok-rows.ensures.0
          c.len.result (c.len.ensures ∙ c.in_ok-rows.field-0.rows.ok.0)
          c.in_ok-header.ensures.0.count none c.in_ok-texts.field-0.texts c.in_ok-texts.field-0.rows
          c.in_ok-rows-3.rows
          (rw (← c.first_encoding-first.ensures) (sym c.is_in_utf8.ensures ∙ c.if-is_in_utf8.false))
          decodes sorts,
      none,
    )
