-- The values that are taken are the row's first three items.
use Rattle.std.proofs.Common.{◌≡◌, length, option_map, sym, ap, ◌∙◌}
use Rattle.serde_json.specs.Find.{get_item}
use Rattle.serde_json.specs.View.{items_view, view}
use Rattle.localise_document.specs.Tables.{cell_of}
use Rattle.localise_document.proofs.Cells.{first_item, later_item, other_count, row_of_three}
use Rattle.localise_document.proofs.Cells.{same_count}
use Rattle.localise_document.proofs.tables.cells_from.Goals as goal

pub returns-then-len-cells : goal.returns-then-len-cells
returns-then-len-cells c =
    other_count c.args.values.items c.args.cells
    (λ same. c.if-len-cells.true (c.len.ensures ∙ c.args.values.ok.0 ∙ same))

pub returns : goal.returns
returns c =
    let all = c.into_iter-values.ensures.rest in
    let counted : length c.args.values.items ≡ c.args.cells =
    sym c.args.values.ok.0 ∙ sym c.len.ensures ∙ c.if-len-cells.false in
    let first : option_map view c.next-first.result ≡ get_item 0 (items_view c.args.values.items) =
    first_item c.into_iter-values.result c.next-first.new.self _ c.next-first.ensures.cases
    ∙ ap (λ vs. get_item 0 (items_view vs)) all in
    let second : option_map view c.next-second.result
    ≡ get_item 1 (items_view c.args.values.items) =
    first_item c.next-first.new.self c.next-second.new.self _ c.next-second.ensures.cases
    ∙ later_item 0 c.into_iter-values.result c.next-first.new.self _ c.next-first.ensures.cases
    ∙ ap (λ vs. get_item 1 (items_view vs)) all in
    let third : option_map view c.next-third.result ≡ get_item 2 (items_view c.args.values.items) =
    first_item c.next-second.new.self c.next-third.new.self _ c.next-third.ensures.cases
    ∙ later_item 0 c.next-first.new.self c.next-second.new.self _ c.next-second.ensures.cases
    ∙ later_item 1 c.into_iter-values.result c.next-first.new.self _ c.next-first.ensures.cases
    ∙ ap (λ vs. get_item 2 (items_view vs)) all in
    row_of_three _ _ _ _ _ _
    (sym c.in_ok-cell_from.was ∙ c.cell_from.ensures ∙ ap cell_of first)
    (sym c.in_ok-cell_from-2.was ∙ c.cell_from-2.ensures ∙ ap cell_of second)
    (sym c.in_ok-cell_from-3.was ∙ c.cell_from-3.ensures ∙ ap cell_of third)
    ∙ sym (same_count c.args.values.items c.args.cells counted)
