use Rattle.std.proofs.Common.{take, length, [], ◌∷◌, ◌++◌, refl, sym, ap, ◌∙◌, is_some, cond, ◌+◌}
use Rattle.std.proofs.lemmas.List.{take_more}
use Rattle.std.proofs.lemmas.Option.{slice_get_read}
use Rattle.icu_locale_fallback.proofs.Lookups.{get-from_entries, from_entries-insert}
use Rattle.icu_locale_fallback.proofs.TableRows.{no_rows, one_more, earlier_key, first_fault}
use Rattle.icu_locale_fallback.proofs.table.table_of_rows.Goals as goal

pub loop-index-init : goal.loop-index-init
loop-index-init g c =
    rw c.new-table.ensures.empty (no_rows g.K.RowKey.key_is g.V.RowValue.value_is g.K.Ord.cmp, refl)

pub returns-in_default-clause-err : goal.returns-in_default-clause-err
returns-in_default-clause-err g c =
    let rows = c.args.rows.now in
    let row = c.index-rows-index.result in (
      refl,
      first_fault rows c.loop-index.index row c.loop-index.invariant.0
          (slice_get_read rows
          (length rows) c.loop-index.index row refl c.loop-index-test.true
          c.index-rows-index.is)
          c.in_default.ensures,
    )

pub returns-in_default-value-clause-err : goal.returns-in_default-value-clause-err
returns-in_default-value-clause-err g c =
    let rows = c.args.rows.now in
    let row = c.index-rows-index.result in (
      refl,
      first_fault rows c.loop-index.index row c.loop-index.invariant.0
          (slice_get_read rows
          (length rows) c.loop-index.index row refl c.loop-index-test.true
          c.index-rows-index.is)
          ((c.in-Some.key, c.in-Some.ensures), c.in_default-value.ensures),
    )

pub returns-in-Ok-Some-clause-err : goal.returns-in-Ok-Some-clause-err
returns-in-Ok-Some-clause-err g c =
    let rows = c.args.rows.now in
    let row = c.index-rows-index.result in
    let there = get-from_entries g.K.Ord.cmp g.met.K.Ord.total c.loop-index.table c.in-Some.key
    ∙ sym c.in-Ok-Some.ensures.old ∙ c.in-Ok-Some.field-0-is in (
      refl,
      first_fault rows c.loop-index.index row c.loop-index.invariant.0
          (slice_get_read rows
          (length rows) c.loop-index.index row refl c.loop-index-test.true
          c.index-rows-index.is) (
            c.in-Some.key,
            c.in-Some.ensures,
            (c.in-Some-value.value, c.in-Some-value.ensures),
            earlier_key g.K.RowKey.key_is g.V.RowValue.value_is g.K.Ord.cmp g.met.K.Ord.total
                g.met.K.RowKey.ties_same _ _ c.in-Some.key c.loop-index.invariant.0
                (ap is_some there),
          ),
    )

pub loop-index-preserved : goal.loop-index-preserved
loop-index-preserved g c =
    let rows = c.args.rows.now in
    let index = c.loop-index.index in
    let row = c.index-rows-index.result in
    let more = take_more rows index row c.loop-index-test.true
    ∙ ap (λ x. take index rows ++ x ∷ []) (sym c.index-rows-index.is) in
    let none = get-from_entries g.K.Ord.cmp g.met.K.Ord.total c.loop-index.table c.in-Some.key
    ∙ sym c.in-Ok-None.ensures.old ∙ c.in-Ok-None.field-0-is in
    let put =
    from_entries-insert g.K.Ord.cmp g.met.K.Ord.total g.met.K.RowKey.ties_same
    c.loop-index.table c.insert.new.self c.in-Some.key c.in-Some-value.value
    c.in-Ok-None.ensures.updates in
    let longer = c.in-Ok-None.ensures.len
    ∙ ap (λ o. length c.loop-index.table.entries + cond (is_some o) 0 1) c.in-Ok-None.field-0-is
    ∙ ap (λ n. n + 1) c.loop-index.invariant.1 in (
      rw (more, put)
          (one_more g.K.RowKey.key_is g.V.RowValue.value_is g.K.Ord.cmp g.met.K.Ord.total
          g.met.K.RowKey.ties_same
          (take index rows) _ row c.in-Some.key c.in-Some-value.value
          c.loop-index.invariant.0 c.in-Some.ensures c.in-Some-value.ensures (ap is_some none)),
      longer,
    )
