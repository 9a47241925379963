use Rattle.std.proofs.Common.{take, length, [], ◌∷◌, ◌++◌, refl, sym, ap, ◌∙◌, subst}
use Rattle.std.proofs.lemmas.List.{take_more}
use Rattle.std.proofs.lemmas.Option.{slice_get_read}
use Rattle.language_tags_registry.specs.Kinds.{Meets}
use Rattle.language_tags_registry.proofs.TableRows.{earlier_key, one_more}
use Rattle.language_tags_registry.proofs.table.Table.of_rows.Goals as goal

pub returns-in-Ok-false-clause-err : goal.returns-in-Ok-false-clause-err
returns-in-Ok-false-clause-err c =
    let rows = c.args.rows.now in
    let row = c.index-rows-index.result in
    let at_index = slice_get_read rows (length rows) c.loop-index.index row refl
    c.loop-index-test.true c.index-rows-index.is in
    let has_key = subst (Meets c.args.kind.key) c.text_of-key.ensures
    (c.is_met_by.ensures.0 c.if-not-is_met_by.false) in (
      refl,
      record {
        before = c.loop-index.invariant.sound;
        row = row;
        row_is = at_index;
        fault_is = (
          has_key,
          c.in-Some.ensures.0,
          earlier_key c.args.kind (take c.loop-index.index rows) c.loop-index.table
              c.text_of-key.result.now row
              c.loop-index.invariant c.text_of-key.ensures
              (sym c.in-Ok-false.ensures.fresh ∙ c.in-Ok-false.field-0-test),
        );
      },
    )

pub loop-index-preserved : goal.loop-index-preserved
loop-index-preserved c =
    let rows = c.args.rows.now in
    let index = c.loop-index.index in
    let row = c.index-rows-index.result in
    let more = take_more rows index row c.loop-index-test.true
    ∙ ap (λ x. take index rows ++ x ∷ []) (sym c.index-rows-index.is) in
    let has_key = subst (Meets c.args.kind.key) c.text_of-key.ensures
    (c.is_met_by.ensures.0 c.if-not-is_met_by.false) in
    rw more
    (one_more c.args.kind (take index rows) c.loop-index.table c.insert.new.self row
    c.text_of-key.result.now
    c.in-Some.value.now c.loop-index.invariant has_key c.in-Some.ensures.0 c.text_of-key.ensures
    c.in-Some.ensures.1
    (sym c.in-Ok-true.ensures.fresh ∙ c.in-Ok-true.field-0-test) c.in-Ok-true.ensures.value)
