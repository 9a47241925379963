use Rattle.std.proofs.Common.{take, length, [], ◌∷◌, ◌++◌, refl, sym, ap, ◌∙◌, inl, inr}
use Rattle.std.proofs.lemmas.List.{take_more}
use Rattle.std.proofs.lemmas.Option.{slice_get_read}
use Rattle.unic_langid_impl.proofs.TableLemmas.{earlier_key, no_rows, one_more}
use Rattle.unic_langid_impl.proofs.likelysubtags.tables.table.Goals as goal

pub loop-index-init : goal.loop-index-init
loop-index-init g c =
    rw c.new-table.ensures.empty
    (no_rows g.K.Ord.cmp g.met.K.Ord.total g.met.K.Key.ties_same g.K.Key.key_is)

pub returns-in_default-clause-err : goal.returns-in_default-clause-err
returns-in_default-clause-err g c =
    let rows = c.args.rows.now in
    let row = c.index-rows-index.result in
    let at_index =
    slice_get_read rows
    (length rows) c.loop-index.index row refl c.loop-index-test.true c.index-rows-index.is in (
      refl,
      record {
        before = (c.loop-index.invariant.entries, c.loop-index.invariant.say);
        row = row;
        row_is = at_index;
        fault_is = inl c.in_default.ensures;
      },
    )

pub returns-in-Ok-None-clause-err : goal.returns-in-Ok-None-clause-err
returns-in-Ok-None-clause-err g c =
    let rows = c.args.rows.now in
    let row = c.index-rows-index.result in
    let at_index =
    slice_get_read rows
    (length rows) c.loop-index.index row refl c.loop-index-test.true c.index-rows-index.is in (
      refl,
      record {
        before = (c.loop-index.invariant.entries, c.loop-index.invariant.say);
        row = row;
        row_is = at_index;
        fault_is = inr (rw c.in-Ok-None.field-0-is at c.in-Ok-None.ensures);
      },
    )

pub returns-in-Ok-Some-insert-clause-err : goal.returns-in-Ok-Some-insert-clause-err
returns-in-Ok-Some-insert-clause-err g c =
    let rows = c.args.rows.now in
    let row = c.index-rows-index.result in
    let at_index =
    slice_get_read rows
    (length rows) c.loop-index.index row refl c.loop-index-test.true c.index-rows-index.is in (
      refl,
      record {
        before = (c.loop-index.invariant.entries, c.loop-index.invariant.say);
        row = row;
        row_is = at_index;
        fault_is = (
          c.in-Some.key,
          c.in-Some.ensures,
          (c.in-Ok-Some.value, rw c.in-Ok-Some.field-0-is at c.in-Ok-Some.ensures),
          earlier_key g.K.Ord.cmp g.met.K.Ord.total g.met.K.Key.ties_same g.K.Key.key_is
              (take c.loop-index.index rows)
              c.loop-index.table.entries c.in-Some.key _ c.loop-index.invariant
              (sym c.in-Ok-Some-insert.field-0-is ∙ c.in-Ok-Some-insert.ensures.old),
        );
      },
    )

pub loop-index-preserved : goal.loop-index-preserved
loop-index-preserved g c =
    let rows = c.args.rows.now in
    let index = c.loop-index.index in
    let row = c.index-rows-index.result in
    let more = take_more rows index row c.loop-index-test.true
    ∙ ap (λ x. take index rows ++ x ∷ []) (sym c.index-rows-index.is) in
    rw more
    (one_more g.K.Ord.cmp g.met.K.Ord.total g.met.K.Key.ties_same g.K.Key.key_is (take index rows)
    c.loop-index.table.entries c.insert.new.self.entries row c.in-Some.key c.in-Ok-Some.value
    c.loop-index.invariant
    c.in-Some.ensures (rw c.in-Ok-Some.field-0-is at c.in-Ok-Some.ensures)
    (sym c.in-Ok-None-insert.field-0-is ∙ c.in-Ok-None-insert.ensures.old)
    c.in-Ok-None-insert.ensures.updates.0)
