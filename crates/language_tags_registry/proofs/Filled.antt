-- Tables that are filled one by one.
use Rattle.std.proofs.Common.{◌≡◌, ℕ, ◌+◌, ◌<◌, List, [], ◌∷◌, ◌++◌, length, get_or, sym, ap, ◌∙◌}
use Rattle.std.proofs.Common.{subst, arith, inl, inr}
use Rattle.std.proofs.lemmas.Bool.{cases_lt}
use Rattle.std.proofs.lemmas.List.{get_or_append_left, get_or_push, length_push}
use Rattle.writeable_core.specs.declared.text.TextRow.{TextRow}
use Rattle.language_tags_registry.specs.Faults.{AreTablesOf, IsFaultOf, IsFirstFault}
use Rattle.language_tags_registry.specs.Kinds.{HoldTables, kind_of}
use Rattle.language_tags_registry.specs.Registry.{Entry, tables_at}
use Rattle.language_tags_registry.specs.Rows.{IsTableOf, rows_of}
use Rattle.language_tags_registry.specs.declared.error.RegistryError.{RegistryError}
use Rattle.language_tags_registry.specs.declared.error.RegistryError.TheVariants.{NoMemory}
use Rattle.language_tags_registry.specs.declared.kind.Kind.{Kind}
use Rattle.language_tags_registry.specs.declared.kind.RegistryTable.{RegistryTable}
use Rattle.language_tags_registry.specs.declared.kind.RegistryTable.TheVariants.{Languages}
use Rattle.language_tags_registry.specs.declared.rows.RegistryRows.{RegistryRows}
use Rattle.language_tags_registry.proofs.TableNumbers.{number-lt, same_number, table_of-tables_at}
use Rattle.language_tags_registry.proofs.TableRows.{answer_meets}

-- the table at a number
abbrev pub at : List (List Entry) → ℕ → List Entry
at tables k = get_or tables k []

-- the first tables are those of their rows
pub record AreFilled (rows : RegistryRows) (count : ℕ) (tables : List (List Entry)) : Type 0 where
  pub length_is : length tables ≡ count
  pub filled : (table : RegistryTable) → (kind_of table).number < count
      → IsTableOf (kind_of table) (rows_of table rows) (at tables (kind_of table).number)

-- want of memory is never wrong
pub no_memory : (rows : RegistryRows) → IsFirstFault rows NoMemory
no_memory rows = record { table = Languages; before = λ other lt. absurd (omega arith); fault = tt }

module _ (rows : RegistryRows) (k : ℕ) (tables : List (List Entry))
    (h : AreFilled rows k tables) where
  -- all tables are filled
  pub are_tables : k ≡ 13 → AreTablesOf rows (tables_at tables)
  are_tables all table =
      subst (IsTableOf (kind_of table) (rows_of table rows)) (sym (table_of-tables_at tables table))
      (h.filled table (omega (arith, number-lt table)))

  pub hold_tables : k ≡ 13 → HoldTables tables
  hold_tables all = record {
    count = h.length_is ∙ all;
    values = λ table key value is.
        let filled = h.filled table (omega (arith, number-lt table)) in
        answer_meets (kind_of table) (rows_of table rows) key value filled.sound.values
        (sym (filled.same key) ∙ is);
  }

  module _ (table : RegistryTable) (number_is : (kind_of table).number ≡ k) (kind : Kind)
      (kind_is : kind ≡ kind_of table) (list : List TextRow)
      (list_is : list ≡ rows_of table rows) where
    -- the fault of the next table is the first
    pub first_fault : (e : RegistryError) → IsFaultOf kind list e → IsFirstFault rows e
    first_fault e fault = record {
      table = table;
      before = λ other lt. (h.filled other (omega arith)).sound;
      fault = subst (λ x. IsFaultOf (kind_of table) x e) list_is
          (subst (λ x. IsFaultOf x list e) kind_is fault);
    }

    -- the next table is filled
    pub filled_push : (next : List Entry) → IsTableOf kind list next
        → AreFilled rows (k + 1) (tables ++ next ∷ [])
    filled_push next is = record {
      length_is = length_push tables next ∙ ap (λ n. n + 1) h.length_is;
      filled = λ other lt. elim (cases_lt (kind_of other).number k) [
        | inl less ↦ subst (IsTableOf (kind_of other) (rows_of other rows)) (sym (first other less))
            (h.filled other less)
        | inr le ↦ last other (omega arith)
      ];
    }
      where
        first : (other : RegistryTable) → (kind_of other).number < k
            → at (tables ++ next ∷ []) (kind_of other).number ≡ at tables (kind_of other).number
        first other less =
            get_or_append_left tables (next ∷ []) [] (kind_of other).number
            (omega (arith, h.length_is, less))

        last : (other : RegistryTable) → (kind_of other).number ≡ k
            → IsTableOf (kind_of other) (rows_of other rows)
            (at (tables ++ next ∷ []) (kind_of other).number)
        last other is_last =
            let same : table ≡ other = same_number table other (number_is ∙ sym is_last) in
            let read : at (tables ++ next ∷ []) (kind_of other).number ≡ next =
            get_or_push tables next [] (kind_of other).number (h.length_is ∙ sym is_last) in
            let here : IsTableOf (kind_of table) (rows_of table rows) next =
            subst (λ x. IsTableOf (kind_of table) x next) list_is
            (subst (λ x. IsTableOf x list next) kind_is is) in
            subst (IsTableOf (kind_of other) (rows_of other rows)) (sym read)
            (subst (λ x. IsTableOf (kind_of x) (rows_of x rows) next) same here)
