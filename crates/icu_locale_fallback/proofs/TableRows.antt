-- A table that is filled row by row.
use Rattle.std.proofs.Common.{◌≡◌, ℕ, zero, suc, ◌+◌, Bool, true, false, cond, List, [], ◌∷◌, ◌++◌}
use Rattle.std.proofs.Common.{map, Option, Some, None, is_some, take, Ordering, refl, sym, ap, ◌∙◌}
use Rattle.std.proofs.Common.{subst, arith}
use Rattle.std.specs.Cmp.{IsTotalOrder, Equal-is, tied_itself}
use Rattle.std.specs.FinMap as finite
use Rattle.std.specs.FinMap.{IsAntisymmetric}
use Rattle.std.specs.List.{AllZip, Any, slice_get}
use Rattle.std.specs.Ordering.{eq_by_cmp, is_eq}
use Rattle.std.proofs.lemmas.Bool.{false≢true}
use Rattle.std.proofs.lemmas.List.{length_push}
use Rattle.std.proofs.lemmas.Slice.Zip.{all_zipped_more}
use Rattle.writeable_core.specs.declared.text.TextRow.{TextRow}
use Rattle.icu_locale_fallback.specs.Rows.{Misses, AreDistinct, FirstFaultIs, IsTableOf}
use Rattle.icu_locale_fallback.proofs.Options.{none_by_is_some}

-- a look-up that finds nothing passed the first entry
passed : {X : Type 0} (b : Bool) (x : X) (o : Option X) → cond b (Some x) o ≡ None
    → (b ≡ false) × (o ≡ None)
passed true x o h = cc
passed false x o h = (refl, h)

module _ {K X : Type 0} where
  -- the keys of entries
  abbrev keys_of : List (K × X) → List K
  keys_of es = map (λ e. e.0) es

  -- a key that no entry has, nor the one that is pushed
  misses-push : (es : List (K × X)) (e : K × X) (x : K) → Misses (keys_of es) x
      → ¬ (x ≡ e.0) → Misses (keys_of (es ++ e ∷ [])) x
  misses-push [] e x h other = (other, tt)
  misses-push (y ∷ es) e x h other = (h.0, misses-push es e x h.1 other)

module _ {K X : Type 0} (key : TextRow → K → Type 0) (value : TextRow → X → Type 0)
    (R : K → K → Ordering) where
  -- no row makes the empty table
  pub no_rows : IsTableOf key value {R = R} [] finite.empty
  no_rows = record {
    entries = [];
    say = record { said = tt; distinct = tt };
    table_is = refl;
    len = finite.len-empty R X;
  }

  module _ (total : IsTotalOrder R) (ties : IsAntisymmetric R) where
    -- a new key at the end
    distinct-push : (es : List (K × X)) (e : K × X) → finite.find R e.0 es ≡ None
        → AreDistinct (keys_of es) → AreDistinct (keys_of (es ++ e ∷ []))
    distinct-push [] e none h = (tt, tt)
    distinct-push (y ∷ es) e none h =
        let past = passed (eq_by_cmp R e.0 y.0) y.1 (finite.find R e.0 es) none in
        let itself : (x : K) → e.0 ≡ x → eq_by_cmp R e.0 x ≡ true =
        λ x same. subst (λ x. eq_by_cmp R e.0 x ≡ true) same (ap is_eq (tied_itself total e.0)) in
        let other : ¬ (y.0 ≡ e.0) = λ same. false≢true (sym past.0 ∙ itself y.0 (sym same)) in
        (misses-push es e y.0 h.0 other, distinct-push es e past.1 h.1)

    -- a row with a new key and a value is put in
    pub one_more : (rows : List TextRow) (table : finite.FinMap R X) (row : TextRow) (k : K) (v : X)
        → IsTableOf key value rows table → key row k → value row v
        → finite.contains_key table k ≡ false
        → IsTableOf key value (rows ++ row ∷ []) (finite.insert table k v)
    one_more rows table row k v h key_is value_is fresh =
        let none : finite.find R k h.entries ≡ None =
        none_by_is_some (finite.find R k h.entries)
        (ap is_some (sym (finite.get-from_entries total h.entries k)
        ∙ ap (λ t. finite.get t k) (sym h.table_is)) ∙ fresh) in
        let longer : finite.len (finite.insert table k v) ≡ finite.len table + 1 =
        finite.len-insert total table k v
        ∙ ap (λ b. cond b (finite.len table) (finite.len table + 1)) fresh in
        record {
          entries = h.entries ++ (k, v) ∷ [];
          say = record {
            said =
                all_zipped_more (λ row entry. key row entry.0
                × value row entry.1) rows h.entries row (k, v) h.say.said (key_is, value_is);
            distinct = distinct-push h.entries (k, v) none h.say.distinct;
          };
          table_is = ap (λ t. finite.insert t k v) h.table_is
              ∙ sym (finite.from_entries_push total ties h.entries k v none);
          len = longer ∙ ap (λ n. n + 1) h.len ∙ sym (length_push rows row);
        }

    -- a key that is found is that of a row
    found_row : (rows : List TextRow) (entries : List (K × X)) (k : K)
        → AllZip (λ row entry. key row entry.0 × value row entry.1) rows entries
        → is_some (finite.find R k entries) ≡ true → Any (λ other. key other k) rows
    found_row [] [] k said found = absurd (false≢true found)
    found_row [] (e ∷ entries) k said found = absurd said
    found_row (row ∷ rows) [] k said found = absurd said
    found_row (row ∷ rows) (e ∷ entries) k said found =
        elim (eq_by_cmp R k e.0) as (λ b. eq_by_cmp R k e.0 ≡ b
        → is_some (cond b (Some e.1) (finite.find R k entries)) ≡ true
        → Any (λ other. key other k) (row ∷ rows)) [
          | true ↦ λ tie found.
              let same : k ≡ e.0 = ties k e.0 ((Equal-is (R k e.0)).0 tie) in
              (zero, row, omega arith, refl, subst (key row) (sym same) said.0.0)
          | false ↦ λ tie found. let (i, other, below, is, key_is) =
              found_row rows entries k said.1 found in (suc i, other, omega arith, is, key_is)
        ] refl found

    -- a key that the table has is that of a row
    pub earlier_key : (rows : List TextRow) (table : finite.FinMap R X) (k : K)
        → IsTableOf key value rows table → finite.contains_key table k ≡ true
        → Any (λ other. key other k) rows
    earlier_key rows table k h found =
        found_row rows h.entries k h.say.said
        (ap is_some (sym (finite.get-from_entries total h.entries k)
        ∙ ap (λ t. finite.get t k) (sym h.table_is)) ∙ found)

-- the row behind those of a table is the first faulty one, where it has a fault
pub first_fault : {K X : Type 0} {key : TextRow → K → Type 0} {value : TextRow → X → Type 0} {R : K
    → K → Ordering} {table : finite.FinMap R X} {fault : TextRow → Type 0} (rows : List TextRow)
    (i : ℕ) (row : TextRow)
    → IsTableOf key value (take i rows) table → slice_get rows i ≡ Some row → fault row
    → FirstFaultIs key value rows i fault
first_fault rows i row h at fault =
    record { before = (h.entries, h.say); row = row; row_is = at; fault_is = fault }
