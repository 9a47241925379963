-- The values of a row, taken one after another.
use Rattle.std.proofs.Common.{◌≡◌, ℕ, suc, List, [], ◌∷◌, length, Option, Some, None, option_map}
use Rattle.std.proofs.Common.{cond, Global, ⊎_elim, refl, sym, ap, ◌∙◌, arith}
use Rattle.std.proofs.lemmas.Bool.{eq-eqb}
use Rattle.std.proofs.lemmas.Bool.Decides.{eqb_tells}
use Rattle.std.specs.Vec.Iter.{into_iter_items, into_iter_len, into_iter_steps}
use Rattle.std.specs.declared.vec.IntoIter.{IntoIter}
use Rattle.serde_json.proofs.Views.{items_len-items_view}
use Rattle.serde_json.specs.Events.{items_len}
use Rattle.serde_json.specs.Find.{get_item}
use Rattle.serde_json.specs.View.{items_view, view}
use Rattle.serde_json.specs.declared.value.Value.{Value}
use Rattle.localise_document.specs.Tables.{cell_of, cells_of, row_from}

-- the values of a row that are still to come
abbrev Values : Type 0
Values = IntoIter Value Global

-- a list without elements
nil_of : {A : Type 0} (xs : List A) → length xs ≡ 0 → xs ≡ []
nil_of [] h = refl
nil_of (x ∷ xs) h = absurd (omega arith)

-- no value is left
none_left : (values : Values) → into_iter_len values ≡ 0 → into_iter_items values ≡ []
none_left values h = nil_of values.rest.items (sym values.rest.ok.0 ∙ h)

-- the value that is taken is the first item
pub first_item : (old new : Values) (next : Option Value) → into_iter_steps old next new
    → option_map view next ≡ get_item 0 (items_view (into_iter_items old))
first_item old new (Some value) h = ap (λ vs. get_item 0 (items_view vs)) (sym h.0)
first_item old new None h = ap (λ vs. get_item 0 (items_view vs)) (sym (none_left old h.0))

-- what stands behind it are the later items
pub later_item : (i : ℕ) (old new : Values) (next : Option Value) → into_iter_steps old next new
    → get_item i (items_view (into_iter_items new))
    ≡ get_item (suc i) (items_view (into_iter_items old))
later_item i old new (Some value) h = ap (λ vs. get_item (suc i) (items_view vs)) (sym h.0)
later_item i old new None h =
    ap (λ vs. get_item i (items_view vs)) (none_left new h.1)
    ∙ ap (λ vs. get_item (suc i) (items_view vs)) (sym (none_left old h.0))

-- a row of another number of cells is none
pub other_count : (values : List Value) (cells : ℕ) → (length values ≡ cells → ⊥)
    → None ≡ cells_of cells (items_view values)
other_count values cells other =
    ap
    (λ b.
    cond b
    (row_from (cell_of (get_item 0 (items_view values)))
    (cell_of (get_item 1 (items_view values)))
    (cell_of (get_item 2 (items_view values)))) None)
    (⊎_elim (λ same. absurd (other (sym (items_len-items_view values) ∙ same.1)))
    (λ differ. sym differ.0) (eqb_tells (items_len (items_view values)) cells))

-- a row of so many cells is its first three
pub same_count : (values : List Value) (cells : ℕ) → length values ≡ cells
    → cells_of cells (items_view values)
    ≡ row_from (cell_of (get_item 0 (items_view values)))
    (cell_of (get_item 1 (items_view values))) (cell_of (get_item 2 (items_view values)))
same_count values cells same =
    ap
    (λ b.
    cond b
    (row_from (cell_of (get_item 0 (items_view values)))
    (cell_of (get_item 1 (items_view values)))
    (cell_of (get_item 2 (items_view values)))) None)
    (eq-eqb (items_len (items_view values)) cells (items_len-items_view values ∙ same))

-- three texts are a row
pub row_of_three : (a b c : Option (List ℕ)) (first second third : List ℕ) → Some first ≡ a
    → Some second ≡ b → Some third ≡ c
    → Some (record { first = first; second = second; third = third }) ≡ row_from a b c
row_of_three a b c first second third ea eb ec = rw (← ea, ← eb, ← ec)
