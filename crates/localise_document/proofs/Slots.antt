-- Slots that were filled by name, taken one after another.
use Rattle.std.proofs.Common.{◌≡◌, ℕ, zero, suc, List, [], ◌∷◌, get_or, set, Option, option_map}
use Rattle.std.proofs.Common.{map, refl, ap, ◌∙◌}
use Rattle.std.proofs.lemmas.List.{map-set}
use Rattle.serde_json.specs.Data.{Data}
use Rattle.serde_json.specs.View.{view}
use Rattle.serde_json.specs.declared.value.Value.{Value}

-- what a slot holds is what stands in its place
held-get_or : (slots : List (Option Value)) (i : ℕ) (other : Option Value)
    → option_map view (get_or slots i other)
    ≡ get_or (map (option_map view) slots) i (option_map view other)
held-get_or [] i other = refl
held-get_or (slot ∷ slots) zero other = refl
held-get_or (slot ∷ slots) (suc i) other = held-get_or slots i other

-- what is taken out of a slot
pub taken : (slots : List (Option Value)) (i : ℕ) (other value : Option Value)
    (ds : List (Option Data))
    → value ≡ get_or slots i other → map (option_map view) slots ≡ ds
    → option_map view value ≡ get_or ds i (option_map view other)
taken slots i other value ds is held =
    ap (option_map view) is ∙ held-get_or slots i other
    ∙ ap (λ xs. get_or xs i (option_map view other)) held

-- a slot is filled anew
pub filled_anew : (slots : List (Option Value)) (i : ℕ) (value : Option Value)
    (ds : List (Option Data))
    → map (option_map view) slots ≡ ds
    → map (option_map view) (set slots i value) ≡ set ds i (option_map view value)
filled_anew slots i value ds held =
    map-set (option_map view) slots i value ∙ ap (λ xs. set xs i (option_map view value)) held
