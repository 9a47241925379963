-- A look-up in an ordered map is one in the finite map of its entries.
use Rattle.std.proofs.Common.{◌≡◌, cond, List, [], ◌∷◌, Some, Ordering, refl, sym, ap, ◌∙◌}
use Rattle.std.specs.Ordering.{eq_by_cmp}
use Rattle.std.specs.BTreeMap.{BTreeMap, get, is_at, Updates}
use Rattle.std.specs.Cmp.{IsTotalOrder, eq_by_cmp_equiv}
use Rattle.std.specs.FinMap as map
use Rattle.std.specs.FinMap.{IsAntisymmetric}
use Rattle.std.specs.Map.{lookup}

module _ {K X : Type 0} (R : K → K → Ordering) (total : IsTotalOrder R) where
  -- what the map answers, by the order of its keys
  pub get-from_entries : (m : BTreeMap K X) (q : K)
      → map.get (map.from_entries {R = R} m.entries) q ≡ get R m q
  get-from_entries m q = map.get-from_entries total m.entries q ∙ same m.entries
    where
      same : (es : List (K × X)) → map.find R q es ≡ lookup (is_at (R q)) es
      same [] = refl
      same (e ∷ es) = ap (cond (eq_by_cmp R q e.0) (Some e.1)) (same es)

  -- an insertion into the map is one into the finite map
  pub from_entries-insert : IsAntisymmetric R → (m n : BTreeMap K X) (k : K) (v : X)
      → Updates R m n k (Some v)
      → map.from_entries {R = R} n.entries ≡ map.insert (map.from_entries m.entries) k v
  from_entries-insert ties m n k v h =
      map.same_map total ties _ _ (λ q.
      get-from_entries n q ∙ h.0 q
      ∙ (λ i. cond ((eq_by_cmp_equiv total).symm k q i) (Some v) (sym (get-from_entries m q) i))
      ∙ sym (map.get-insert total (map.from_entries m.entries) k v q))
