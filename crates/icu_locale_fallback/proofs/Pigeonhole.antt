-- A list of distinct keys of a table is no longer than the table.
use Rattle.std.proofs.Common.{◌≡◌, zero, suc, ◌+◌, ◌-◌, ◌<◌, ◌≤◌, false, cond, List, [], ◌∷◌}
use Rattle.std.proofs.Common.{length, None, IsSome, is_some, refl, sym, ap, ◌∙◌, arith}
use Rattle.std.specs.FinMap as map
use Rattle.std.specs.Ordering.{eq_by_cmp}
use Rattle.icu_locale_fallback.specs.Rows.{Misses, AreDistinct}
use Rattle.icu_locale_fallback.specs.Triple.{Triple, triple_cmp}
use Rattle.icu_locale_fallback.proofs.TripleOrder.{triple_cmp_total, other_tie}

module _ {X : Type 0} where
  -- each is a key of the table
  abbrev pub AreKeys : map.FinMap triple_cmp X → List Triple → Type 0
  AreKeys table [] = Unit {0}
  AreKeys table (x ∷ xs) = IsSome (map.get table x) × AreKeys table xs

  -- a table with a key has an entry
  some_entry : (table : map.FinMap triple_cmp X) (x : Triple) → IsSome (map.get table x)
      → 0 < map.len table
  some_entry table x h =
      elim (map.len table) as (λ n. map.len table ≡ n → 0 < n) [
        | zero ↦ λ e. let none : map.get table x ≡ None =
            ap (λ t. map.get t x) (map.empty_of_len table e) ∙ map.get-empty triple_cmp x in
            let lost : is_some (map.get table x) ≡ false = ap is_some none in cc
        | suc n ↦ λ e. omega arith
      ] refl

  -- without it the table has one entry less
  one_less : (table : map.FinMap triple_cmp X) (x : Triple) → IsSome (map.get table x)
      → map.len (map.remove table x) + 1 ≡ map.len table
  one_less table x h =
      let there = some_entry table x h in
      let left : map.len (map.remove table x) ≡ map.len table - 1 =
      map.len-remove triple_cmp_total table x
      ∙ ap (λ b. cond b (map.len table - 1) (map.len table)) h in
      omega arith

  -- a key stays where another one is taken out
  keys_stay : (table : map.FinMap triple_cmp X) (x : Triple) (xs : List Triple) → Misses xs x
      → AreKeys table xs → AreKeys (map.remove table x) xs
  keys_stay table x [] m h = tt
  keys_stay table x (y ∷ ys) m h =
      let apart : eq_by_cmp triple_cmp y x ≡ false = other_tie y x (λ e. m.0 (sym e)) in
      let same : map.get (map.remove table x) y ≡ map.get table y =
      map.get-remove triple_cmp_total table x y ∙ ap (λ b. cond b None (map.get table y)) apart in
      (ap is_some same ∙ h.0, keys_stay table x ys m.1 h.1)

  -- one key after another is taken out
  pub no_longer : (table : map.FinMap triple_cmp X) (xs : List Triple) → AreDistinct xs
      → AreKeys table xs → length xs ≤ map.len table
  no_longer table [] d h = omega arith
  no_longer table (x ∷ xs) d h =
      let less = one_less table x h.0 in
      let rest = no_longer (map.remove table x) xs d.1 (keys_stay table x xs d.0 h.1) in
      omega arith
