-- Rows that go into a map one after the other.
use Rattle.std.proofs.Common.{◌≡◌, ℕ, zero, suc, ◌+◌, ◌<◌, Bool, true, false, cond, List, [], ◌∷◌}
use Rattle.std.proofs.Common.{◌++◌, length, get_or, take, map, Option, Some, None, refl, sym, ap}
use Rattle.std.proofs.Common.{◌∙◌, arith}
use Rattle.std.specs.Option.{option_or}
use Rattle.std.specs.List.{AllByRecursion}
use Rattle.std.specs.List.Sorted.{IsStrictlySortedBy}
use Rattle.std.specs.Map.{lookup, keys_of, values_of}
use Rattle.std.specs.BTreeMap.{BTreeMap, keys, values, insert_entry, UpdatesBy, is_at}
use Rattle.std.specs.Borrow.{Bor}
use Rattle.std.specs.Ordering.{nat_cmp, match_ordering, is_eq}
use Rattle.std.specs.declared.cmp.Ordering.{Ordering}
use Rattle.std.specs.declared.cmp.Ordering.TheVariants.{Less, Equal, Greater}
use Rattle.std.specs.Cmp.Lexicographic.{slice_cmp}
use Rattle.std.proofs.lemmas.Slice.Eq.{bytes_eq-Decides}
use Rattle.std.proofs.lemmas.Map.Text.{btree_map_updates_str, is_eq-slice_cmp}
use Rattle.std.proofs.lemmas.Map.Keys.{sorted_tail}
use Rattle.std.proofs.lemmas.Cmp.{nat_list_cmp_total, tied_itself}
use Rattle.std.proofs.lemmas.Bool.{false_from_ne_true, true≢false}
use Rattle.gettext.specs.declared.spans.Row.{Row}
use Rattle.writeable_core.specs.Texts.{same_text}
use Rattle.gettext.specs.Table.{key_bytes, row_for, IsRowOf, Sorts}
use Rattle.gettext.specs.Reader.{IsKeyed, Collects}
use Rattle.gettext.proofs.Keys.{same_text-from_cmp, row_for-at}

-- ---- one row more

-- one row more is found by its key, and others as before
row_for-push : (b : List ℕ) (rows : List Row) (r : Row) (q : List ℕ)
    → row_for b (rows ++ r ∷ []) q ≡ cond (same_text (key_bytes b r) q) (Some r) (row_for b rows q)
row_for-push b [] r q = refl
row_for-push b (x ∷ rows) r q = rw (row_for-push b rows r q)
    (either (same_text (key_bytes b r) q) (row_for b rows q)
    (cond (same_text (key_bytes b x) q) (Some x) None)) where
      either : (t : Bool) (o p : Option Row)
          → option_or (cond t (Some r) o) p ≡ cond t (Some r) (option_or o p)
      either true o p = refl
      either false o p = refl

-- the order of borrowed keys: that of their bytes
abbrev cmp : Bor (List ℕ) → Bor (List ℕ) → Ordering
cmp x y = slice_cmp nat_cmp x.now y.now

-- each row still stands beside its key where one goes in
keyed-insert : (b : List ℕ) (es : List (Bor (List ℕ) × Row)) (k : Bor (List ℕ)) (r : Row)
    → IsKeyed b (k, r) → AllByRecursion (IsKeyed b) es
    → AllByRecursion (IsKeyed b) (insert_entry cmp es k r)
keyed-insert b [] k r new all = (new, tt)
keyed-insert b (e ∷ es) k r new all =
    by_order (cmp k e.0) refl (keyed-insert b es k r new all.1) where
      by_order : (o : Ordering) → cmp k e.0 ≡ o
          → AllByRecursion (IsKeyed b) (insert_entry cmp es k r) → AllByRecursion (IsKeyed b)
          (match_ordering o ((k, r) ∷ e ∷ es) ((e.0, r) ∷ es) (e ∷ insert_entry cmp es k r))
      by_order Less h rest = (new, all)
      by_order Equal h rest = (
        record {
          key = sym ((bytes_eq-Decides k.now e.0.now).0 (same_text-from_cmp k.now e.0.now h))
              ∙ new.key;
          row = new.row;
        },
        all.1,
      )
      by_order Greater h rest = (all.0, rest)

-- a row that goes into the map is collected
pub collects_row : (b : List ℕ) (rows : List Row) (i : ℕ) (old new : BTreeMap (Bor (List ℕ)) Row)
    (k : Bor (List ℕ)) (r : Row) → take (i + 1) rows ≡ take i rows ++ r ∷ []
    → Collects b (take i rows) old → IsRowOf b r → k.now ≡ key_bytes b r
    → UpdatesBy cmp (cmp k) old new (Some r) → new.entries ≡ insert_entry cmp old.entries k r
    → IsStrictlySortedBy cmp (keys new) → Collects b (take (i + 1) rows) new
collects_row b rows i old new k r more h fits key updates entries ordered =
    record {
      keyed = rw entries
          (keyed-insert b old.entries k r (record { key = key; row = fits }) h.keyed);
      ordered = ordered;
      finds = λ q.
          rw (more, row_for-push b (take i rows) r q, ← key)
          (btree_map_updates_str k.now old new (Some r) updates q
          ∙ ap (cond (same_text k.now q) (Some r)) (h.finds q));
    }

-- what holds of each element holds of the one at a place
pub all_at : {X : Type 0} (P : X → Type 0) (xs : List X) (i : ℕ) (d : X) → i < length xs
    → AllByRecursion P xs → P (get_or xs i d)
all_at P [] i d lt all = absurd (omega (arith, lt))
all_at P (x ∷ xs) zero d lt all = all.0
all_at P (x ∷ xs) (suc i) d lt all = all_at P xs i d (omega (arith, lt)) all.1

-- ---- the table of a map

-- rows beside their keys lie in the buffer
rows_of_keyed : (b : List ℕ) (es : List (Bor (List ℕ) × Row)) → AllByRecursion (IsKeyed b) es
    → AllByRecursion (IsRowOf b) (values_of es)
rows_of_keyed b [] all = tt
rows_of_keyed b (e ∷ es) all = (all.0.row, rows_of_keyed b es all.1)

-- a key below the keys of a map is below those of its rows
below_all : (b : List ℕ) (k : Bor (List ℕ)) (r : Row) (es : List (Bor (List ℕ) × Row))
    → k.now ≡ key_bytes b r → AllByRecursion (IsKeyed b) es
    → AllByRecursion (λ y. cmp k y ≡ Less) (keys_of es)
    → AllByRecursion (λ y. slice_cmp nat_cmp (key_bytes b r) y ≡ Less)
    (map (key_bytes b) (values_of es))
below_all b k r [] e all less = tt
below_all b k r (x ∷ es) e all less =
    (rw (← e, ← all.0.key) less.0, below_all b k r es e all.1 less.1)

-- keys that ascend in the map ascend as those of its rows
keys_ascend : (b : List ℕ) (es : List (Bor (List ℕ) × Row)) → AllByRecursion (IsKeyed b) es
    → IsStrictlySortedBy cmp (keys_of es)
    → IsStrictlySortedBy (slice_cmp nat_cmp) (map (key_bytes b) (values_of es))
unfolding IsStrictlySortedBy
keys_ascend b [] all sorted = tt
keys_ascend b (e ∷ es) all sorted =
    (below_all b e.0 e.1 es all.0.key all.1 sorted.0, keys_ascend b es all.1 sorted.1)

-- a value or else none is the value
or_nothing : (o : Option Row) → option_or o None ≡ o
or_nothing None = refl
or_nothing (Some x) = refl

-- the rows find what the map finds
finds_value : (b : List ℕ) (es : List (Bor (List ℕ) × Row)) (q : List ℕ)
    → AllByRecursion (IsKeyed b) es
    → IsStrictlySortedBy (slice_cmp nat_cmp) (map (key_bytes b) (values_of es))
    → row_for b (values_of es) q ≡ lookup (is_at (λ k. slice_cmp nat_cmp q k.now)) es
finds_value b [] q all sorted = refl
finds_value b (e ∷ es) q all sorted =
    let tail = finds_value b es q all.1
    (sorted_tail (slice_cmp nat_cmp) (key_bytes b e.1) (map (key_bytes b) (values_of es)) sorted) in
    by_test (is_eq (slice_cmp nat_cmp q e.0.now)) refl tail where
      by_test : (t : Bool) → is_eq (slice_cmp nat_cmp q e.0.now) ≡ t
          → row_for b (values_of es) q ≡ lookup (is_at (λ k. slice_cmp nat_cmp q k.now)) es
          → option_or (row_for b (values_of es) q)
          (cond (same_text (key_bytes b e.1) q) (Some e.1) None)
          ≡ cond t (Some e.1) (lookup (is_at (λ k. slice_cmp nat_cmp q k.now)) es)
      by_test true h tail =
          let same : q ≡ e.0.now =
          (bytes_eq-Decides q e.0.now).0 (sym (is_eq-slice_cmp q e.0.now) ∙ h) in
          let key : key_bytes b e.1 ≡ q = sym all.0.key ∙ sym same in
          let equal = (tied_itself nat_list_cmp_total q) in
          let here : slice_cmp nat_cmp (key_bytes b e.1) q ≡ Equal = rw key equal in
          rw (row_for-at b (e.1 ∷ values_of es) 0 e.1 q sorted refl here) refl
      by_test false h tail =
          let other : same_text (key_bytes b e.1) q ≡ false =
          false_from_ne_true (same_text (key_bytes b e.1) q)
          (λ t. true≢false
          (sym (let same : q ≡ e.0.now = sym ((bytes_eq-Decides (key_bytes b e.1) q).0 t)
          ∙ sym all.0.key in is_eq-slice_cmp q e.0.now ∙ (bytes_eq-Decides q e.0.now).1 same)
          ∙ h)) in
          rw (other, tail) (or_nothing (lookup (is_at (λ k. slice_cmp nat_cmp q k.now)) es))

-- the rows of the map, in its order, are the table of what it collected
pub sorts : (b : List ℕ) (rows : List Row) (found : BTreeMap (Bor (List ℕ)) Row)
    → Collects b rows found → Sorts b rows (values found)
sorts b rows found h =
    let ascend = keys_ascend b found.entries h.keyed h.ordered in
    record {
      table = record { rows_fit = rows_of_keyed b found.entries h.keyed; keys_ascend = ascend };
      finds = λ q. finds_value b found.entries q h.keyed ascend ∙ h.finds q;
    }
