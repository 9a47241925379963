-- Look-ups in the entries of a table.
use Rattle.std.proofs.Common.{◌≡◌, ℕ, Bool, true, false, cond, not, List, [], ◌∷◌, ◌++◌, map}
use Rattle.std.proofs.Common.{Option, Some, None, String, string_bytes, refl, sym, ap, ◌∙◌}
use Rattle.std.specs.BTreeMap.{BTreeMap, Updates, get, get_by_text, is_at}
use Rattle.std.specs.Cmp.Lexicographic.{slice_cmp}
use Rattle.std.specs.Map.{lookup}
use Rattle.std.specs.Option.{is_none, is_some, option_map, option_or}
use Rattle.std.specs.String.{string_cmp}
use Rattle.std.proofs.lemmas.Bool.{false≢true}
use Rattle.std.specs.Ordering.{nat_cmp}
use Rattle.std.specs.Str.{bytes_eq}
use Rattle.std.specs.Cmp.{both_ways}
use Rattle.std.proofs.lemmas.Map.Text.{btree_map_updates_text, is_eq-slice_cmp}
use Rattle.std.proofs.lemmas.Slice.Eq.{bytes_eq-Decides}
use Rattle.language_tags_registry.specs.Registry.{Entry, entry_of_strings, value_of}

-- texts are equal either way
pub bytes_eq-sym : (a b : List ℕ) → bytes_eq a b ≡ bytes_eq b a
bytes_eq-sym a b =
    both_ways (bytes_eq a b) (bytes_eq b a)
    (λ e. (bytes_eq-Decides b a).1 (sym ((bytes_eq-Decides a b).0 e)))
    (λ e. (bytes_eq-Decides a b).1 (sym ((bytes_eq-Decides b a).0 e)))

-- the value of a text among strings, as the ordered map finds it
module _ {Z : Type 0} where
  pub value_of-strings : (es : List (String Z × String Z)) (q : List ℕ)
      → value_of (map entry_of_strings es) q
      ≡ option_map string_bytes (lookup (is_at (λ k. slice_cmp nat_cmp q (string_bytes k))) es)
  value_of-strings [] q = refl
  value_of-strings (e ∷ es) q =
      inner (bytes_eq q (string_bytes e.0)) _ e.1 _ _ (sym (is_eq-slice_cmp q (string_bytes e.0)))
      (value_of-strings es q)
    where
      inner : (b c : Bool) (x : String Z) (o : Option (List ℕ)) (p : Option (String Z)) → b ≡ c
          → o ≡ option_map string_bytes p
          → cond b (Some (string_bytes x)) o ≡ option_map string_bytes (cond c (Some x) p)
      inner b true x o p e h = λ i. cond (e i) (Some (string_bytes x)) o
      inner b false x o p e h = (λ i. cond (e i) (Some (string_bytes x)) o) ∙ h

-- the value of a text behind one more entry
pub value_of-push : (es : List Entry) (e : Entry) (q : List ℕ)
    → value_of (es ++ e ∷ []) q ≡ option_or (value_of es q)
    (cond (bytes_eq q e.key) (Some e.value) None)
value_of-push [] e q = refl
value_of-push (f ∷ es) e q = inner (bytes_eq q f.key) f.value _ _ _ (value_of-push es e q)
  where
    inner : (b : Bool) (x : List ℕ) (o p r : Option (List ℕ)) → o ≡ option_or p r
        → cond b (Some x) o ≡ option_or (cond b (Some x) p) r
    inner true x o p r h = refl
    inner false x o p r h = h

-- what an insertion into the ordered map says of its entries
module _ {Z : Type 0} (m n : BTreeMap (String Z) (String Z)) (k : String Z) (key : List ℕ)
    (is : string_bytes k ≡ key) where
  -- whether the key is new
  pub fresh_key : (old : Option (String Z)) (fresh : Bool) → old ≡ get string_cmp m k
      → is_some old ≡ not fresh
      → fresh ≡ is_none (value_of (map entry_of_strings m.entries) key)
  fresh_key old fresh found turned =
      inner fresh old turned
      ∙ ap is_none
      (ap (option_map string_bytes) found ∙ sym (value_of-strings m.entries (string_bytes k))
      ∙ ap (value_of (map entry_of_strings m.entries)) is)
    where
      inner : (b : Bool) (o : Option (String Z)) → is_some o ≡ not b
          → b ≡ is_none (option_map string_bytes o)
      inner true None e = refl
      inner true (Some x) e = absurd (false≢true (sym e))
      inner false None e = absurd (false≢true e)
      inner false (Some x) e = refl

  -- and what the table answers afterwards
  pub updated_values : (v : String Z) (value : List ℕ) → string_bytes v ≡ value
      → Updates string_cmp m n k (Some v)
      → (q : List ℕ) → value_of (map entry_of_strings n.entries) q
      ≡ cond (bytes_eq key q) (Some value) (value_of (map entry_of_strings m.entries) q)
  updated_values v value value_is h q =
      value_of-strings n.entries q
      ∙ ap (option_map string_bytes) (btree_map_updates_text (string_bytes k) m n (Some v) h q)
      ∙ inner (bytes_eq (string_bytes k) q) (get_by_text m q)
      ∙ (λ i. cond (bytes_eq (is i) q) (Some (value_is i)) (sym (value_of-strings m.entries q) i))
    where
      inner : (b : Bool) (o : Option (String Z))
          → option_map string_bytes (cond b (Some v) o) ≡ cond b (Some (string_bytes v))
          (option_map string_bytes o)
      inner true o = refl
      inner false o = refl
