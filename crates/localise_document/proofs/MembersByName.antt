-- Slots that are filled by name.
use Rattle.std.proofs.Common.{◌≡◌, ◌++◌, string_bytes, option_map, append_assoc, append-nil, ℕ}
use Rattle.std.proofs.Common.{zero, suc, ◌<◌, ◌≤◌, ◌||◌, ◌&&◌, List, [], ◌∷◌, length, get_or, set}
use Rattle.std.proofs.Common.{map, Bool, true, false, not, Option, Some, None, Bor, bytes_eq}
use Rattle.std.proofs.Common.{true≢false, refl, sym, ap, ap₂, ◌∙◌, subst, arith}
use Rattle.std.proofs.lemmas.List.{get_or-map, map-set}
use Rattle.std.proofs.lemmas.Slice.Eq.{bytes_eq-Decides}
use Rattle.std.specs.List.{list_any, All}
use Rattle.serde_json.specs.Data.{Data, Members, no_members, put}
use Rattle.serde_json.specs.Find.{get_member}
use Rattle.serde_json.proofs.Views.{Entry, put_last, get_member-put, get_member-put_other}
use Rattle.std.specs.List.Sorted.{IsStrictlySortedBy}
use Rattle.std.specs.Map.{keys_of}
use Rattle.std.specs.String.{string_cmp}
use Rattle.serde_json.specs.View.{view, members_view}
use Rattle.serde_json.specs.declared.value.Value.{Value}
use Rattle.localise_document.specs.Members.{texts, are_distinct, has_only}

-- a name, as a text
pub text_at : (names : List (Bor (List ℕ))) (i : ℕ) (d : Bor (List ℕ)) → i < length names
    → get_or (texts names) i [] ≡ (get_or names i d).now
text_at names i d within = get_or-map (λ name. name.now) names i d [] within

-- no name is the key
pub none_of : (key : List ℕ) (names : List (Bor (List ℕ))) (n : ℕ) → length names ≤ n
    → ((k : ℕ) → k < n → bytes_eq key (get_or (texts names) k []) ≡ false)
    → list_any (bytes_eq key) (texts names) ≡ false
none_of key [] n all h = refl
none_of key (name ∷ names) zero all h = absurd (omega arith)
none_of key (name ∷ names) (suc n) all h =
    ap (λ b. b || list_any (bytes_eq key) (texts names)) (h 0 (omega arith))
    ∙ none_of key names n (omega arith) (λ k less. h (suc k) (omega arith))

-- a name that stands among these is one of them
pub one_of : (key : List ℕ) (names : List (List ℕ)) (i : ℕ) → i < length names
    → get_or names i [] ≡ key → list_any (bytes_eq key) names ≡ true
one_of key [] i within is = absurd (omega arith)
one_of key (name ∷ names) zero within is =
    ap (λ b. b || list_any (bytes_eq key) names) ((bytes_eq-Decides key name).1 (sym is))
one_of key (name ∷ names) (suc i) within is =
    either (bytes_eq key name) (one_of key names i (omega arith) is)
  where
    either : (b : Bool) {c : Bool} → c ≡ true → (b || c) ≡ true
    either true h = refl
    either false h = h

-- what the names have, of these members
abbrev pub of_names : Members → List (List ℕ) → List (Option Data)
of_names ms names = map (λ name. get_member name ms) names

-- no name among these: a member that is put changes nothing of them
untouched : (names : List (List ℕ)) (key : List ℕ) (d : Data) (ms : Members)
    → list_any (bytes_eq key) names ≡ false → of_names (put key d ms) names ≡ of_names ms names
untouched [] key d ms none = refl
untouched (name ∷ names) key d ms none =
    let two = neither (bytes_eq key name) none in
    let other =
    λ (same : name ≡ key).
    true≢false (sym ((bytes_eq-Decides key name).1 (sym same)) ∙ two.0) in
    ap₂ (λ x xs. x ∷ xs) (get_member-put_other name key d ms other) (untouched names key d ms two.1)
  where
    neither : (a : Bool) {b : Bool} → (a || b) ≡ false → (a ≡ false) × (b ≡ false)
    neither true h = absurd (true≢false h)
    neither false h = (refl, h)

-- a test that fails and one that holds
both : (a b : Bool) → (not a && b) ≡ true → (a ≡ false) × (b ≡ true)
both true b h = absurd (true≢false (sym h))
both false b h = (refl, h)

-- to write a member into its slot is to put it among the members
pub filled : (names : List (List ℕ)) (i : ℕ) (key : List ℕ) (d : Data) (ms : Members)
    → are_distinct names ≡ true → i < length names → get_or names i [] ≡ key
    → set (of_names ms names) i (Some d) ≡ of_names (put key d ms) names
filled [] i key d ms apart within is = absurd (omega arith)
filled (name ∷ names) zero key d ms apart within is =
    let two = both _ _ apart in
    ap₂ (λ x xs. x ∷ xs)
    (sym (get_member-put key d ms) ∙ ap (λ k. get_member k (put key d ms)) (sym is))
    (sym (untouched names key d ms (ap (λ k. list_any (bytes_eq k) names) (sym is) ∙ two.0)))
filled (name ∷ names) (suc i) key d ms apart within is =
    let two = both _ _ apart in
    let other =
    λ (same : name ≡ key).
    true≢false (sym (one_of name names i (omega arith) (is ∙ sym same)) ∙ two.0) in
    ap₂ (λ x xs. x ∷ xs) (sym (get_member-put_other name key d ms other))
    (filled names i key d ms two.1 (omega arith) is)

-- the entries of `all` but `left` have been read into the slots
pub record IsRead (names : List (List ℕ)) (all left : List Entry) (slots : List (Option Value)) :
    Type 0 where
  pub done : List Entry
  pub rest : all ≡ done ++ left
  pub known : has_only names (members_view all) ≡ has_only names (members_view left)
  pub held : map (option_map view) slots ≡ of_names (members_view done) names

-- empty slots hold nothing
none_yet : (names : List (List ℕ)) (slots : List (Option Value)) → length slots ≡ length names
    → All (λ slot. slot ≡ None) slots → map (option_map view) slots ≡ of_names no_members names
none_yet [] [] long h = refl
none_yet [] (slot ∷ slots) long h = absurd (omega arith)
none_yet (name ∷ names) [] long h = absurd (omega arith)
none_yet (name ∷ names) (slot ∷ slots) long h =
    ap₂ (λ x xs. x ∷ xs) (ap (option_map view) (h 0 slot (omega arith)))
    (none_yet names slots (omega arith) (λ k d less. h (suc k) d (omega arith)))

-- before the first entry
pub none_read : (names : List (List ℕ)) (all : List Entry) (slots : List (Option Value))
    → length slots ≡ length names → All (λ slot. slot ≡ None) slots → IsRead names all all slots
none_read names all slots long empty =
    record { done = []; rest = refl; known = refl; held = none_yet names slots long empty }

-- behind an entry whose key is a name
pub one_read : (names : List (List ℕ)) (all : List Entry) (e : Entry) (left : List Entry)
    (slots : List (Option Value)) (i : ℕ) → IsStrictlySortedBy string_cmp (keys_of all)
    → are_distinct names ≡ true
    → i < length names → get_or names i [] ≡ string_bytes e.0 → IsRead names all (e ∷ left) slots
    → IsRead names all left (set slots i (Some e.1))
one_read names all e left slots i ordered apart within is r =
    let last =
    put_last r.done e left
    (subst (λ es. IsStrictlySortedBy string_cmp (keys_of es)) r.rest ordered) in
    record {
      done = r.done ++ e ∷ [];
      rest = r.rest ∙ sym (append_assoc r.done (e ∷ []) left);
      known =
          r.known ∙ ap (λ b. b && has_only names (members_view left))
          (one_of (string_bytes e.0) names i within is);
      held = map-set (option_map view) slots i (Some e.1)
          ∙ ap (λ xs. set xs i (Some (view e.1))) r.held
          ∙ filled names i (string_bytes e.0) (view e.1) (members_view r.done) apart within is
          ∙ ap (λ ms. of_names ms names) last;
    }

-- an entry whose key is no name
pub one_refused : (names : List (List ℕ)) (all : List Entry) (e : Entry) (left : List Entry)
    (slots : List (Option Value)) → list_any (bytes_eq (string_bytes e.0)) names ≡ false
    → IsRead names all (e ∷ left) slots
    → has_only names (members_view all) ≡ false
one_refused names all e left slots none r =
    r.known ∙ ap (λ b. b && has_only names (members_view left)) none

-- behind the last entry
pub all_read : (names : List (List ℕ)) (all : List Entry) (slots : List (Option Value))
    → IsRead names all [] slots
    → (has_only names (members_view all) ≡ true)
    × (map (option_map view) slots ≡ of_names (members_view all) names)
all_read names all slots r = (
  r.known,
  r.held
      ∙ ap (λ es. of_names (members_view es) names) (sym (r.rest ∙ append-nil r.done)),
)
