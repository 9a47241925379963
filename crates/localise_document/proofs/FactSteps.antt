-- What readers give, beside the plain facts.
use Rattle.std.proofs.Common.{◌≡◌, ℕ, ◌+◌, List, [], ◌∷◌, Option, Some, None, option_map, Result}
use Rattle.std.proofs.Common.{Ok, Err, ok_or, cond, Bool, true, false, inl, inr, refl, sym, ap, ◌∙◌}
use Rattle.serde_json.specs.Data.{Data, null, boolean, number, string, array, object, Items}
use Rattle.serde_json.specs.Data.{no_items, item, Members, no_members}
use Rattle.localise_document.specs.Facts.{IsObject, Has, MayHave, HasOr, AreRows, IsListOf}
use Rattle.localise_document.specs.Facts.{IsSection}
use Rattle.localise_document.specs.Members.{has_only}
use Rattle.localise_document.specs.Shape.{◌>>=◌, needed, optional, optional_or, members_in, in_row}
use Rattle.localise_document.specs.Shape.{rows_from, list_of, needed_list, place_of}
use Rattle.localise_document.specs.Tables.{section_of}
use Rattle.localise_document.specs.declared.place.Field.{Field}
use Rattle.localise_document.specs.declared.place.Field.TheVariants.{Whole, Unknown}
use Rattle.localise_document.specs.declared.place.Section.{Section}
use Rattle.localise_document.specs.declared.place.ShapePlace.{ShapePlace}

-- what a first step gave, and what follows it
pub behind : {A B F : Type 0} (r : Result A F) (f : A → Result B F) (b : B) → ((r >>= f) ≡ Ok b)
    → (a : A) × (r ≡ Ok a) × (f a ≡ Ok b)
behind (Ok a) f b h = (a, refl, h)
behind (Err e) f b h = absurd (cc)

-- ---- members

-- what is read where there is something
pub some_of : {A F : Type 0} (o : Option A) (fault : F) (a : A) → ok_or o fault ≡ Ok a → o ≡ Some a
some_of None fault a h = absurd (cc)
some_of (Some x) fault a h = cc

-- a needed member that is read is there
pub has_of : {A F : Type 0} (f : Data → Option A) (fault : F) (m : Option Data) (a : A)
    → needed f fault m ≡ Ok a → Has f m a
has_of f fault None a h = absurd (cc)
has_of f fault (Some d) a h = record { value = d; there = refl; says = some_of (f d) fault a h }

-- a member that is there is read
pub needed_has : {A F : Type 0} (f : Data → Option A) (fault : F) (m : Option Data) (a : A)
    → Has f m a → needed f fault m ≡ Ok a
needed_has f fault m a h = ap (needed f fault) h.there ∙ ap (λ o. ok_or o fault) h.says

-- a member that may be absent and is there
may_some : {A F : Type 0} (f : Data → Option A) (fault : F) (d : Data) (o : Option A) (s : Option A)
    → f d ≡ o
    → ok_or (option_map (λ a. Some a) o) fault ≡ Ok s → MayHave f (Some d) s
may_some f fault d None s is h = absurd (cc)
may_some f fault d (Some a) None is h = absurd (cc)
may_some f fault d (Some a) (Some b) is h = let same : a ≡ b = cc in
    record { value = d; there = refl; says = is ∙ ap (λ x. Some x) same }

-- a member that may be absent, where it is read
pub may_of : {A F : Type 0} (f : Data → Option A) (fault : F) (m : Option Data) (a : Option A)
    → optional f fault m ≡ Ok a → MayHave f m a
may_of f fault None None h = refl
may_of f fault None (Some a) h = absurd (cc)
may_of f fault (Some d) a h = may_some f fault d (f d) a refl h

-- a member that may be absent is read
pub optional_may : {A F : Type 0} (f : Data → Option A) (fault : F) (m : Option Data) (a : Option A)
    → MayHave f m a → optional f fault m ≡ Ok a
optional_may f fault m None h = ap (optional f fault) h
optional_may f fault m (Some a) h =
    ap (optional f fault) h.there ∙ ap (λ o. ok_or (option_map (λ x. Some x) o) fault) h.says

-- a member with something in its place, where it is read
pub or_of : {A F : Type 0} (absent : A) (f : Data → Option A) (fault : F) (m : Option Data) (a : A)
    → optional_or absent f fault m ≡ Ok a → HasOr absent f m a
or_of absent f fault None a h = let same : a ≡ absent = cc in inl (refl, same)
or_of absent f fault (Some d) a h =
    inr (record { value = d; there = refl; says = some_of (f d) fault a h })

-- a member with something in its place is read
pub or_has : {A F : Type 0} (absent : A) (f : Data → Option A) (fault : F) (m : Option Data) (a : A)
    → HasOr absent f m a → optional_or absent f fault m ≡ Ok a
or_has absent f fault m a (inl h) = ap (optional_or absent f fault) h.0 ∙ ap (λ x. Ok x) (sym h.1)
or_has absent f fault m a (inr h) =
    ap (optional_or absent f fault) h.there ∙ ap (λ o. ok_or o fault) h.says

-- ---- objects

-- no other names
known_of : {F : Type 0} (b : Bool) (unknown : F) (ms all : Members)
    → cond b (Ok ms) (Err unknown) ≡ Ok all → (b ≡ true) × (ms ≡ all)
known_of true unknown ms all h = let same : ms ≡ all = cc in (refl, same)
known_of false unknown ms all h = absurd (cc)

-- an object whose members are read
pub object_of : {F : Type 0} (names : List (List ℕ)) (fault unknown : F) (d : Data) (all : Members)
    → members_in names fault unknown d ≡ Ok all → IsObject names d all
object_of names fault unknown null all h = absurd (cc)
object_of names fault unknown (boolean b) all h = absurd (cc)
object_of names fault unknown (number n) all h = absurd (cc)
object_of names fault unknown (string s) all h = absurd (cc)
object_of names fault unknown (array ds) all h = absurd (cc)
object_of names fault unknown (object ms) all h =
    let two = known_of (has_only names ms) unknown ms all h in
    record { is_object = ap object two.1; known = ap (has_only names) (sym two.1) ∙ two.0 }

-- the members of an object are read
pub members_has : {F : Type 0} (names : List (List ℕ)) (fault unknown : F) (d : Data)
    (all : Members) → IsObject names d all → members_in names fault unknown d ≡ Ok all
members_has names fault unknown d all h =
    ap (members_in names fault unknown) h.is_object
    ∙ ap (λ b. cond b (Ok all) (Err unknown)) h.known

-- a section whose members are read
pub section_is : (section : Section) (names : List (List ℕ)) (m : Option Data) (all : Members)
    → section_of section names m ≡ Ok all → IsSection names m all
section_is section names None all h = let same : all ≡ no_members = cc in inl (refl, same)
section_is section names (Some d) all h =
    inr (d, refl, object_of names (place_of section Whole) (place_of section Unknown) d all h)

-- the members of a section are read
pub section_has : (section : Section) (names : List (List ℕ)) (m : Option Data) (all : Members)
    → IsSection names m all → section_of section names m ≡ Ok all
section_has section names m all (inl h) =
    ap (section_of section names) h.0 ∙ ap (λ x. Ok x) (sym h.1)
section_has section names m all (inr h) =
    ap (section_of section names) h.1
    ∙ members_has names (place_of section Whole) (place_of section Unknown) h.0 all h.2

-- ---- lists

module _ {A : Type 0} (row : Data → Result A Field) (section : Section) where
  -- a first row and the others, where both are read
  two_steps : (r : Result A Field) (n : ℕ) (rest : Result (List A) ShapePlace) (rows : List A)
      → ((in_row section n r >>= λ a. rest >>= λ more. Ok (a ∷ more)) ≡ Ok rows)
      → (a : A) × (more : List A) × (r ≡ Ok a) × (rest ≡ Ok more) × (rows ≡ a ∷ more)
  two_steps (Err e) n rest rows h = absurd (cc)
  two_steps (Ok a) n (Err e) rows h = absurd (cc)
  two_steps (Ok a) n (Ok more) rows h = let same : rows ≡ a ∷ more = cc in
      (a, more, refl, refl, same)

  -- rows that are read
  pub rows_are : (n : ℕ) (ds : Items) (rows : List A) → rows_from row section n ds ≡ Ok rows
      → AreRows (λ d a. row d ≡ Ok a) ds rows
  rows_are n no_items [] h = tt
  rows_are n no_items (a ∷ rows) h = absurd (cc)
  rows_are n (item d ds) [] h =
      let two = two_steps (row d) n (rows_from row section (n + 1) ds) [] h in
      let none : [] ≡ two.0 ∷ two.1 = two.4 in absurd (cc)
  rows_are n (item d ds) (a ∷ rows) h =
      let two = two_steps (row d) n (rows_from row section (n + 1) ds) (a ∷ rows) h in
      let same : a ∷ rows ≡ two.0 ∷ two.1 = two.4 in
      let first : two.0 ≡ a = cc in
      let others : two.1 ≡ rows = cc in
      (two.2 ∙ ap (λ x. Ok x) first, rows_are (n + 1) ds rows (two.3 ∙ ap (λ x. Ok x) others))

  -- rows are read
  pub rows_have : (n : ℕ) (ds : Items) (rows : List A) → AreRows (λ d a. row d ≡ Ok a) ds rows
      → rows_from row section n ds ≡ Ok rows
  rows_have n no_items [] h = refl
  rows_have n no_items (a ∷ rows) h = absurd h
  rows_have n (item d ds) [] h = absurd h
  rows_have n (item d ds) (a ∷ rows) h = rw (h.0, rows_have (n + 1) ds rows h.1)

  -- a list that is read
  pub list_is : (fault : Field) (d : Data) (rows : List A) → list_of row section fault d ≡ Ok rows
      → IsListOf (λ e a. row e ≡ Ok a) (Some d) rows
  list_is fault null rows h = absurd (cc)
  list_is fault (boolean b) rows h = absurd (cc)
  list_is fault (number n) rows h = absurd (cc)
  list_is fault (string s) rows h = absurd (cc)
  list_is fault (array ds) rows h =
      record { items = ds; is_list = refl; are = rows_are 0 ds rows h }
  list_is fault (object ms) rows h = absurd (cc)

  -- a list that must be there, where it is read
  pub needed_list_is : (m : Option Data) (rows : List A) → needed_list row section m ≡ Ok rows
      → IsListOf (λ e a. row e ≡ Ok a) m rows
  needed_list_is None rows h = absurd (cc)
  needed_list_is (Some d) rows h = list_is Whole d rows h

  -- a list that is there is read
  pub needed_list_has : (m : Option Data) (rows : List A) → IsListOf (λ e a. row e ≡ Ok a) m rows
      → needed_list row section m ≡ Ok rows
  needed_list_has m rows h = ap (needed_list row section) h.is_list ∙ rows_have 0 h.items rows h.are

-- rows of one kind are rows of another
pub rows_weaker : {A : Type 0} (P Q : Data → A → Type 0) → ((d : Data) (a : A) → P d a → Q d a)
    → (ds : Items) (rows : List A) → AreRows P ds rows → AreRows Q ds rows
rows_weaker P Q f no_items [] h = tt
rows_weaker P Q f no_items (a ∷ rows) h = h
rows_weaker P Q f (item d ds) [] h = h
rows_weaker P Q f (item d ds) (a ∷ rows) h = (f d a h.0, rows_weaker P Q f ds rows h.1)

-- a list of rows of one kind is one of rows of another
pub list_weaker : {A : Type 0} (P Q : Data → A → Type 0) → ((d : Data) (a : A) → P d a → Q d a)
    → (m : Option Data) (rows : List A) → IsListOf P m rows → IsListOf Q m rows
list_weaker P Q f m rows h =
    record { items = h.items; is_list = h.is_list; are = rows_weaker P Q f h.items rows h.are }
