-- Tables beside the plain facts.
use Rattle.std.proofs.Common.{◌≡◌, ℕ, List, [], ◌∷◌, codes, map, Option, Some, None, Result, Ok}
use Rattle.std.proofs.Common.{Err, Bool, true, false, cond, eqb, inl, inr, refl, sym, ap, ◌∙◌}
use Rattle.std.proofs.lemmas.Bool.{eqb-true, eq-eqb}
use Rattle.serde_json.specs.Data.{Data, null, boolean, number, string, array, object, Members}
use Rattle.serde_json.specs.Events.{items_len}
use Rattle.serde_json.specs.Find.{get_item, get_member}
use Rattle.writeable_core.specs.declared.text.TextRow.{TextRow}
use Rattle.localise_document.proofs.FactSteps.{behind, list_is, list_weaker, rows_have, rows_weaker}
use Rattle.localise_document.proofs.FactSteps.{section_has, section_is, some_of}
use Rattle.localise_document.specs.Facts.{AreTables, AreTablesOf, IsTable, IsTableRow}
use Rattle.localise_document.specs.Facts.{fallback_cells, registry_cells}
use Rattle.localise_document.specs.Names.{fallback_names, registry_names}
use Rattle.localise_document.specs.Shape.{◌>>=◌}
use Rattle.localise_document.specs.Tables.{cell_of, cells_of, fallback_in, fallback_of, registry_in}
use Rattle.localise_document.specs.Tables.{registry_of, row_from, row_of, section_of, table_of}
use Rattle.localise_document.specs.declared.place.Field.{Field}
use Rattle.localise_document.specs.declared.place.Field.TheVariants.{RegistryTable, FallbackTable}
use Rattle.localise_document.specs.declared.place.Section.{Section}
use Rattle.localise_document.specs.declared.place.Section.TheVariants.{Registry, Fallback}
use Rattle.localise_document.specs.declared.place.ShapePlace.{ShapePlace}

-- ---- rows

-- so many cells
counted : (b : Bool) (o : Option TextRow) (row : TextRow) → cond b o None ≡ Some row
    → (b ≡ true) × (o ≡ Some row)
counted true o row h = (refl, h)
counted false o row h = absurd (cc)

-- three texts, where a row is made of them
three : (a b c : Option (List ℕ)) (row : TextRow) → row_from a b c ≡ Some row
    → (a ≡ Some row.first) × (b ≡ Some row.second) × (c ≡ Some row.third)
three (Some a) (Some b) (Some c) row h =
    let made : TextRow = record { first = a; second = b; third = c } in
    let same : made ≡ row = cc in (
      ap (λ (r : TextRow). Some r.first) same,
      ap (λ (r : TextRow). Some r.second) same,
      ap (λ (r : TextRow). Some r.third) same,
    )
three (Some a) (Some b) None row h = absurd (cc)
three (Some a) None c row h = absurd (cc)
three None b c row h = absurd (cc)

-- a row that is read has the plain facts
row_is : (cells : ℕ) (field : Field) (d : Data) (row : TextRow) → row_of cells field d ≡ Ok row
    → IsTableRow cells d row
row_is cells field null row h = absurd (cc)
row_is cells field (boolean b) row h = absurd (cc)
row_is cells field (number n) row h = absurd (cc)
row_is cells field (string s) row h = absurd (cc)
row_is cells field (object ms) row h = absurd (cc)
row_is cells field (array ds) row h =
    let two =
    counted (eqb (items_len ds) cells)
    (row_from (cell_of (get_item 0 ds)) (cell_of (get_item 1 ds)) (cell_of (get_item 2 ds))) row
    (some_of (cells_of cells ds) field row h) in
    let all = three _ _ _ row two.1 in
    record {
      items = ds;
      is_list = refl;
      count = eqb-true (items_len ds) cells two.0;
      first = all.0;
      second = all.1;
      third = all.2;
    }

-- a row with the plain facts is read
row_has : (cells : ℕ) (field : Field) (d : Data) (row : TextRow) → IsTableRow cells d row
    → row_of cells field d ≡ Ok row
row_has cells field d row h =
    ap (row_of cells field) h.is_list
    ∙ rw (eq-eqb (items_len h.items) cells h.count, h.first, h.second, h.third)

-- ---- tables

-- a table that is read has the plain facts
table_is : (section : Section) (field : Field) (cells : ℕ) (m : Option Data) (rows : List TextRow)
    → table_of section field cells m ≡ Ok rows → IsTable cells m rows
table_is section field cells None rows h = let same : rows ≡ [] = cc in inl (refl, same)
table_is section field cells (Some d) rows h =
    inr
    (list_weaker (λ e a. row_of cells field e ≡ Ok a) (IsTableRow cells) (row_is cells field)
    (Some d) rows (list_is (row_of cells field) section field d rows h))

-- a table with the plain facts is read
table_has : (section : Section) (field : Field) (cells : ℕ) (m : Option Data) (rows : List TextRow)
    → IsTable cells m rows → table_of section field cells m ≡ Ok rows
table_has section field cells m rows (inl h) =
    ap (table_of section field cells) h.0 ∙ ap (λ x. Ok x) (sym h.1)
table_has section field cells m rows (inr h) =
    ap (table_of section field cells) h.is_list
    ∙ rows_have (row_of cells field) section 0 h.items rows
    (rows_weaker (IsTableRow cells) (λ e a. row_of cells field e ≡ Ok a)
    (row_has cells field) h.items rows h.are)

-- ---- tables one after another

-- the rows of a table, or the place that is misshapen
abbrev Read : Type 0
Read = Result (List TextRow) ShapePlace

-- each of them, or the first fault
abbrev all_of : List Read → Result (List (List TextRow)) ShapePlace
all_of [] = Ok []
all_of (r ∷ rs) = do
  rows ← r
  more ← all_of rs
  Ok (rows ∷ more)

-- tables of a section, by name, number of cells and field
abbrev reads : Section → List (List ℕ × ℕ × Field) → Members → List Read
reads section [] ms = []
reads section (t ∷ ts) ms = table_of section t.2 t.1 (get_member t.0 ms) ∷ reads section ts ms

-- their names and numbers of cells
abbrev cells_only : List (List ℕ × ℕ × Field) → List (List ℕ × ℕ)
cells_only ts = map (λ t. (t.0, t.1)) ts

-- a first table and the others, where all are read
two_steps : (r : Read) (rest : Result (List (List TextRow)) ShapePlace)
    (lists : List (List TextRow)) → ((r >>= λ a. rest >>= λ more. Ok (a ∷ more)) ≡ Ok lists)
    → (a : List TextRow) × (more : List (List TextRow)) × (r ≡ Ok a) × (rest ≡ Ok more)
    × (lists ≡ a ∷ more)
two_steps (Err e) rest lists h = absurd (cc)
two_steps (Ok a) (Err e) lists h = absurd (cc)
two_steps (Ok a) (Ok more) lists h = let same : lists ≡ a ∷ more = cc in (a, more, refl, refl, same)

-- tables that are read have the plain facts
tables_are : (section : Section) (ts : List (List ℕ × ℕ × Field)) (ms : Members)
    (lists : List (List TextRow)) → all_of (reads section ts ms) ≡ Ok lists
    → AreTables (cells_only ts) ms lists
tables_are section [] ms [] h = tt
tables_are section [] ms (rows ∷ lists) h = absurd (cc)
tables_are section (t ∷ ts) ms [] h =
    let two =
    two_steps (table_of section t.2 t.1 (get_member t.0 ms))
    (all_of (reads section ts ms)) [] h in
    let none : [] ≡ two.0 ∷ two.1 = two.4 in absurd (cc)
tables_are section (t ∷ ts) ms (rows ∷ lists) h =
    let two =
    two_steps (table_of section t.2 t.1 (get_member t.0 ms)) (all_of (reads section ts ms))
    (rows ∷ lists) h in
    let same : rows ∷ lists ≡ two.0 ∷ two.1 = two.4 in
    let first : two.0 ≡ rows = cc in
    let others : two.1 ≡ lists = cc in (
      table_is section t.2 t.1 (get_member t.0 ms) rows (two.2 ∙ ap (λ x. Ok x) first),
      tables_are section ts ms lists (two.3 ∙ ap (λ x. Ok x) others),
    )

-- tables with the plain facts are read
tables_have : (section : Section) (ts : List (List ℕ × ℕ × Field)) (ms : Members)
    (lists : List (List TextRow)) → AreTables (cells_only ts) ms lists
    → all_of (reads section ts ms) ≡ Ok lists
tables_have section [] ms [] h = refl
tables_have section [] ms (rows ∷ lists) h = absurd h
tables_have section (t ∷ ts) ms [] h = absurd h
tables_have section (t ∷ ts) ms (rows ∷ lists) h =
    rw (table_has section t.2 t.1 (get_member t.0 ms) rows h.0, tables_have section ts ms lists h.1)

-- tables one after another
abbrev thirteen : Read → Read → Read → Read → Read → Read → Read → Read → Read → Read → Read → Read
    → Read → Result (List (List TextRow)) ShapePlace
thirteen r0 r1 r2 r3 r4 r5 r6 r7 r8 r9 r10 r11 r12 = do
  a0 ← r0
  a1 ← r1
  a2 ← r2
  a3 ← r3
  a4 ← r4
  a5 ← r5
  a6 ← r6
  a7 ← r7
  a8 ← r8
  a9 ← r9
  a10 ← r10
  a11 ← r11
  a12 ← r12
  Ok (a0 ∷ a1 ∷ a2 ∷ a3 ∷ a4 ∷ a5 ∷ a6 ∷ a7 ∷ a8 ∷ a9 ∷ a10 ∷ a11 ∷ a12 ∷ [])

-- they are each of them
thirteen_all : (r0 r1 r2 r3 r4 r5 r6 r7 r8 r9 r10 r11 r12 : Read)
    → thirteen r0 r1 r2 r3 r4 r5 r6 r7 r8 r9 r10 r11 r12
    ≡ all_of (r0 ∷ r1 ∷ r2 ∷ r3 ∷ r4 ∷ r5 ∷ r6 ∷ r7 ∷ r8 ∷ r9 ∷ r10 ∷ r11 ∷ r12 ∷ [])
thirteen_all (Err e) r1 r2 r3 r4 r5 r6 r7 r8 r9 r10 r11 r12 = refl
thirteen_all (Ok a0) (Err e) r2 r3 r4 r5 r6 r7 r8 r9 r10 r11 r12 = refl
thirteen_all (Ok a0) (Ok a1) (Err e) r3 r4 r5 r6 r7 r8 r9 r10 r11 r12 = refl
thirteen_all (Ok a0) (Ok a1) (Ok a2) (Err e) r4 r5 r6 r7 r8 r9 r10 r11 r12 = refl
thirteen_all (Ok a0) (Ok a1) (Ok a2) (Ok a3) (Err e) r5 r6 r7 r8 r9 r10 r11 r12 = refl
thirteen_all (Ok a0) (Ok a1) (Ok a2) (Ok a3) (Ok a4) (Err e) r6 r7 r8 r9 r10 r11 r12 = refl
thirteen_all (Ok a0) (Ok a1) (Ok a2) (Ok a3) (Ok a4) (Ok a5) (Err e) r7 r8 r9 r10 r11 r12 = refl
thirteen_all (Ok a0) (Ok a1) (Ok a2) (Ok a3) (Ok a4) (Ok a5) (Ok a6) (Err e) r8 r9 r10 r11 r12 =
    refl
thirteen_all (Ok a0) (Ok a1) (Ok a2) (Ok a3) (Ok a4) (Ok a5) (Ok a6) (Ok a7)
    (Err e) r9 r10 r11 r12 = refl
thirteen_all (Ok a0) (Ok a1) (Ok a2) (Ok a3) (Ok a4) (Ok a5) (Ok a6) (Ok a7) (Ok a8)
    (Err e) r10 r11 r12 = refl
thirteen_all (Ok a0) (Ok a1) (Ok a2) (Ok a3) (Ok a4) (Ok a5) (Ok a6) (Ok a7) (Ok a8) (Ok a9)
    (Err e) r11 r12 = refl
thirteen_all (Ok a0) (Ok a1) (Ok a2) (Ok a3) (Ok a4) (Ok a5) (Ok a6) (Ok a7) (Ok a8) (Ok a9)
    (Ok a10) (Err e) r12 = refl
thirteen_all (Ok a0) (Ok a1) (Ok a2) (Ok a3) (Ok a4) (Ok a5) (Ok a6) (Ok a7) (Ok a8) (Ok a9)
    (Ok a10) (Ok a11) (Err e) = refl
thirteen_all (Ok a0) (Ok a1) (Ok a2) (Ok a3) (Ok a4) (Ok a5) (Ok a6) (Ok a7) (Ok a8) (Ok a9)
    (Ok a10) (Ok a11) (Ok a12) = refl

-- tables one after another
abbrev four : Read → Read → Read → Read → Result (List (List TextRow)) ShapePlace
four r0 r1 r2 r3 = do
  a0 ← r0
  a1 ← r1
  a2 ← r2
  a3 ← r3
  Ok (a0 ∷ a1 ∷ a2 ∷ a3 ∷ [])

-- they are each of them
four_all : (r0 r1 r2 r3 : Read) → four r0 r1 r2 r3 ≡ all_of (r0 ∷ r1 ∷ r2 ∷ r3 ∷ [])
four_all (Err e) r1 r2 r3 = refl
four_all (Ok a0) (Err e) r2 r3 = refl
four_all (Ok a0) (Ok a1) (Err e) r3 = refl
four_all (Ok a0) (Ok a1) (Ok a2) (Err e) = refl
four_all (Ok a0) (Ok a1) (Ok a2) (Ok a3) = refl

-- the registry's tables, with their fields
abbrev registry_shapes : List (List ℕ × ℕ × Field)
registry_shapes =
    (codes "languages", 1, RegistryTable 0)
    ∷ (codes "languages_preferred", 2, RegistryTable 1)
    ∷ (codes "languages_suppress_script", 2, RegistryTable 2)
    ∷ (codes "extlangs", 2, RegistryTable 3)
    ∷ (codes "extlangs_preferred", 2, RegistryTable 4)
    ∷ (codes "scripts", 1, RegistryTable 5)
    ∷ (codes "scripts_preferred", 2, RegistryTable 6)
    ∷ (codes "regions", 1, RegistryTable 7)
    ∷ (codes "regions_preferred", 2, RegistryTable 8)
    ∷ (codes "variants", 2, RegistryTable 9)
    ∷ (codes "variants_preferred", 2, RegistryTable 10)
    ∷ (codes "grandfathereds_preferred", 2, RegistryTable 11)
    ∷ (codes "redundants_preferred", 2, RegistryTable 12)
    ∷ []

-- the tables of fallback, with their fields
abbrev fallback_shapes : List (List ℕ × ℕ × Field)
fallback_shapes =
    (codes "likely_language", 3, FallbackTable 0)
    ∷ (codes "likely_language_script", 3, FallbackTable 1)
    ∷ (codes "likely_language_region", 3, FallbackTable 2)
    ∷ (codes "parents", 2, FallbackTable 3)
    ∷ []

-- the registry's tables are each of these
registry_in_all : (ms : Members) → registry_in ms ≡ all_of (reads Registry registry_shapes ms)
unfolding registry_in
registry_in_all ms = thirteen_all _ _ _ _ _ _ _ _ _ _ _ _ _

-- the tables of fallback are each of these
fallback_in_all : (ms : Members) → fallback_in ms ≡ all_of (reads Fallback fallback_shapes ms)
unfolding fallback_in
fallback_in_all ms = four_all _ _ _ _

-- ---- sections

-- a registry that is read has the plain facts
pub registry_is : (m : Option Data) (lists : List (List TextRow)) → registry_of m ≡ Ok lists
    → AreTablesOf registry_names registry_cells m lists
unfolding registry_of
registry_is m lists h =
    let two = behind (section_of Registry registry_names m) registry_in lists h in
    record {
      members = two.0;
      has = section_is Registry registry_names m two.0 two.1;
      are = tables_are Registry registry_shapes two.0 lists (sym (registry_in_all two.0) ∙ two.2);
    }

-- a section with the plain facts is read as a registry
pub registry_has : (m : Option Data) (lists : List (List TextRow))
    → AreTablesOf registry_names registry_cells m lists → registry_of m ≡ Ok lists
unfolding registry_of
registry_has m lists h =
    ap (λ r. r >>= registry_in) (section_has Registry registry_names m h.members h.has)
    ∙ registry_in_all h.members ∙ tables_have Registry registry_shapes h.members lists h.are

-- tables of fallback that are read have the plain facts
pub fallback_is : (m : Option Data) (lists : List (List TextRow)) → fallback_of m ≡ Ok lists
    → AreTablesOf fallback_names fallback_cells m lists
unfolding fallback_of
fallback_is m lists h =
    let two = behind (section_of Fallback fallback_names m) fallback_in lists h in
    record {
      members = two.0;
      has = section_is Fallback fallback_names m two.0 two.1;
      are = tables_are Fallback fallback_shapes two.0 lists (sym (fallback_in_all two.0) ∙ two.2);
    }

-- a section with the plain facts is read as tables of fallback
pub fallback_has : (m : Option Data) (lists : List (List TextRow))
    → AreTablesOf fallback_names fallback_cells m lists → fallback_of m ≡ Ok lists
unfolding fallback_of
fallback_has m lists h =
    ap (λ r. r >>= fallback_in) (section_has Fallback fallback_names m h.members h.has)
    ∙ fallback_in_all h.members ∙ tables_have Fallback fallback_shapes h.members lists h.are
