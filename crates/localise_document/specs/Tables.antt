-- The tables of a document: lists of rows of texts.
use Rattle.std.specs.Prelude.{ℕ, ◌==◌, List, [], ◌∷◌, codes, Option, Some, None, Result, Ok, ok_or}
use Rattle.std.specs.Prelude.{if◌then◌else◌, option_and_then}
use Rattle.serde_json.specs.Data.{Data, Items, Members, no_members}
use Rattle.serde_json.specs.Events.{items_len}
use Rattle.serde_json.specs.Find.{as_array, get_item, get_member}
use Rattle.writeable_core.specs.declared.text.TextRow.{TextRow}
use Rattle.localise_document.specs.Names.{fallback_names, registry_names}
use Rattle.localise_document.specs.Shape.{◌>>=◌, list_of, members_in, place_of, text_of}
use Rattle.localise_document.specs.declared.place.Field.{Field}
use Rattle.localise_document.specs.declared.place.Field.TheVariants.{Whole, Unknown, RegistryTable}
use Rattle.localise_document.specs.declared.place.Field.TheVariants.{FallbackTable}
use Rattle.localise_document.specs.declared.place.Section.{Section}
use Rattle.localise_document.specs.declared.place.Section.TheVariants.{Registry, Fallback}
use Rattle.localise_document.specs.declared.place.ShapePlace.{ShapePlace}

-- a cell, which is empty where the table has fewer
abbrev pub cell_of : Option Data → Option (List ℕ)
cell_of None = Some []
cell_of (Some d) = text_of d

-- a row of its three cells, where each is a text
abbrev pub row_from : Option (List ℕ) → Option (List ℕ) → Option (List ℕ) → Option TextRow
row_from (Some first) (Some second) (Some third) =
    Some (record { first = first; second = second; third = third })
row_from (Some first) (Some second) None = None
row_from (Some first) None third = None
row_from None second third = None

-- a row of exactly so many texts
abbrev pub cells_of : ℕ → Items → Option TextRow
cells_of cells ds =
    if items_len ds == cells
    then row_from (cell_of (get_item 0 ds)) (cell_of (get_item 1 ds)) (cell_of (get_item 2 ds))
    else None

-- a row of a table of this name
abbrev pub row_of : ℕ → Field → Data → Result TextRow Field
row_of cells field d = ok_or (option_and_then (cells_of cells) (as_array d)) field

-- a table, which is empty where it is absent
abbrev pub table_of : Section → Field → ℕ → Option Data → Result (List TextRow) ShapePlace
table_of section field cells None = Ok []
table_of section field cells (Some d) = list_of (row_of cells field) section field d

-- the members of a section of tables, which has none where it is absent
abbrev pub section_of : Section → List (List ℕ) → Option Data → Result Members ShapePlace
section_of section names None = Ok no_members
section_of section names (Some d) =
    members_in names (place_of section Whole) (place_of section Unknown) d

-- the tables of the registry in order, of one cell or two
unfoldable pub registry_in : Members → Result (List (List TextRow)) ShapePlace
registry_in ms = do
  languages ← table_of Registry (RegistryTable 0) 1 (get_member (codes "languages") ms)
  languages_preferred ← table_of Registry (RegistryTable 1) 2
      (get_member (codes "languages_preferred") ms)
  languages_suppress_script ← table_of Registry (RegistryTable 2) 2
      (get_member (codes "languages_suppress_script") ms)
  extlangs ← table_of Registry (RegistryTable 3) 2 (get_member (codes "extlangs") ms)
  extlangs_preferred ← table_of Registry (RegistryTable 4) 2
      (get_member (codes "extlangs_preferred") ms)
  scripts ← table_of Registry (RegistryTable 5) 1 (get_member (codes "scripts") ms)
  scripts_preferred ← table_of Registry (RegistryTable 6) 2
      (get_member (codes "scripts_preferred") ms)
  regions ← table_of Registry (RegistryTable 7) 1 (get_member (codes "regions") ms)
  regions_preferred ← table_of Registry (RegistryTable 8) 2
      (get_member (codes "regions_preferred") ms)
  variants ← table_of Registry (RegistryTable 9) 2 (get_member (codes "variants") ms)
  variants_preferred ← table_of Registry (RegistryTable 10) 2
      (get_member (codes "variants_preferred") ms)
  grandfathereds_preferred ← table_of Registry (RegistryTable 11) 2
      (get_member (codes "grandfathereds_preferred") ms)
  redundants_preferred ← table_of Registry (RegistryTable 12) 2
      (get_member (codes "redundants_preferred") ms)
  Ok (languages ∷ languages_preferred ∷ languages_suppress_script ∷ extlangs ∷ extlangs_preferred
      ∷ scripts ∷ scripts_preferred ∷ regions ∷ regions_preferred ∷ variants ∷ variants_preferred
      ∷ grandfathereds_preferred ∷ redundants_preferred ∷ [])

-- the tables of fallback in order, of three cells but for the last
unfoldable pub fallback_in : Members → Result (List (List TextRow)) ShapePlace
fallback_in ms = do
  likely_language ← table_of Fallback (FallbackTable 0) 3 (get_member (codes "likely_language") ms)
  likely_language_script ← table_of Fallback (FallbackTable 1) 3
      (get_member (codes "likely_language_script") ms)
  likely_language_region ← table_of Fallback (FallbackTable 2) 3
      (get_member (codes "likely_language_region") ms)
  parents ← table_of Fallback (FallbackTable 3) 2 (get_member (codes "parents") ms)
  Ok (likely_language ∷ likely_language_script ∷ likely_language_region ∷ parents ∷ [])

-- the registry
unfoldable pub registry_of : Option Data → Result (List (List TextRow)) ShapePlace
registry_of section = do
  ms ← section_of Registry registry_names section
  registry_in ms

-- the tables of fallback
unfoldable pub fallback_of : Option Data → Result (List (List TextRow)) ShapePlace
fallback_of section = do
  ms ← section_of Fallback fallback_names section
  fallback_in ms
