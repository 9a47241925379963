-- The rows that a registry is made from, and what is wrong with one.
use Rattle.std.specs.Prelude.{◌≡◌, ◌≢◌, ℕ, List, [], Option, Some, None, All, AllPairs, Any}
use Rattle.std.specs.Prelude.{encode_utf8_all, map, slice_get, take}
use Rattle.writeable_core.specs.declared.text.TextRow.{TextRow}
use Rattle.language_tags_registry.specs.Kinds.{Meets, MeetsAny}
use Rattle.language_tags_registry.specs.Registry.{Entry, value_of}
use Rattle.language_tags_registry.specs.declared.kind.Kind.{Kind}
use Rattle.language_tags_registry.specs.declared.kind.RegistryTable.{RegistryTable}
use Rattle.language_tags_registry.specs.declared.kind.RegistryTable.TheVariants.{Languages}
use Rattle.language_tags_registry.specs.declared.kind.RegistryTable.TheVariants.{LanguagesPreferred}
use Rattle.language_tags_registry.specs.declared.kind.RegistryTable.TheVariants.{LanguagesSuppressScript}
use Rattle.language_tags_registry.specs.declared.kind.RegistryTable.TheVariants.{Extlangs}
use Rattle.language_tags_registry.specs.declared.kind.RegistryTable.TheVariants.{ExtlangsPreferred}
use Rattle.language_tags_registry.specs.declared.kind.RegistryTable.TheVariants.{Scripts}
use Rattle.language_tags_registry.specs.declared.kind.RegistryTable.TheVariants.{ScriptsPreferred}
use Rattle.language_tags_registry.specs.declared.kind.RegistryTable.TheVariants.{Regions}
use Rattle.language_tags_registry.specs.declared.kind.RegistryTable.TheVariants.{RegionsPreferred}
use Rattle.language_tags_registry.specs.declared.kind.RegistryTable.TheVariants.{Variants}
use Rattle.language_tags_registry.specs.declared.kind.RegistryTable.TheVariants.{VariantsPreferred}
use Rattle.language_tags_registry.specs.declared.kind.RegistryTable.TheVariants.{GrandfatheredsPreferred}
use Rattle.language_tags_registry.specs.declared.kind.RegistryTable.TheVariants.{RedundantsPreferred}
use Rattle.language_tags_registry.specs.declared.kind.Rule.{Rule}
use Rattle.language_tags_registry.specs.declared.rows.RegistryRows.{RegistryRows}

-- the rows of a table
abbrev pub rows_of : RegistryTable → RegistryRows → List TextRow
rows_of Languages rows = rows.languages.items
rows_of LanguagesPreferred rows = rows.languages_preferred.items
rows_of LanguagesSuppressScript rows = rows.languages_suppress_script.items
rows_of Extlangs rows = rows.extlangs.items
rows_of ExtlangsPreferred rows = rows.extlangs_preferred.items
rows_of Scripts rows = rows.scripts.items
rows_of ScriptsPreferred rows = rows.scripts_preferred.items
rows_of Regions rows = rows.regions.items
rows_of RegionsPreferred rows = rows.regions_preferred.items
rows_of Variants rows = rows.variants.items
rows_of VariantsPreferred rows = rows.variants_preferred.items
rows_of GrandfatheredsPreferred rows = rows.grandfathereds_preferred.items
rows_of RedundantsPreferred rows = rows.redundants_preferred.items

-- the first cell of a row is its key
abbrev pub row_key : TextRow → List ℕ
row_key row = encode_utf8_all row.first

-- the second is its value, where the table has values; else it isn't looked at
abbrev pub row_value : Option Rule → TextRow → List ℕ
row_value None row = []
row_value (Some rule) row = encode_utf8_all row.second

module _ (kind : Kind) where
  -- the key of a row keeps its rule, and the value
  abbrev pub HasKey : TextRow → Type 0
  HasKey row = Meets kind.key (row_key row)

  abbrev pub HasValue : TextRow → Type 0
  HasValue row = MeetsAny kind.value (row_value kind.value row)

  -- the entry of a row
  abbrev pub entry_of : TextRow → Entry
  entry_of row = record { key = row_key row; value = row_value kind.value row }

  -- no row is faulty: each has a key and a value, and no key comes twice
  pub record AreSound (rows : List TextRow) : Type 0 where
    pub keys : All HasKey rows
    pub values : All HasValue rows
    pub distinct : AllPairs (λ earlier later. row_key earlier ≢ row_key later) rows

  -- no row is faulty, and the table answers each key as they do
  pub record IsTableOf (rows : List TextRow) (table : List Entry) : Type 0 where
    pub sound : AreSound rows
    pub same : (key : List ℕ) → value_of table key ≡ value_of (map entry_of rows) key

  -- The faults of a row: it has no key; it has a key and no value; it has both, and its key is
  -- that of an earlier row.
  abbrev pub HasNoKey : TextRow → Type 0
  HasNoKey row = ¬ HasKey row

  abbrev pub HasNoValue : TextRow → Type 0
  HasNoValue row = HasKey row × (¬ HasValue row)

  abbrev pub HasEarlierKey : List TextRow → TextRow → Type 0
  HasEarlierKey earlier row =
      HasKey row × HasValue row × Any (λ other. row_key other ≡ row_key row) earlier

  -- row i is the first faulty one, and this is its fault
  pub record FirstFaultIs (rows : List TextRow) (i : ℕ) (fault : TextRow → Type 0) : Type 0 where
    pub before : AreSound (take i rows)
    pub row : TextRow
    pub row_is : slice_get rows i ≡ Some row
    pub fault_is : fault row
