-- The tables of a registry: the subtags of RFC 5646, section 3.1, and the values that they go to.
use Rattle.std.specs.Prelude.{ℕ, List, [], ◌∷◌, Option, Some, None, String, slice_index_or}
use Rattle.std.specs.Prelude.{string_bytes, if◌then◌else◌}
use Rattle.std.specs.Str.{bytes_eq}
use Rattle.language_tags_registry.specs.declared.kind.RegistryTable.{RegistryTable}
use Rattle.language_tags_registry.specs.declared.kind.RegistryTable.TheVariants.{Languages}
use Rattle.language_tags_registry.specs.declared.kind.RegistryTable.TheVariants.{LanguagesPreferred}
use Rattle.language_tags_registry.specs.declared.kind.RegistryTable.TheVariants.{LanguagesSuppressScript}
use Rattle.language_tags_registry.specs.declared.kind.RegistryTable.TheVariants.{Extlangs}
use Rattle.language_tags_registry.specs.declared.kind.RegistryTable.TheVariants.{ExtlangsPreferred}
use Rattle.language_tags_registry.specs.declared.kind.RegistryTable.TheVariants.{Scripts}
use Rattle.language_tags_registry.specs.declared.kind.RegistryTable.TheVariants.{ScriptsPreferred}
use Rattle.language_tags_registry.specs.declared.kind.RegistryTable.TheVariants.{Regions}
use Rattle.language_tags_registry.specs.declared.kind.RegistryTable.TheVariants.{RegionsPreferred}
use Rattle.language_tags_registry.specs.declared.kind.RegistryTable.TheVariants.{Variants}
use Rattle.language_tags_registry.specs.declared.kind.RegistryTable.TheVariants.{VariantsPreferred}
use Rattle.language_tags_registry.specs.declared.kind.RegistryTable.TheVariants.{GrandfatheredsPreferred}
use Rattle.language_tags_registry.specs.declared.kind.RegistryTable.TheVariants.{RedundantsPreferred}

-- An entry of a table, in UTF-8. The value is the empty text where the table has none.
pub record Entry : Type 0 where
  pub key : List ℕ
  pub value : List ℕ

-- the entry of two strings
abbrev pub entry_of_strings : {Z : Type 0} → String Z × String Z → Entry
entry_of_strings p = record { key = string_bytes p.0; value = string_bytes p.1 }

-- the tables, in their order
pub record Tables : Type 0 where
  pub languages : List Entry
  pub languages_preferred : List Entry
  pub languages_suppress_script : List Entry
  pub extlangs : List Entry
  pub extlangs_preferred : List Entry
  pub scripts : List Entry
  pub scripts_preferred : List Entry
  pub regions : List Entry
  pub regions_preferred : List Entry
  pub variants : List Entry
  pub variants_preferred : List Entry
  pub grandfathereds_preferred : List Entry
  pub redundants_preferred : List Entry

-- the table of a name
abbrev pub table_of : RegistryTable → Tables → List Entry
table_of Languages tables = tables.languages
table_of LanguagesPreferred tables = tables.languages_preferred
table_of LanguagesSuppressScript tables = tables.languages_suppress_script
table_of Extlangs tables = tables.extlangs
table_of ExtlangsPreferred tables = tables.extlangs_preferred
table_of Scripts tables = tables.scripts
table_of ScriptsPreferred tables = tables.scripts_preferred
table_of Regions tables = tables.regions
table_of RegionsPreferred tables = tables.regions_preferred
table_of Variants tables = tables.variants
table_of VariantsPreferred tables = tables.variants_preferred
table_of GrandfatheredsPreferred tables = tables.grandfathereds_preferred
table_of RedundantsPreferred tables = tables.redundants_preferred

-- the value of a key
abbrev pub value_of : List Entry → List ℕ → Option (List ℕ)
value_of [] key = None
value_of (e ∷ es) key = if bytes_eq key e.key then Some e.value else value_of es key

-- the tables of a list, in their order
abbrev pub tables_at : List (List Entry) → Tables
tables_at ts =
    record {
      languages = slice_index_or ts 0 [];
      languages_preferred = slice_index_or ts 1 [];
      languages_suppress_script = slice_index_or ts 2 [];
      extlangs = slice_index_or ts 3 [];
      extlangs_preferred = slice_index_or ts 4 [];
      scripts = slice_index_or ts 5 [];
      scripts_preferred = slice_index_or ts 6 [];
      regions = slice_index_or ts 7 [];
      regions_preferred = slice_index_or ts 8 [];
      variants = slice_index_or ts 9 [];
      variants_preferred = slice_index_or ts 10 [];
      grandfathereds_preferred = slice_index_or ts 11 [];
      redundants_preferred = slice_index_or ts 12 [];
    }
