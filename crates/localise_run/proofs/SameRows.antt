-- Rows with the same lists make the same tables, and have the same faults.
use Rattle.std.proofs.Common.{◌≡◌, [], ap, subst}
use Rattle.std.specs.List.{slice_index_or}
use Rattle.icu_locale_fallback.specs.Faults as fallback
use Rattle.icu_locale_fallback.specs.Rows as cells
use Rattle.icu_locale_fallback.specs.Tables.{LikelySubtags, Tables as Fallback}
use Rattle.icu_locale_fallback.specs.declared.rows.FallbackRows.{FallbackRows}
use Rattle.icu_locale_fallback.specs.declared.rows.TableError.{TableError}
use Rattle.language_tags_registry.specs.Faults as registry
use Rattle.language_tags_registry.specs.Kinds.{kind_of}
use Rattle.language_tags_registry.specs.Registry.{Tables as Registry, table_of}
use Rattle.language_tags_registry.specs.Rows.{AreSound, IsTableOf, rows_of}
use Rattle.language_tags_registry.specs.declared.error.RegistryError.{RegistryError}
use Rattle.language_tags_registry.specs.declared.kind.RegistryTable.{RegistryTable}
use Rattle.language_tags_registry.specs.declared.kind.RegistryTable.TheVariants.{Languages}
use Rattle.language_tags_registry.specs.declared.kind.RegistryTable.TheVariants.{LanguagesPreferred}
use Rattle.language_tags_registry.specs.declared.kind.RegistryTable.TheVariants.{LanguagesSuppressScript}
use Rattle.language_tags_registry.specs.declared.kind.RegistryTable.TheVariants.{Extlangs}
use Rattle.language_tags_registry.specs.declared.kind.RegistryTable.TheVariants.{ExtlangsPreferred}
use Rattle.language_tags_registry.specs.declared.kind.RegistryTable.TheVariants.{Scripts}
use Rattle.language_tags_registry.specs.declared.kind.RegistryTable.TheVariants.{ScriptsPreferred}
use Rattle.language_tags_registry.specs.declared.kind.RegistryTable.TheVariants.{Regions}
use Rattle.language_tags_registry.specs.declared.kind.RegistryTable.TheVariants.{RegionsPreferred}
use Rattle.language_tags_registry.specs.declared.kind.RegistryTable.TheVariants.{Variants}
use Rattle.language_tags_registry.specs.declared.kind.RegistryTable.TheVariants.{VariantsPreferred}
use Rattle.language_tags_registry.specs.declared.kind.RegistryTable.TheVariants.{GrandfatheredsPreferred}
use Rattle.language_tags_registry.specs.declared.kind.RegistryTable.TheVariants.{RedundantsPreferred}
use Rattle.language_tags_registry.specs.declared.rows.RegistryRows.{RegistryRows}
use Rattle.localise_document.specs.Contents.{registry_lists, fallback_lists}

-- ---- the registry

module _ (a b : RegistryRows) (same : registry_lists a ≡ registry_lists b) where
  -- the rows of each table are the same
  rows_same : (table : RegistryTable) → rows_of table a ≡ rows_of table b
  rows_same Languages = ap (λ lists. slice_index_or lists 0 []) same
  rows_same LanguagesPreferred = ap (λ lists. slice_index_or lists 1 []) same
  rows_same LanguagesSuppressScript = ap (λ lists. slice_index_or lists 2 []) same
  rows_same Extlangs = ap (λ lists. slice_index_or lists 3 []) same
  rows_same ExtlangsPreferred = ap (λ lists. slice_index_or lists 4 []) same
  rows_same Scripts = ap (λ lists. slice_index_or lists 5 []) same
  rows_same ScriptsPreferred = ap (λ lists. slice_index_or lists 6 []) same
  rows_same Regions = ap (λ lists. slice_index_or lists 7 []) same
  rows_same RegionsPreferred = ap (λ lists. slice_index_or lists 8 []) same
  rows_same Variants = ap (λ lists. slice_index_or lists 9 []) same
  rows_same VariantsPreferred = ap (λ lists. slice_index_or lists 10 []) same
  rows_same GrandfatheredsPreferred = ap (λ lists. slice_index_or lists 11 []) same
  rows_same RedundantsPreferred = ap (λ lists. slice_index_or lists 12 []) same

  -- none of them is faulty
  pub registry_sound : registry.AreRowsSound a → registry.AreRowsSound b
  registry_sound h table = subst (AreSound (kind_of table)) (rows_same table) (h table)

  -- they make these tables
  pub registry_tables : (R : Registry) → registry.AreTablesOf a R → registry.AreTablesOf b R
  registry_tables R h table =
      subst (λ rows. IsTableOf (kind_of table) rows (table_of table R)) (rows_same table) (h table)

  -- this is their first fault
  pub registry_fault : (error : RegistryError) → registry.IsFirstFault a error
      → registry.IsFirstFault b error
  registry_fault error h = record {
    table = h.table;
    before = λ other less. subst (AreSound (kind_of other)) (rows_same other) (h.before other less);
    fault =
        subst (λ rows. registry.IsFaultOf (kind_of h.table) rows error) (rows_same h.table) h.fault;
  }

-- ---- fallback

module _ (a b : FallbackRows) (same : fallback_lists a ≡ fallback_lists b) where
  -- the rows of each table are the same
  language : a.likely_language.items ≡ b.likely_language.items
  language = ap (λ lists. slice_index_or lists 0 []) same

  language_script : a.likely_language_script.items ≡ b.likely_language_script.items
  language_script = ap (λ lists. slice_index_or lists 1 []) same

  language_region : a.likely_language_region.items ≡ b.likely_language_region.items
  language_region = ap (λ lists. slice_index_or lists 2 []) same

  parents : a.parents.items ≡ b.parents.items
  parents = ap (λ lists. slice_index_or lists 3 []) same

  -- they make these tables
  likely_tables : (likely : LikelySubtags) → fallback.AreLikelyOf a likely
      → fallback.AreLikelyOf b likely
  likely_tables likely h = record {
    language =
        subst (λ rows. cells.IsTableOf cells.LanguageKey cells.LikelyValue rows likely.language)
        language h.language;
    language_script =
        subst
        (λ rows.
        cells.IsTableOf cells.LanguageScriptKey cells.RegionValue rows likely.language_script)
        language_script h.language_script;
    language_region =
        subst
        (λ rows.
        cells.IsTableOf cells.LanguageRegionKey cells.ScriptValue rows likely.language_region)
        language_region h.language_region;
  }

  pub fallback_tables : (F : Fallback) → fallback.AreTablesOf a F → fallback.AreTablesOf b F
  fallback_tables F h = record {
    likely_are = likely_tables F.likely h.likely_are;
    parents_are =
        subst (λ rows. cells.IsTableOf cells.ChildKey cells.ParentValue rows F.parents) parents
        h.parents_are;
  }

  -- none of them is faulty
  likely_sound : fallback.AreLikelySound a → fallback.AreLikelySound b
  likely_sound h = record {
    language = subst (cells.AreSound cells.LanguageKey cells.LikelyValue) language h.language;
    language_script =
        subst (cells.AreSound cells.LanguageScriptKey cells.RegionValue) language_script
        h.language_script;
    language_region =
        subst (cells.AreSound cells.LanguageRegionKey cells.ScriptValue) language_region
        h.language_region;
  }

  -- this is their first fault
  likely_fault : (error : TableError) → fallback.IsLikelyFault a error
      → fallback.IsLikelyFault b error
  likely_fault error (fallback.in_language f) =
      fallback.in_language
      (subst
      (λ rows. fallback.IsFaultOf cells.LanguageKey cells.LikelyValue 0 rows error) language
      f)
  likely_fault error (fallback.in_language_script s f) =
      fallback.in_language_script
      (subst (cells.AreSound cells.LanguageKey cells.LikelyValue) language s)
      (subst (λ rows. fallback.IsFaultOf cells.LanguageScriptKey cells.RegionValue 1 rows error)
      language_script f)
  likely_fault error (fallback.in_language_region s t f) =
      fallback.in_language_region
      (subst (cells.AreSound cells.LanguageKey cells.LikelyValue) language s)
      (subst (cells.AreSound cells.LanguageScriptKey cells.RegionValue) language_script t)
      (subst (λ rows. fallback.IsFaultOf cells.LanguageRegionKey cells.ScriptValue 2 rows error)
      language_region f)

  pub fallback_fault : (error : TableError) → fallback.IsFirstFault a error
      → fallback.IsFirstFault b error
  fallback_fault error (fallback.in_likely f) = fallback.in_likely (likely_fault error f)
  fallback_fault error (fallback.in_parents s f) =
      fallback.in_parents (likely_sound s)
      (subst
      (λ rows. fallback.IsFaultOf cells.ChildKey cells.ParentValue 3 rows error) parents f)
