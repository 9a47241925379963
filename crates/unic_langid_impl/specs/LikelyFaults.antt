-- Which rows make likely tables, and which fault is the first.
use Rattle.std.specs.Prelude.{◌≡◌, ℕ, List, take}
use Rattle.writeable_core.specs.declared.text.TextRow.{TextRow}
use Rattle.unic_langid_impl.specs.Identifier.{text_cmp}
use Rattle.unic_langid_impl.specs.Likely.{LanguageTables, ScriptTables, Tables, language_cmp}
use Rattle.unic_langid_impl.specs.Likely.{language_pair_cmp, pair_cmp}
use Rattle.unic_langid_impl.specs.LikelyRows.{AreSound, FirstFaultIs, HasEarlierKey, IsBadEntry}
use Rattle.unic_langid_impl.specs.LikelyRows.{IsTableOf, LanguageKey, LanguageRegionKey}
use Rattle.unic_langid_impl.specs.LikelyRows.{LanguageScriptKey, RegionKey, ScriptKey}
use Rattle.unic_langid_impl.specs.LikelyRows.{ScriptRegionKey}
use Rattle.unic_langid_impl.specs.declared.likelysubtags.rows.LikelyRows.{LikelyRows}
use Rattle.unic_langid_impl.specs.declared.likelysubtags.rows.LikelyError.{LikelyError}
use Rattle.unic_langid_impl.specs.declared.likelysubtags.rows.LikelyError.TheVariants.{BadEntry}
use Rattle.unic_langid_impl.specs.declared.likelysubtags.rows.LikelyError.TheVariants.{DuplicateKey}
use Rattle.unic_langid_impl.specs.declared.likelysubtags.rows.LikelyError.TheVariants.{NoMemory}

-- the first fault of one table
abbrev pub IsTableFault : {K : Type 0} → (TextRow → K → Type 0) → ℕ → List TextRow
    → LikelyError → Type 0
IsTableFault key number rows (DuplicateKey table i) =
    (table ≡ number) × FirstFaultIs key rows i (HasEarlierKey key (take i rows))
IsTableFault key number rows (BadEntry table i) =
    (table ≡ number) × FirstFaultIs key rows i (IsBadEntry key)
IsTableFault key number rows NoMemory = Unit {0}

-- no row of the tables 0 to 2 is faulty, and these are those of the rows
pub record AreLanguagesOf (rows : LikelyRows) (F : LanguageTables) : Type 0 where
  pub lang_only : IsTableOf LanguageKey language_cmp rows.lang_only.items F.lang_only
  pub lang_region :
      IsTableOf LanguageRegionKey language_pair_cmp rows.lang_region.items F.lang_region
  pub lang_script :
      IsTableOf LanguageScriptKey language_pair_cmp rows.lang_script.items F.lang_script

-- the same of the tables 3 to 5
pub record AreScriptsOf (rows : LikelyRows) (F : ScriptTables) : Type 0 where
  pub script_region : IsTableOf ScriptRegionKey pair_cmp rows.script_region.items F.script_region
  pub script_only : IsTableOf ScriptKey text_cmp rows.script_only.items F.script_only
  pub region_only : IsTableOf RegionKey text_cmp rows.region_only.items F.region_only

-- no row is faulty, and the tables are those of the rows
pub record AreTablesOf (rows : LikelyRows) (F : Tables) : Type 0 where
  pub languages : AreLanguagesOf rows F.languages
  pub scripts : AreScriptsOf rows F.scripts

-- the first fault of the tables 0 to 2, in this order
pub data IsLanguagesFault (rows : LikelyRows) (error : LikelyError) : Type 0 where
  in_lang_only : IsTableFault LanguageKey 0 rows.lang_only.items error → IsLanguagesFault rows error
  in_lang_region : AreSound LanguageKey rows.lang_only.items
      → IsTableFault LanguageRegionKey 1 rows.lang_region.items error → IsLanguagesFault rows error
  in_lang_script : AreSound LanguageKey rows.lang_only.items
      → AreSound LanguageRegionKey rows.lang_region.items
      → IsTableFault LanguageScriptKey 2 rows.lang_script.items error → IsLanguagesFault rows error

-- the first fault of the tables 3 to 5, in this order
pub data IsScriptsFault (rows : LikelyRows) (error : LikelyError) : Type 0 where
  in_script_region : IsTableFault ScriptRegionKey 3 rows.script_region.items error
      → IsScriptsFault rows error
  in_script_only : AreSound ScriptRegionKey rows.script_region.items
      → IsTableFault ScriptKey 4 rows.script_only.items error → IsScriptsFault rows error
  in_region_only : AreSound ScriptRegionKey rows.script_region.items
      → AreSound ScriptKey rows.script_only.items
      → IsTableFault RegionKey 5 rows.region_only.items error → IsScriptsFault rows error

-- no row of the tables 0 to 2 is faulty
pub record AreLanguagesSound (rows : LikelyRows) : Type 0 where
  pub lang_only : AreSound LanguageKey rows.lang_only.items
  pub lang_region : AreSound LanguageRegionKey rows.lang_region.items
  pub lang_script : AreSound LanguageScriptKey rows.lang_script.items

-- the first fault of all
pub data IsFirstFault (rows : LikelyRows) (error : LikelyError) : Type 0 where
  in_languages : IsLanguagesFault rows error → IsFirstFault rows error
  in_scripts : AreLanguagesSound rows → IsScriptsFault rows error → IsFirstFault rows error
