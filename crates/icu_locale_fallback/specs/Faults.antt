-- What an error says of the rows that make no fallbacker.
use Rattle.std.specs.Prelude.{◌≡◌, ℕ, List, take}
use Rattle.std.specs.FinMap as finite
use Rattle.writeable_core.specs.declared.text.TextRow.{TextRow}
use Rattle.icu_locale_fallback.specs.declared.rows.FallbackRows.{FallbackRows}
use Rattle.icu_locale_fallback.specs.declared.rows.TableError.{TableError}
use Rattle.icu_locale_fallback.specs.declared.rows.TableError.TheVariants.{DuplicateKey, BadKey}
use Rattle.icu_locale_fallback.specs.declared.rows.TableError.TheVariants.{BadValue, NoMemory}
use Rattle.icu_locale_fallback.specs.Rows.{AreSound, FirstFaultIs, HasNoKey, HasNoValue}
use Rattle.icu_locale_fallback.specs.Rows.{HasEarlierKey, IsTableOf, LanguageKey, LikelyValue}
use Rattle.icu_locale_fallback.specs.Rows.{LanguageScriptKey, RegionValue, LanguageRegionKey}
use Rattle.icu_locale_fallback.specs.Rows.{ScriptValue, ChildKey, ParentValue}
use Rattle.icu_locale_fallback.specs.Tables.{LikelySubtags, Tables}
use Rattle.icu_locale_fallback.specs.Triple.{Triple, triple_cmp}

module _ {K X : Type 0} (key : TextRow → K → Type 0) (value : TextRow → X → Type 0) where
  -- the first fault of the table with this number, unless memory ran out
  abbrev pub IsFaultOf : ℕ → List TextRow → TableError → Type 0
  IsFaultOf number rows (DuplicateKey table i) =
      (table ≡ number) × FirstFaultIs key value rows i (HasEarlierKey key value (take i rows))
  IsFaultOf number rows (BadKey table i) =
      (table ≡ number) × FirstFaultIs key value rows i (HasNoKey key)
  IsFaultOf number rows (BadValue table i) =
      (table ≡ number) × FirstFaultIs key value rows i (HasNoValue key value)
  IsFaultOf number rows NoMemory = Unit {0}

-- the tables 0 to 2 are those of the rows
pub record AreLikelyOf (rows : FallbackRows) (likely : LikelySubtags) : Type 0 where
  pub language : IsTableOf LanguageKey LikelyValue rows.likely_language.items likely.language
  pub language_script :
      IsTableOf LanguageScriptKey RegionValue rows.likely_language_script.items
      likely.language_script
  pub language_region :
      IsTableOf LanguageRegionKey ScriptValue rows.likely_language_region.items
      likely.language_region

-- table 3 is
abbrev pub AreParentsOf : FallbackRows → finite.FinMap triple_cmp Triple → Type 0
AreParentsOf rows parents = IsTableOf ChildKey ParentValue rows.parents.items parents

-- no row is faulty, and the tables are those of the rows
pub record AreTablesOf (rows : FallbackRows) (tables : Tables) : Type 0 where
  pub likely_are : AreLikelyOf rows tables.likely
  pub parents_are : AreParentsOf rows tables.parents

-- no row of the tables 0 to 2 is faulty
pub record AreLikelySound (rows : FallbackRows) : Type 0 where
  pub language : AreSound LanguageKey LikelyValue rows.likely_language.items
  pub language_script : AreSound LanguageScriptKey RegionValue rows.likely_language_script.items
  pub language_region : AreSound LanguageRegionKey ScriptValue rows.likely_language_region.items

-- no row is faulty
pub record AreRowsSound (rows : FallbackRows) : Type 0 where
  pub likely : AreLikelySound rows
  pub parents : AreSound ChildKey ParentValue rows.parents.items

-- the first fault of the tables 0 to 2, in this order
pub data IsLikelyFault (rows : FallbackRows) (error : TableError) : Type 0 where
  in_language : IsFaultOf LanguageKey LikelyValue 0 rows.likely_language.items error
      → IsLikelyFault rows error
  in_language_script : AreSound LanguageKey LikelyValue rows.likely_language.items
      → IsFaultOf LanguageScriptKey RegionValue 1 rows.likely_language_script.items error
      → IsLikelyFault rows error
  in_language_region : AreSound LanguageKey LikelyValue rows.likely_language.items
      → AreSound LanguageScriptKey RegionValue rows.likely_language_script.items
      → IsFaultOf LanguageRegionKey ScriptValue 2 rows.likely_language_region.items error
      → IsLikelyFault rows error

-- that of table 3
abbrev pub IsParentsFault : FallbackRows → TableError → Type 0
IsParentsFault rows error = IsFaultOf ChildKey ParentValue 3 rows.parents.items error

-- the first fault of all, unless memory ran out
pub data IsFirstFault (rows : FallbackRows) (error : TableError) : Type 0 where
  in_likely : IsLikelyFault rows error → IsFirstFault rows error
  in_parents : AreLikelySound rows → IsParentsFault rows error → IsFirstFault rows error
