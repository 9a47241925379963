-- The tables of a document, or the first row of them that is faulty: registry tables first, then
-- fallback tables.
use Rattle.std.specs.Prelude.{◌≡◌, ◌≢◌}
use Rattle.icu_locale_fallback.specs.Faults as fallback
use Rattle.icu_locale_fallback.specs.declared.rows.FallbackRows.{FallbackRows}
use Rattle.icu_locale_fallback.specs.declared.rows.TableError.TheVariants as locales
use Rattle.language_tags_registry.specs.Faults as registry
use Rattle.language_tags_registry.specs.declared.error.RegistryError.TheVariants as tags
use Rattle.language_tags_registry.specs.declared.rows.RegistryRows.{RegistryRows}
use Rattle.localise_document.specs.Contents.{Contents, registry_lists, fallback_lists}
use Rattle.localise_status.specs.declared.status.Status.{Status}
use Rattle.localise_status.specs.declared.status.Status.TheVariants.{NoMemory, Table}
use Rattle.localise_status.specs.declared.status.TableCause.{TableCause}
use Rattle.localise_status.specs.declared.status.TableCause.TheVariants.{Registry, Fallback}
use Rattle.wanted_locale.specs.declared.tables.Tables.{Tables}

-- rows with the document's lists
abbrev pub AreRegistryRows : Contents → RegistryRows → Type 0
AreRegistryRows d rows = registry_lists rows ≡ d.registry

abbrev pub AreFallbackRows : Contents → FallbackRows → Type 0
AreFallbackRows d rows = fallback_lists rows ≡ d.fallback

-- no row is faulty, and these are the tables
pub record HasTables (d : Contents) (T : Tables) : Type 0 where
  pub registry_rows : RegistryRows
  pub registry_lists_are : AreRegistryRows d registry_rows
  pub registry_is : registry.AreTablesOf registry_rows T.registry
  pub fallback_rows : FallbackRows
  pub fallback_lists_are : AreFallbackRows d fallback_rows
  pub fallback_is : fallback.AreTablesOf fallback_rows T.fallbacker

-- the first faulty row
pub data IsTableFault (d : Contents) (cause : TableCause) : Type 0 where
  in_registry : {rows : RegistryRows} {error : _} → AreRegistryRows d rows → error ≢ tags.NoMemory
      → registry.IsFirstFault rows error → cause ≡ Registry error → IsTableFault d cause
  in_fallback : {rows : RegistryRows} {others : FallbackRows} {error : _} → AreRegistryRows d rows
      → registry.AreRowsSound rows → AreFallbackRows d others → error ≢ locales.NoMemory
      → fallback.IsFirstFault others error → cause ≡ Fallback error → IsTableFault d cause

-- the status of a faulty row, or of want of memory
pub data IsTableStatus (d : Contents) (status : Status) : Type 0 where
  faulty : {cause : TableCause} → IsTableFault d cause → status ≡ Table cause
      → IsTableStatus d status
  no_memory : status ≡ NoMemory → IsTableStatus d status
