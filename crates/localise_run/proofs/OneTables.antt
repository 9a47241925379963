-- A document's tables answer alike, or it has one faulty row, never both.
use Rattle.std.proofs.Common.{◌≡◌, ◌≢◌, ℕ, List, sym, ap, ◌∙◌}
use Rattle.icu_locale_fallback.specs.Faults as fallback
use Rattle.icu_locale_fallback.specs.Tables.{Tables as FallbackTables}
use Rattle.icu_locale_fallback.specs.declared.rows.FallbackRows.{FallbackRows}
use Rattle.icu_locale_fallback.specs.declared.rows.TableError.{TableError}
use Rattle.icu_locale_fallback.specs.declared.rows.TableError.TheVariants as locales
use Rattle.language_tags_registry.specs.Faults as registry
use Rattle.language_tags_registry.specs.Registry.{Tables as RegistryTables, table_of, value_of}
use Rattle.language_tags_registry.specs.declared.error.RegistryError.{RegistryError}
use Rattle.language_tags_registry.specs.declared.error.RegistryError.TheVariants as tags
use Rattle.language_tags_registry.specs.declared.kind.RegistryTable.{RegistryTable}
use Rattle.language_tags_registry.specs.declared.rows.RegistryRows.{RegistryRows}
use Rattle.localise_run.proofs.SameRows.{fallback_fault, fallback_tables, registry_fault}
use Rattle.localise_run.proofs.SameRows.{registry_tables}
use Rattle.localise_document.specs.Contents.{Contents}
use Rattle.localise_run.specs.Tables.{HasTables, IsTableFault, in_fallback, in_registry}
use Rattle.localise_status.specs.declared.status.TableCause.{TableCause}
use Rattle.localise_status.specs.declared.status.TableCause.TheVariants.{Registry, Fallback}
use Rattle.wanted_locale.specs.declared.tables.Tables.{Tables}

-- the laws of rows
abbrev pub OneRegistry : Type 0
OneRegistry =
    (rows : RegistryRows) (F G : RegistryTables) → registry.AreTablesOf rows F
    → registry.AreTablesOf rows G
    → (table : RegistryTable) (key : List ℕ)
    → value_of (table_of table F) key ≡ value_of (table_of table G) key

abbrev pub SoundRegistry : Type 0
SoundRegistry = (rows : RegistryRows) (F : RegistryTables) → registry.AreTablesOf rows F
    → registry.AreRowsSound rows

abbrev pub OneRegistryFault : Type 0
OneRegistryFault =
    (rows : RegistryRows) (e f : RegistryError) → e ≢ tags.NoMemory → f ≢ tags.NoMemory
    → registry.IsFirstFault rows e → registry.IsFirstFault rows f → e ≡ f

abbrev pub NoRegistryFault : Type 0
NoRegistryFault = (rows : RegistryRows) (e : RegistryError) → registry.AreRowsSound rows
    → registry.IsFirstFault rows e → e ≡ tags.NoMemory

abbrev pub OneFallback : Type 0
OneFallback = (rows : FallbackRows) (F G : FallbackTables) → fallback.AreTablesOf rows F
    → fallback.AreTablesOf rows G → F ≡ G

abbrev pub SoundFallback : Type 0
SoundFallback = (rows : FallbackRows) (F : FallbackTables) → fallback.AreTablesOf rows F
    → fallback.AreRowsSound rows

abbrev pub OneFallbackFault : Type 0
OneFallbackFault =
    (rows : FallbackRows) (e f : TableError) → e ≢ locales.NoMemory → f ≢ locales.NoMemory
    → fallback.IsFirstFault rows e → fallback.IsFirstFault rows f → e ≡ f

abbrev pub NoFallbackFault : Type 0
NoFallbackFault = (rows : FallbackRows) (e : TableError) → fallback.AreRowsSound rows
    → fallback.IsFirstFault rows e → e ≡ locales.NoMemory

-- tables of one document answer alike
pub registry_alike : OneRegistry → (d : Contents) (T U : Tables) → HasTables d T → HasTables d U
    → (table : RegistryTable) (key : List ℕ)
    → value_of (table_of table T.registry) key ≡ value_of (table_of table U.registry) key
registry_alike one d T U h g =
    one g.registry_rows T.registry U.registry
    (registry_tables h.registry_rows g.registry_rows
    (h.registry_lists_are ∙ sym g.registry_lists_are) T.registry h.registry_is)
    g.registry_is

pub fallback_one : OneFallback → (d : Contents) (T U : Tables) → HasTables d T → HasTables d U
    → T.fallbacker ≡ U.fallbacker
fallback_one one d T U h g =
    one g.fallback_rows T.fallbacker U.fallbacker
    (fallback_tables h.fallback_rows g.fallback_rows
    (h.fallback_lists_are ∙ sym g.fallback_lists_are) T.fallbacker h.fallback_is)
    g.fallback_is

module _ (one : OneRegistryFault) (none : NoRegistryFault) (one_fallback : OneFallbackFault) where
  -- a document has one faulty row
  pub fault_one : (d : Contents) (a b : TableCause) → IsTableFault d a → IsTableFault d b → a ≡ b
  fault_one d a b (in_registry {rows = r} {error = e} h some f is)
      (in_registry {rows = s} {error = g} k other w so) =
      is ∙ ap Registry (one s e g some other (registry_fault r s (h ∙ sym k) e f) w) ∙ sym so
  fault_one d a b (in_registry {rows = r} {error = e} h some f is)
      (in_fallback {rows = s} k sound l other w so) =
      absurd (some (none s e sound (registry_fault r s (h ∙ sym k) e f)))
  fault_one d a b (in_fallback {rows = s} k sound l other w so)
      (in_registry {rows = r} {error = e} h some f is) =
      absurd (some (none s e sound (registry_fault r s (h ∙ sym k) e f)))
  fault_one d a b (in_fallback {others = r} {error = e} h sound l some f is)
      (in_fallback {others = s} {error = g} k also m other w so) =
      is ∙ ap Fallback (one_fallback s e g some other (fallback_fault r s (l ∙ sym m) e f) w)
      ∙ sym so

module _ (sound : SoundRegistry) (none : NoRegistryFault) (sound_fallback : SoundFallback)
    (none_fallback : NoFallbackFault) where
  -- and none where it has tables
  pub tables_no_fault : (d : Contents) (T : Tables) (cause : TableCause) → HasTables d T
      → IsTableFault d cause → ⊥
  tables_no_fault d T cause h (in_registry {rows = r} {error = e} k some f is) =
      some (none h.registry_rows e (sound h.registry_rows T.registry h.registry_is)
      (registry_fault r h.registry_rows (k ∙ sym h.registry_lists_are) e f))
  tables_no_fault d T cause h (in_fallback {others = r} {error = e} k also l some f is) =
      some
      (none_fallback h.fallback_rows e
      (sound_fallback h.fallback_rows T.fallbacker h.fallback_is)
      (fallback_fault r h.fallback_rows (l ∙ sym h.fallback_lists_are) e f))
