-- The statuses of rows that make no tables.
use Rattle.std.proofs.Common.{refl}
use Rattle.icu_locale_fallback.specs.Faults as fallback
use Rattle.icu_locale_fallback.specs.declared.rows.FallbackRows.{FallbackRows}
use Rattle.icu_locale_fallback.specs.declared.rows.TableError.{TableError}
use Rattle.icu_locale_fallback.specs.declared.rows.TableError.TheVariants as locales
use Rattle.language_tags_registry.specs.Faults as registry
use Rattle.language_tags_registry.specs.declared.error.RegistryError.{RegistryError}
use Rattle.language_tags_registry.specs.declared.error.RegistryError.TheVariants as tags
use Rattle.language_tags_registry.specs.declared.rows.RegistryRows.{RegistryRows}
use Rattle.localise_document.specs.Contents.{Contents}
use Rattle.localise_run.specs.Causes.{status_of_fallback, status_of_registry}
use Rattle.localise_run.specs.Tables.{AreFallbackRows, AreRegistryRows, IsTableStatus, faulty}
use Rattle.localise_run.specs.Tables.{in_fallback, in_registry, no_memory}

module _ (d : Contents) (rows : RegistryRows) (are : AreRegistryRows d rows) where
  -- a faulty row of the registry
  pub registry_status : (e : RegistryError) → registry.IsFirstFault rows e
      → IsTableStatus d (status_of_registry e)
  registry_status (tags.DuplicateKey t row) first =
      faulty (in_registry {error = tags.DuplicateKey t row} are (λ same. cc) first refl) refl
  registry_status (tags.BadKey t row) first =
      faulty (in_registry {error = tags.BadKey t row} are (λ same. cc) first refl) refl
  registry_status (tags.BadValue t row) first =
      faulty (in_registry {error = tags.BadValue t row} are (λ same. cc) first refl) refl
  registry_status tags.NoMemory first = no_memory refl

  -- a faulty row of the fallback tables, no row of the registry being faulty
  pub fallback_status : registry.AreRowsSound rows → (others : FallbackRows)
      → AreFallbackRows d others → (e : TableError)
      → fallback.IsFirstFault others e → IsTableStatus d (status_of_fallback e)
  fallback_status sound others also (locales.DuplicateKey t row) first =
      faulty
      (in_fallback {error = locales.DuplicateKey t row} are sound also (λ same. cc) first refl) refl
  fallback_status sound others also (locales.BadKey t row) first =
      faulty
      (in_fallback {error = locales.BadKey t row} are sound also (λ same. cc) first refl) refl
  fallback_status sound others also (locales.BadValue t row) first =
      faulty
      (in_fallback {error = locales.BadValue t row} are sound also (λ same. cc) first refl) refl
  fallback_status sound others also locales.NoMemory first = no_memory refl
