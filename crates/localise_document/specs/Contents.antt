-- What a document says.
use Rattle.std.specs.Prelude.{List, [], ◌∷◌, map}
use Rattle.icu_locale_fallback.specs.declared.rows.FallbackRows.{FallbackRows}
use Rattle.language_tags_registry.specs.Rows.{rows_of}
use Rattle.language_tags_registry.specs.declared.kind.RegistryTable.{RegistryTable}
use Rattle.language_tags_registry.specs.declared.kind.RegistryTable.TheVariants.{Languages}
use Rattle.language_tags_registry.specs.declared.kind.RegistryTable.TheVariants.{LanguagesPreferred}
use Rattle.language_tags_registry.specs.declared.kind.RegistryTable.TheVariants.{LanguagesSuppressScript}
use Rattle.language_tags_registry.specs.declared.kind.RegistryTable.TheVariants.{Extlangs}
use Rattle.language_tags_registry.specs.declared.kind.RegistryTable.TheVariants.{ExtlangsPreferred}
use Rattle.language_tags_registry.specs.declared.kind.RegistryTable.TheVariants.{Scripts}
use Rattle.language_tags_registry.specs.declared.kind.RegistryTable.TheVariants.{ScriptsPreferred}
use Rattle.language_tags_registry.specs.declared.kind.RegistryTable.TheVariants.{Regions}
use Rattle.language_tags_registry.specs.declared.kind.RegistryTable.TheVariants.{RegionsPreferred}
use Rattle.language_tags_registry.specs.declared.kind.RegistryTable.TheVariants.{Variants}
use Rattle.language_tags_registry.specs.declared.kind.RegistryTable.TheVariants.{VariantsPreferred}
use Rattle.language_tags_registry.specs.declared.kind.RegistryTable.TheVariants.{GrandfatheredsPreferred}
use Rattle.language_tags_registry.specs.declared.kind.RegistryTable.TheVariants.{RedundantsPreferred}
use Rattle.language_tags_registry.specs.declared.rows.RegistryRows.{RegistryRows}
use Rattle.localise_texts.specs.declared.bundle.BundleText.{BundleText}
use Rattle.localise_texts.specs.declared.patterns.PatternTexts.{PatternTexts}
use Rattle.localise_texts.specs.declared.request.Request.{Request}
use Rattle.writeable_core.specs.declared.text.TextRow.{TextRow}

-- the tables of the registry, in the order of their numbers
abbrev pub registry_tables : List RegistryTable
registry_tables =
    Languages ∷ LanguagesPreferred ∷ LanguagesSuppressScript ∷ Extlangs ∷ ExtlangsPreferred
    ∷ Scripts ∷ ScriptsPreferred ∷ Regions ∷ RegionsPreferred ∷ Variants ∷ VariantsPreferred
    ∷ GrandfatheredsPreferred ∷ RedundantsPreferred ∷ []

-- the rows of each table of the registry
abbrev pub registry_lists : RegistryRows → List (List TextRow)
registry_lists rows = map (λ table. rows_of table rows) registry_tables

-- the rows of each table of fallback
abbrev pub fallback_lists : FallbackRows → List (List TextRow)
fallback_lists rows =
    rows.likely_language.items ∷ rows.likely_language_script.items
    ∷ rows.likely_language_region.items ∷ rows.parents.items ∷ []

-- its tables, its bundles, the patterns of lists that no bundle's locale joins, and its requests,
-- in order
pub record Contents : Type 0 where
  pub registry : List (List TextRow)
  pub fallback : List (List TextRow)
  pub bundles : List BundleText
  pub root : PatternTexts
  pub requests : List Request
