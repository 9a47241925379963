-- The names of sections and fields, as fault lines print them, and those of tables, which are the
-- keys of a document too.
use Rattle.std.specs.Prelude.{ℕ, zero, suc, List, [], ◌∷◌, codes}
use Rattle.localise_document.specs.declared.place.Field.{Field}
use Rattle.localise_document.specs.declared.place.Field.TheVariants.{Whole, Unknown, Tag, Mo}
use Rattle.localise_document.specs.declared.place.Field.TheVariants.{Context, Singular, Plural}
use Rattle.localise_document.specs.declared.place.Field.TheVariants.{Count, Placeholder, Items}
use Rattle.localise_document.specs.declared.place.Field.TheVariants.{RegistryTable, FallbackTable}
use Rattle.localise_document.specs.declared.place.Field.TheVariants as fields
use Rattle.localise_document.specs.declared.place.Section.{Section}
use Rattle.localise_document.specs.declared.place.Section.TheVariants.{Document, Registry, Fallback}
use Rattle.localise_document.specs.declared.place.Section.TheVariants.{Bundles, Root, Requests}

-- the name of a section
abbrev pub section_name : Section → List ℕ
section_name Document = codes "document"
section_name Registry = codes "registry"
section_name Fallback = codes "fallback"
section_name Bundles = codes "bundles"
section_name Root = codes "root"
section_name Requests = codes "requests"

-- the names of the registry's tables, in order
abbrev pub registry_names : List (List ℕ)
registry_names =
    codes "languages" ∷ codes "languages_preferred" ∷ codes "languages_suppress_script"
    ∷ codes "extlangs" ∷ codes "extlangs_preferred" ∷ codes "scripts" ∷ codes "scripts_preferred"
    ∷ codes "regions" ∷ codes "regions_preferred" ∷ codes "variants" ∷ codes "variants_preferred"
    ∷ codes "grandfathereds_preferred" ∷ codes "redundants_preferred" ∷ []

-- the names of the tables of fallback, in order
abbrev pub fallback_names : List (List ℕ)
fallback_names =
    codes "likely_language" ∷ codes "likely_language_script" ∷ codes "likely_language_region"
    ∷ codes "parents" ∷ []

-- the name of this number, or `table` where none has it
abbrev pub name_at : List (List ℕ) → ℕ → List ℕ
name_at [] n = codes "table"
name_at (name ∷ names) zero = name
name_at (name ∷ names) (suc n) = name_at names n

-- the name of a table of the registry
abbrev pub registry_name : ℕ → List ℕ
registry_name table = name_at registry_names table

-- the name of a table of fallback
abbrev pub fallback_name : ℕ → List ℕ
fallback_name table = name_at fallback_names table

-- the name of a field, which of a table is the table's
abbrev pub field_name : Field → List ℕ
field_name Whole = codes "whole"
field_name Unknown = codes "unknown"
field_name Tag = codes "tag"
field_name Mo = codes "mo"
field_name fields.List = codes "list"
field_name Context = codes "context"
field_name Singular = codes "singular"
field_name Plural = codes "plural"
field_name Count = codes "count"
field_name Placeholder = codes "placeholder"
field_name Items = codes "items"
field_name (RegistryTable table) = registry_name table
field_name (FallbackTable table) = fallback_name table
