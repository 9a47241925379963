-- The line that is written of each answer but `Done`.
use Rattle.std.specs.Fmt.{decimal}
use Rattle.std.specs.Prelude.{◌≡◌, ◌⊎◌, ℕ, List, [], ◌∷◌, ◌++◌, Bool, true, codes}
use Rattle.gettext.specs.Errors as catalogs
use Rattle.icu_list.specs.Words as lists
use Rattle.icu_locale_fallback.specs.Words as fallback
use Rattle.icu_locale_fallback.specs.declared.rows.TableError.{TableError}
use Rattle.icu_locale_fallback.specs.declared.rows.TableError.TheVariants as locales
use Rattle.language_tags_registry.specs.Words as registry
use Rattle.language_tags_registry.specs.declared.error.RegistryError.{RegistryError}
use Rattle.language_tags_registry.specs.declared.error.RegistryError.TheVariants as tags
use Rattle.localise.specs.declared.error.BundleCause.{BundleCause}
use Rattle.localise.specs.declared.error.BundleCause.TheVariants as bundle
use Rattle.localise_document.specs.Names.{section_name, field_name}
use Rattle.localise_document.specs.declared.place.Field.TheVariants.{RegistryTable, FallbackTable}
use Rattle.localise_document.specs.declared.place.ShapePlace.{ShapePlace}
use Rattle.localise_status.specs.declared.status.RequestCause.{RequestCause}
use Rattle.localise_status.specs.declared.status.RequestCause.TheVariants as request
use Rattle.localise_status.specs.declared.status.Status.{Status}
use Rattle.localise_status.specs.declared.status.Status.TheVariants.{Done, BadWords, NotJson, Shape}
use Rattle.localise_status.specs.declared.status.Status.TheVariants.{Table, Bundle, DuplicateLocale}
use Rattle.localise_status.specs.declared.status.Status.TheVariants.{Root, Request, ReadFault}
use Rattle.localise_status.specs.declared.status.Status.TheVariants.{WriteFault, NoMemory, TooLong}
use Rattle.localise_status.specs.declared.status.TableCause.{TableCause}
use Rattle.localise_status.specs.declared.status.TableCause.TheVariants as table
use Rattle.wanted_locale.specs.Words as wanted
use Rattle.writeable_core.specs.Sink.{Rose, TookPrefix}

-- a section, an index and a field, with spaces between them
abbrev pub placed_text : List ℕ → ℕ → List ℕ → List ℕ
placed_text section index field = section ++ (32 ∷ (decimal index ++ (32 ∷ field)))

-- a place of a document
abbrev pub place_text : ShapePlace → List ℕ
place_text place = placed_text (section_name place.section) place.index (field_name place.field)

-- a row of a table, and what is wrong with it
abbrev pub row_text : List ℕ → ℕ → List ℕ → List ℕ
row_text name row words =
    codes "table " ++ (name ++ (codes " row " ++ (decimal row ++ (codes ": " ++ words))))

-- the fault of a table of the registry
abbrev pub registry_text : RegistryError → List ℕ
registry_text (tags.DuplicateKey table row) =
    row_text (field_name (RegistryTable table)) row (codes "duplicate key")
registry_text (tags.BadKey table row) =
    row_text (field_name (RegistryTable table)) row (codes "bad key")
registry_text (tags.BadValue table row) =
    row_text (field_name (RegistryTable table)) row (codes "bad value")
registry_text tags.NoMemory = registry.words_of tags.NoMemory

-- the fault of a table of fallback
abbrev pub fallback_text : TableError → List ℕ
fallback_text (locales.DuplicateKey table row) =
    row_text (field_name (FallbackTable table)) row (codes "duplicate key")
fallback_text (locales.BadKey table row) =
    row_text (field_name (FallbackTable table)) row (codes "bad key")
fallback_text (locales.BadValue table row) =
    row_text (field_name (FallbackTable table)) row (codes "bad value")
fallback_text locales.NoMemory = fallback.words_of locales.NoMemory

-- the fault of a table
abbrev pub table_text : TableCause → List ℕ
table_text (table.Registry error) = registry_text error
table_text (table.Fallback error) = fallback_text error

-- what is wrong with a bundle
abbrev pub bundle_text : BundleCause → List ℕ
bundle_text (bundle.Tag cause) = codes "tag: " ++ wanted.words_of cause
bundle_text (bundle.Mo error) = codes "catalog: " ++ catalogs.words_of error
bundle_text (bundle.List error) = codes "list: " ++ lists.words_of error

-- what is wrong with a request
abbrev pub request_text : RequestCause → List ℕ
request_text (request.Tag cause) = codes "tag: " ++ wanted.words_of cause
request_text request.ChainLoops = codes "fallback loops"

-- a word, a space, a number, a colon, a space and a text
abbrev pub numbered_text : List ℕ → ℕ → List ℕ → List ℕ
numbered_text word i text = word ++ (32 ∷ (decimal i ++ (codes ": " ++ text)))

-- what is said of an answer
abbrev pub fault_text : Status → List ℕ
fault_text Done = []
fault_text BadWords = codes "bad command line"
fault_text NotJson = codes "not JSON"
fault_text (Shape place) = codes "wrong shape: " ++ place_text place
fault_text (Table cause) = table_text cause
fault_text (Bundle i cause) = numbered_text (codes "bundle") i (bundle_text cause)
fault_text (DuplicateLocale i) =
    numbered_text (codes "bundle") i (codes "locale of an earlier bundle")
fault_text (Root fault) = codes "root patterns: " ++ lists.words_of fault
fault_text (Request i cause) = numbered_text (codes "request") i (request_text cause)
fault_text ReadFault = codes "read fault"
fault_text WriteFault = codes "write fault"
fault_text NoMemory = codes "no memory"
fault_text TooLong = codes "input too long"

-- the line of an answer
abbrev pub fault_line : Status → List ℕ
fault_line answer = codes "localise: " ++ (fault_text answer ++ 10 ∷ [])

-- The line was taken, or a front of it, and that only where the sink's count rose or it takes
-- memory.
pub data IsReported {E : Type 0} (took : E → List ℕ → E → Type 0) (faults : E → ℕ)
    (takes_memory : E → Bool) (old : E) (line : List ℕ) (new : E) : Type 0 where
  whole : took old line new → IsReported took faults takes_memory old line new
  front : TookPrefix took old line new → Rose (faults old) (faults new) ⊎ (takes_memory old ≡ true)
      → IsReported took faults takes_memory old line new
