-- Which rows make a registry, and what an error says of those that make none.
use Rattle.std.specs.Prelude.{◌≡◌, ◌<◌, List, take}
use Rattle.writeable_core.specs.declared.text.TextRow.{TextRow}
use Rattle.language_tags_registry.specs.Kinds.{kind_of}
use Rattle.language_tags_registry.specs.Registry.{Tables, table_of}
use Rattle.language_tags_registry.specs.Rows.{AreSound, FirstFaultIs, HasEarlierKey, HasNoKey}
use Rattle.language_tags_registry.specs.Rows.{HasNoValue, IsTableOf, rows_of}
use Rattle.language_tags_registry.specs.declared.error.RegistryError.{RegistryError}
use Rattle.language_tags_registry.specs.declared.error.RegistryError.TheVariants.{DuplicateKey}
use Rattle.language_tags_registry.specs.declared.error.RegistryError.TheVariants.{BadKey, BadValue}
use Rattle.language_tags_registry.specs.declared.error.RegistryError.TheVariants.{NoMemory}
use Rattle.language_tags_registry.specs.declared.kind.Kind.{Kind}
use Rattle.language_tags_registry.specs.declared.kind.RegistryTable.{RegistryTable}
use Rattle.language_tags_registry.specs.declared.rows.RegistryRows.{RegistryRows}

-- no row is faulty, and the tables are those of the rows
abbrev pub AreTablesOf : RegistryRows → Tables → Type 0
AreTablesOf rows tables =
    (table : RegistryTable) → IsTableOf (kind_of table) (rows_of table rows) (table_of table tables)

-- no row is faulty
abbrev pub AreRowsSound : RegistryRows → Type 0
AreRowsSound rows = (table : RegistryTable) → AreSound (kind_of table) (rows_of table rows)

-- the first fault of one table, unless memory ran out
abbrev pub IsFaultOf : Kind → List TextRow → RegistryError → Type 0
IsFaultOf kind rows (BadKey table i) =
    (table ≡ kind.number) × FirstFaultIs kind rows i (HasNoKey kind)
IsFaultOf kind rows (BadValue table i) =
    (table ≡ kind.number) × FirstFaultIs kind rows i (HasNoValue kind)
IsFaultOf kind rows (DuplicateKey table i) =
    (table ≡ kind.number) × FirstFaultIs kind rows i (HasEarlierKey kind (take i rows))
IsFaultOf kind rows NoMemory = Unit {0}

-- the first fault of all: that of a table, where the tables before it have none
pub record IsFirstFault (rows : RegistryRows) (error : RegistryError) : Type 0 where
  pub table : RegistryTable
  pub before : (other : RegistryTable) → (kind_of other).number < (kind_of table).number
      → AreSound (kind_of other) (rows_of other rows)
  pub fault : IsFaultOf (kind_of table) (rows_of table rows) error
