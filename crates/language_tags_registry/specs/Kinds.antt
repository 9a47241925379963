-- What each table asks of its keys and values.
use Rattle.std.specs.Prelude.{◌≡◌, ℕ, List, [], Option, Some, None, IsTrue, length, slice_index_or}
use Rattle.language_tags_grammar.specs.Grandfathered.{is_grandfathered}
use Rattle.language_tags_grammar.specs.Shapes.{is_extlang, is_variant}
use Rattle.language_tags_grammar.specs.Tag.{Tag, print}
use Rattle.language_tags_grammar.specs.TagOf.{IsTagOf}
use Rattle.tinystr.specs.Shapes.{IsRegion, IsScript}
use Rattle.language_tags_registry.specs.Registry.{Entry, value_of}
use Rattle.language_tags_registry.specs.Subtags.{IsLanguage}
use Rattle.language_tags_registry.specs.declared.kind.Kind.{Kind}
use Rattle.language_tags_registry.specs.declared.kind.RegistryTable.{RegistryTable}
use Rattle.language_tags_registry.specs.declared.kind.RegistryTable.TheVariants.{Languages}
use Rattle.language_tags_registry.specs.declared.kind.RegistryTable.TheVariants.{LanguagesPreferred}
use Rattle.language_tags_registry.specs.declared.kind.RegistryTable.TheVariants.{LanguagesSuppressScript}
use Rattle.language_tags_registry.specs.declared.kind.RegistryTable.TheVariants.{Extlangs}
use Rattle.language_tags_registry.specs.declared.kind.RegistryTable.TheVariants.{ExtlangsPreferred}
use Rattle.language_tags_registry.specs.declared.kind.RegistryTable.TheVariants.{Scripts}
use Rattle.language_tags_registry.specs.declared.kind.RegistryTable.TheVariants.{ScriptsPreferred}
use Rattle.language_tags_registry.specs.declared.kind.RegistryTable.TheVariants.{Regions}
use Rattle.language_tags_registry.specs.declared.kind.RegistryTable.TheVariants.{RegionsPreferred}
use Rattle.language_tags_registry.specs.declared.kind.RegistryTable.TheVariants.{Variants}
use Rattle.language_tags_registry.specs.declared.kind.RegistryTable.TheVariants.{VariantsPreferred}
use Rattle.language_tags_registry.specs.declared.kind.RegistryTable.TheVariants.{GrandfatheredsPreferred}
use Rattle.language_tags_registry.specs.declared.kind.RegistryTable.TheVariants.{RedundantsPreferred}
use Rattle.language_tags_registry.specs.declared.kind.Rule.{Rule}
use Rattle.language_tags_registry.specs.declared.kind.Rule.TheVariants.{AnyText, Language, Extlang}
use Rattle.language_tags_registry.specs.declared.kind.Rule.TheVariants.{Script, Region, Variant}
use Rattle.language_tags_registry.specs.declared.kind.Rule.TheVariants.{Grandfathered, WellFormed}
use Rattle.language_tags_registry.specs.declared.kind.Rule.TheVariants.{Printed}

-- the text is a tag; it is a tag as that prints
abbrev pub IsWellFormed : List ℕ → Type 0
IsWellFormed text = (tag : Tag) × IsTagOf text tag

abbrev pub IsPrinted : List ℕ → Type 0
IsPrinted text = (tag : Tag) × IsTagOf text tag × (print tag ≡ text)

-- the text of a cell keeps a rule
abbrev pub Meets : Rule → List ℕ → Type 0
Meets AnyText text = Unit {0}
Meets Language text = IsLanguage text
Meets Extlang text = IsTrue (is_extlang text)
Meets Script text = IsScript text
Meets Region text = IsRegion text
Meets Variant text = IsTrue (is_variant text)
Meets Grandfathered text = IsTrue (is_grandfathered text)
Meets WellFormed text = IsWellFormed text
Meets Printed text = IsPrinted text

-- a value keeps the rule of a table's values; where the table has none it is the empty text
abbrev pub MeetsAny : Option Rule → List ℕ → Type 0
MeetsAny None value = value ≡ []
MeetsAny (Some rule) value = Meets rule value

-- the kind of a table: its number, the rule of its keys, and that of its values, where it has some
abbrev pub kind : ℕ → Rule → Option Rule → Kind
kind number key value = record { number = number; key = key; value = value }

abbrev pub kind_of : RegistryTable → Kind
kind_of Languages = kind 0 Language None
kind_of LanguagesPreferred = kind 1 Language (Some Language)
kind_of LanguagesSuppressScript = kind 2 Language (Some Script)
kind_of Extlangs = kind 3 Extlang (Some AnyText)
kind_of ExtlangsPreferred = kind 4 Extlang (Some Language)
kind_of Scripts = kind 5 Script None
kind_of ScriptsPreferred = kind 6 Script (Some Script)
kind_of Regions = kind 7 Region None
kind_of RegionsPreferred = kind 8 Region (Some Region)
kind_of Variants = kind 9 Variant (Some AnyText)
kind_of VariantsPreferred = kind 10 Variant (Some Variant)
kind_of GrandfatheredsPreferred = kind 11 Grandfathered (Some WellFormed)
kind_of RedundantsPreferred = kind 12 Printed (Some WellFormed)

-- there are as many tables as names, and each value keeps its table's rule
pub record HoldTables (tables : List (List Entry)) : Type 0 where
  pub count : length tables ≡ 13
  pub values : (table : RegistryTable) (key value : List ℕ)
      → value_of (slice_index_or tables (kind_of table).number []) key ≡ Some value
      → MeetsAny (kind_of table).value value
