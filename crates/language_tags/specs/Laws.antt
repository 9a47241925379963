-- Laws of canonical forms, as statements.
use Rattle.std.specs.Prelude.{◌≡◌, ℕ, List, Option}
use Rattle.language_tags.specs.Canon.{IsCanonOf}
use Rattle.language_tags_grammar.specs.Tag.{Tag}
use Rattle.language_tags_registry.specs.Registry.{Tables, table_of, value_of}
use Rattle.language_tags_registry.specs.declared.kind.RegistryTable.{RegistryTable}

-- registries that answer each key of each table alike
abbrev pub AnswerAlike : Tables → Tables → Type 0
AnswerAlike R S =
    (table : RegistryTable) (key : List ℕ)
    → value_of (table_of table R) key ≡ value_of (table_of table S) key

-- the canonical form is the same over registries that answer alike
abbrev pub GoesByAnswers : Type 0
GoesByAnswers = (R S : Tables) (g : Tag) (canonical : Option Tag) → AnswerAlike R S
    → IsCanonOf R g canonical → IsCanonOf S g canonical
