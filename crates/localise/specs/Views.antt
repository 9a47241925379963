-- What a localiser stands for.
use Rattle.std.specs.Prelude.{List}
use Rattle.icu_list.specs.Patterns.{Patterns}
use Rattle.localise.specs.Meaning.{Meaning}
use Rattle.localise.specs.Read.{meanings_of}
use Rattle.localise.specs.declared.localiser.Localiser.{Localiser}
use Rattle.wanted_locale.specs.declared.tables.Tables.{Tables}

-- what its bundles mean, in their order
abbrev pub meanings : Localiser → List Meaning
meanings l = meanings_of l.bundles.list.items

-- the patterns of the requests' own words
abbrev pub root_of : Localiser → Patterns
root_of l = l.root

-- what tags and locales are looked up in
abbrev pub tables_of : Localiser → Tables
tables_of l = l.tables.now
