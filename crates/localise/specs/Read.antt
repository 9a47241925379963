-- What a bundle that is read means.
use Rattle.std.specs.Prelude.{List, map}
use Rattle.gettext.specs.Table.{messages_of}
use Rattle.localise.specs.Meaning.{Meaning}
use Rattle.localise.specs.declared.bundle.Bundle.{Bundle}

-- its locale, the messages of its catalog, and its patterns
abbrev pub meaning_of : Bundle → Meaning
meaning_of b =
    record { locale = b.locale; messages = messages_of b.catalog.entries; patterns = b.patterns }

-- what bundles mean, in their order
abbrev pub meanings_of : List Bundle → List Meaning
meanings_of bundles = map meaning_of bundles
