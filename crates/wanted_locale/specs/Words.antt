-- The causes in words.
use Rattle.std.specs.Prelude.{ℕ, List, codes}
use Rattle.language_tags.specs.Words as validity
use Rattle.language_tags_grammar.specs.Words as grammar
use Rattle.unic_langid_impl.specs.Words as identifiers
use Rattle.wanted_locale.specs.declared.error.TagCause.{TagCause}
use Rattle.wanted_locale.specs.declared.error.TagCause.TheVariants.{Parse, Canonical, Identifier}
use Rattle.wanted_locale.specs.declared.error.TagCause.TheVariants.{NoMemory}

-- what `TagCause::text` says: the words of the error that it carries
abbrev pub words_of : TagCause → List ℕ
words_of (Parse fault) = grammar.words_of fault
words_of (Canonical fault) = validity.words_of fault
words_of (Identifier fault) = identifiers.words_of fault
words_of NoMemory = codes "out of memory"
