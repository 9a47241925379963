use Rattle.std.proofs.Common.{◌≡◌, ◌++◌, map}
use Rattle.language_tags_grammar.specs.Tag.{extensions_of}
use Rattle.language_tags.specs.CanonText.{pair_of}
use Rattle.language_tags.specs.Extensions.{item_of}
use Rattle.language_tags.proofs.tag.LanguageTag.listed_extensions.Given as goal

-- what is listed and what is left are all
abbrev pub invariant-loop-singleton : goal.invariant-loop-singleton
invariant-loop-singleton l =
    map pair_of l.extensions.items ++ map item_of l.singleton-iterator
    ≡ map item_of (extensions_of l.self)
