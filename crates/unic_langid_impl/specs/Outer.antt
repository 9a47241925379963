-- The error of the parser as one of an identifier: want of memory is its own.
use Rattle.unic_langid_impl.specs.declared.errors.LanguageIdentifierError.{LanguageIdentifierError}
use Rattle.unic_langid_impl.specs.declared.errors.LanguageIdentifierError.TheVariants as outer
use Rattle.unic_langid_impl.specs.declared.parser.error.ParserError.{ParserError}
use Rattle.unic_langid_impl.specs.declared.parser.error.ParserError.TheVariants as parser

abbrev pub outer_of : ParserError → LanguageIdentifierError
outer_of parser.InvalidLanguage = outer.ParserError parser.InvalidLanguage
outer_of parser.InvalidSubtag = outer.ParserError parser.InvalidSubtag
outer_of parser.NoMemory = outer.NoMemory
