-- The errors in words.
use Rattle.std.specs.Prelude.{ℕ, List, codes}
use Rattle.language_tags_grammar.specs.declared.error.ParseError.{ParseError}
use Rattle.language_tags_grammar.specs.declared.error.ParseError.TheVariants as fault

-- what `ParseError::text` says
abbrev pub words_of : ParseError → List ℕ
words_of fault.EmptyExtension = codes "if an extension subtag is present, it must not be empty"
words_of fault.EmptyPrivateUse = codes "if the `x` subtag is present, it must not be empty"
words_of fault.ForbiddenChar = codes "the langtag contains a char not allowed"
words_of fault.InvalidSubtag = codes "a subtag fails to parse, it does not match any other subtags"
words_of fault.InvalidLanguage = codes "the given language subtag is invalid"
words_of fault.SubtagTooLong = codes "a subtag may be eight characters in length at maximum"
words_of fault.EmptySubtag = codes "a subtag should not be empty"
words_of fault.TooManyExtlangs = codes "at maximum three extlangs are allowed"
words_of fault.NoMemory = codes "no memory"
