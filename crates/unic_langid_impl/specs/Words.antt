-- The errors in words.
use Rattle.std.specs.Prelude.{ℕ, List, codes}
use Rattle.unic_langid_impl.specs.declared.errors.LanguageIdentifierError.{LanguageIdentifierError}
use Rattle.unic_langid_impl.specs.declared.errors.LanguageIdentifierError.TheVariants as outer
use Rattle.unic_langid_impl.specs.declared.identifier.json.IdJsonError.{IdJsonError}
use Rattle.unic_langid_impl.specs.declared.identifier.json.IdJsonError.TheVariants as json
use Rattle.unic_langid_impl.specs.declared.likelysubtags.rows.LikelyError.{LikelyError}
use Rattle.unic_langid_impl.specs.declared.likelysubtags.rows.LikelyError.TheVariants as rows
use Rattle.unic_langid_impl.specs.declared.parser.error.ParserError.{ParserError}
use Rattle.unic_langid_impl.specs.declared.parser.error.ParserError.TheVariants as parser

-- what `ParserError::text` says
abbrev pub words_of_parser : ParserError → List ℕ
words_of_parser parser.InvalidLanguage = codes "The given language subtag is invalid"
words_of_parser parser.InvalidSubtag = codes "Invalid subtag"
words_of_parser parser.NoMemory = codes "Out of memory"

-- what `LanguageIdentifierError::text` says
abbrev pub words_of : LanguageIdentifierError → List ℕ
words_of outer.Unknown = codes "Unknown error"
words_of (outer.ParserError parser.InvalidLanguage) =
    codes "Parser error: The given language subtag is invalid"
words_of (outer.ParserError parser.InvalidSubtag) = codes "Parser error: Invalid subtag"
words_of (outer.ParserError parser.NoMemory) = codes "Out of memory"
words_of outer.NoMemory = codes "Out of memory"

-- what `IdJsonError::text` says
abbrev pub words_of_json : IdJsonError → List ℕ
words_of_json json.NotText = codes "not a text"
words_of_json (json.Parse fault) = words_of_parser fault
words_of_json json.NoMemory = codes "out of memory"

-- what `LikelyError::text` says
abbrev pub words_of_rows : LikelyError → List ℕ
words_of_rows (rows.DuplicateKey table row) = codes "duplicate key"
words_of_rows (rows.BadEntry table row) = codes "bad entry"
words_of_rows rows.NoMemory = codes "out of memory"
