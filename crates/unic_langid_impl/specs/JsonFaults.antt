-- Why a JSON value is no identifier: it is no string, or its text is none.
use Rattle.std.specs.Prelude.{◌≡◌, ◌≢◌, ℕ, List, Option, None, IsSomeAnd}
use Rattle.unic_langid_impl.specs.Reading.{IsParserFault}
use Rattle.unic_langid_impl.specs.declared.identifier.json.IdJsonError.{IdJsonError}
use Rattle.unic_langid_impl.specs.declared.identifier.json.IdJsonError.TheVariants.{NoMemory}
use Rattle.unic_langid_impl.specs.declared.identifier.json.IdJsonError.TheVariants.{NotText, Parse}
use Rattle.unic_langid_impl.specs.declared.parser.error.ParserError.{ParserError}
use Rattle.unic_langid_impl.specs.declared.parser.error.ParserError.TheVariants as parser

-- of the value's text, where it is a string
abbrev pub IsJsonFault : Option (List ℕ) → IdJsonError → Type 0
IsJsonFault text NotText = text ≡ None
IsJsonFault text (Parse error) =
    IsSomeAnd text (λ bytes. (error ≢ parser.NoMemory) × IsParserFault bytes error)
IsJsonFault text NoMemory = Unit {0}

-- the error of the parser as one of a JSON value: want of memory is its own
abbrev pub json_error_of : ParserError → IdJsonError
json_error_of parser.InvalidLanguage = Parse parser.InvalidLanguage
json_error_of parser.InvalidSubtag = Parse parser.InvalidSubtag
json_error_of parser.NoMemory = NoMemory
