-- Why bytes are no identifier, in the words of the identifier's own error.
use Rattle.std.specs.Prelude.{◌≢◌, ℕ, Bool, List}
use Rattle.unic_langid_impl.specs.Reading.{IsParserFault, Refuses}
use Rattle.unic_langid_impl.specs.declared.errors.LanguageIdentifierError.{LanguageIdentifierError}
use Rattle.unic_langid_impl.specs.declared.errors.LanguageIdentifierError.TheVariants as outer
use Rattle.unic_langid_impl.specs.declared.parser.error.ParserError.TheVariants as parser

-- want of memory is no error of the parser here
abbrev pub IsFaultOf : List ℕ → LanguageIdentifierError → Type 0
IsFaultOf bytes outer.Unknown = ⊥
IsFaultOf bytes (outer.ParserError error) = (error ≢ parser.NoMemory) × IsParserFault bytes error
IsFaultOf bytes outer.NoMemory = Unit {0}

-- the same of a reader of pieces
abbrev pub RefusesPieces : Bool → List (List ℕ) → List (List ℕ) → LanguageIdentifierError → Type 0
RefusesPieces extension pieces left outer.Unknown = ⊥
RefusesPieces extension pieces left (outer.ParserError error) =
    (error ≢ parser.NoMemory) × Refuses extension pieces left error
RefusesPieces extension pieces left outer.NoMemory = Refuses extension pieces left parser.NoMemory
