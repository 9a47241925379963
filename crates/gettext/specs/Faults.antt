-- What is wrong with the bytes of an MO file: the first condition that fails, in the order of the
-- format.
use Rattle.std.specs.Prelude.{◌≡◌, ℕ, zero, suc, ◌+◌, Bool, ◌||◌, List, [], ◌∷◌, ◌++◌}
use Rattle.std.specs.Prelude.{length, take, Option, is_some, nat_le, ◌==◌}
use Rattle.std.specs.List.{list_any, list_all}
use Rattle.std.specs.Option.{unwrap_or}
use Rattle.std.specs.Bool.{Decides}
use Rattle.writeable_core.specs.FirstFailure.{Condition, first_failure}
use Rattle.gettext.specs.declared.error.Error.{Error}
use Rattle.gettext.specs.declared.error.Error.TheVariants.{BadMagic, DecodingError, Eof}
use Rattle.gettext.specs.declared.error.Error.TheVariants.{MalformedMetadata, MisplacedMetadata}
use Rattle.gettext.specs.declared.error.Error.TheVariants.{PluralParsing, UnknownEncoding}
use Rattle.gettext.specs.declared.encoding.Encoding.{Encoding}
use Rattle.writeable_core.specs.Texts.{same_text}
use Rattle.gettext.specs.Options.{Options}
use Rattle.gettext.specs.Encoding.{is_valid}
use Rattle.gettext.specs.Metadata.{Field}
use Rattle.gettext.specs.Messages.{Rule, has_id}
use Rattle.gettext.specs.Layout.{is_nul, little_endian, big_endian, count_of, originals_of}
use Rattle.gettext.specs.Layout.{translations_of, row_place, text_length, text_offset, original_of}
use Rattle.gettext.specs.Layout.{translation_of, head_of, pieces_of}
use Rattle.gettext.specs.Mo.{IsRule, named_encoding, first_encoding, fields_in_file, later_encoding}

-- what may be wrong with the bytes of a file
abbrev pub IsMoFault : Error → Type 0
IsMoFault BadMagic = Unit {0}
IsMoFault DecodingError = Unit {0}
IsMoFault Eof = Unit {0}
IsMoFault MalformedMetadata = Unit {0}
IsMoFault MisplacedMetadata = Unit {0}
IsMoFault PluralParsing = Unit {0}
IsMoFault UnknownEncoding = Unit {0}
IsMoFault e = ⊥

-- the conditions of the header: its length, its magic number, and where the tables start
unfoldable pub header_conditions : List ℕ → List (Condition Error)
header_conditions b =
    (nat_le 28 (length b), Eof)
    ∷ (same_text (take 4 b) little_endian || same_text (take 4 b) big_endian, BadMagic)
    ∷ (nat_le (originals_of b) (length b), Eof)
    ∷ (nat_le (translations_of b) (length b), Eof)
    ∷ []

-- of row i of a table, and of its text
unfoldable pub text_conditions : List ℕ → ℕ → ℕ → List (Condition Error)
text_conditions b table i =
    (nat_le (row_place table i + 8) (length b), Eof)
    ∷ (nat_le (text_offset b table i + text_length b table i + 1) (length b), Eof)
    ∷ []

-- of an original of row i, given in bytes
unfoldable pub head_conditions : Encoding → ℕ → List ℕ → List (Condition Error)
head_conditions e i original =
    (list_any is_nul original, Eof)
    ∷ (is_valid e (head_of original), DecodingError)
    ∷ ((i == 0) || has_id (head_of original), MisplacedMetadata)
    ∷ []

-- of a translation, given in bytes
unfoldable pub forms_conditions : Encoding → List ℕ → List (Condition Error)
forms_conditions e translation = (list_all (is_valid e) (pieces_of translation), DecodingError) ∷ []

-- of row i among the originals
unfoldable pub original_conditions : List ℕ → Encoding → ℕ → List (Condition Error)
original_conditions b e i =
    text_conditions b (originals_of b) i ++ head_conditions e i (original_of b i)

-- of row i among the translations
unfoldable pub translation_conditions : List ℕ → Encoding → ℕ → List (Condition Error)
translation_conditions b e i =
    text_conditions b (translations_of b) i ++ forms_conditions e (translation_of b i)

-- of row i
unfoldable pub row_conditions : List ℕ → Encoding → ℕ → List (Condition Error)
row_conditions b e i = original_conditions b e i ++ translation_conditions b e i

-- of n rows from row i on
unfoldable pub rows_conditions : List ℕ → Encoding → ℕ → ℕ → List (Condition Error)
rows_conditions b e i zero = []
rows_conditions b e i (suc n) = row_conditions b e i ++ rows_conditions b e (suc i) n

-- Of the metadata. Whether a file has a rule is told: `mo_fault` says by what.
unfoldable pub metadata_conditions : Options → Option (List Field) → Bool → List (Condition Error)
metadata_conditions o fields ruled =
    (is_some fields, MalformedMetadata)
    ∷ (is_some (named_encoding o (unwrap_or fields [])), UnknownEncoding)
    ∷ (ruled, PluralParsing)
    ∷ []

-- of n rows
unfoldable pub all_rows_conditions : List ℕ → Options → Bool → ℕ → List (Condition Error)
all_rows_conditions b o ruled zero = []
all_rows_conditions b o ruled (suc n) =
    row_conditions b (first_encoding o) 0
    ++ (metadata_conditions o (fields_in_file b o) ruled
    ++ rows_conditions b (later_encoding b o) 1 n)

-- the first condition that fails, where it is told whether the file has a rule
unfoldable pub first_fault : List ℕ → Options → Bool → Option Error
first_fault b o ruled =
    first_failure (header_conditions b ++ all_rows_conditions b o ruled (count_of b))

-- The file has a rule: where none is forced, a plural expression that is there is in the grammar.
abbrev pub HasRule : List ℕ → Options → Type 0
HasRule b o = (rule : Rule) × IsRule o (unwrap_or (fields_in_file b o) []) rule

-- What is wrong with the bytes of a file, if anything: the first condition that fails. That the
-- file has a rule is one of the conditions, and the grammar decides it.
pub record mo_fault (b : List ℕ) (o : Options) (fault : Option Error) : Type 0 where
  pub ruled : Bool
  pub decided : Decides ruled (HasRule b o)
  pub first : first_fault b o ruled ≡ fault
