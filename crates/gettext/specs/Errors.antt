-- The errors of reading a catalog: their words, and which comes of reading a source.
use Rattle.std.specs.Prelude.{ℕ, List, codes}
use Rattle.reading.specs.declared.error.ReadError.{ReadError}
use Rattle.reading.specs.declared.error.ReadError.TheVariants as reading
use Rattle.gettext.specs.declared.error.Error.{Error}
use Rattle.gettext.specs.declared.error.Error.TheVariants.{BadMagic, DecodingError, Eof, Io}
use Rattle.gettext.specs.declared.error.Error.TheVariants.{MalformedMetadata, MisplacedMetadata}
use Rattle.gettext.specs.declared.error.Error.TheVariants.{PluralParsing, UnknownEncoding, TooLong}
use Rattle.gettext.specs.declared.error.Error.TheVariants.{NoMemory}

-- what `Error::text` says
abbrev pub words_of : Error → List ℕ
words_of BadMagic = codes "bad magic number"
words_of DecodingError = codes "invalid byte sequence in a string"
words_of Eof = codes "unxpected end of file"
words_of Io = codes "the source failed"
words_of MalformedMetadata = codes "metadata syntax error"
words_of MisplacedMetadata = codes "misplaced metadata"
words_of PluralParsing = codes "invalid plural expression"
words_of UnknownEncoding = codes "unknown encoding specified"
words_of TooLong = codes "the source has too many bytes"
words_of NoMemory = codes "out of memory"

-- a source that fails, that is too long, and want of memory
abbrev pub error_of : ReadError → Error
error_of reading.Fault = Io
error_of reading.TooLong = TooLong
error_of reading.NoMemory = NoMemory
