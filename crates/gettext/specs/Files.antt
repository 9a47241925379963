-- What reading a whole file gives. Private contracts cite it.
use Rattle.std.specs.Prelude.{◌≡◌, ℕ, zero, suc, Bool, true, false, ◌&&◌, List, [], Option, Some}
use Rattle.std.specs.Prelude.{None, Vec}
use Rattle.std.specs.Option.{unwrap_or}
use Rattle.std.specs.declared.alloc.Global.{Global}
use Rattle.gettext.specs.declared.parser.reader.File.{File}
use Rattle.gettext.specs.declared.encoding.Encoding.{Encoding}
use Rattle.gettext.specs.declared.encoding.Encoding.TheVariants.{Utf8, Latin1, Windows1252}
use Rattle.gettext.specs.declared.parser.settings.Settings.{Settings}
use Rattle.gettext.specs.declared.spans.Row.{Row}
use Rattle.gettext.specs.Options.{Options}
use Rattle.gettext.specs.Metadata.{Field}
use Rattle.gettext.specs.Messages.{Messages, StandsFor}
use Rattle.gettext.specs.Mo.{entries, first_encoding, fields_in_file, IsInUtf8}
use Rattle.gettext.specs.Table.{held, messages_of, Keeps}
use Rattle.gettext.specs.Reader.{rows_from}
use Rattle.gettext.specs.Decoding.{AreRowsIn}
use Rattle.gettext.specs.Settings.{IsSettings}

-- the fields of the metadata of a file with so many rows
unfoldable pub found_fields : List ℕ → Options → ℕ → Option (List Field)
found_fields b o zero = Some []
found_fields b o (suc n) = fields_in_file b o

-- n rows of a file in their order, and what its metadata settle
pub record AreFileRows (b : List ℕ) (o : Options) (n : ℕ) (rows : List Row)
    (s : Settings) : Type 0 where
  pub are : rows ≡ rows_from b 0 n
  pub fit : AreRowsIn b (first_encoding o) s.encoding (rows_from b 0 n)
  pub settings : IsSettings o (unwrap_or (found_fields b o n) []) s

-- whether an encoding is UTF-8
abbrev pub is_utf_8 : Encoding → Bool
is_utf_8 Utf8 = true
is_utf_8 Latin1 = false
is_utf_8 Windows1252 = false

-- whether each of so many rows is in UTF-8, given the encoding of the first and that of the others
abbrev pub is_in_utf8 : ℕ → Encoding → Encoding → Bool
is_in_utf8 zero first later = true
is_in_utf8 (suc zero) first later = is_utf_8 first
is_in_utf8 (suc (suc n)) first later = is_utf_8 first && is_utf_8 later

-- decoded texts, or else the bytes of the file
abbrev pub buffer_of : List ℕ → Option (Vec ℕ Global) → List ℕ
buffer_of b None = b
buffer_of b (Some texts) = texts.items

-- what is read of a file stands for what the file means, and decodes nothing where every row is in
-- UTF-8
pub record IsFile (b : List ℕ) (o : Options) (file : File) : Type 0 where
  pub keeps : Keeps (buffer_of b file.texts) file.rows.items file.settings.rule
      file.settings.plurals
  pub stands : (c : Messages) → entries b o c
      → StandsFor (messages_of (held (buffer_of b file.texts) file.rows.items file.settings.rule)) c
  pub plain : IsInUtf8 b o → file.texts ≡ None
