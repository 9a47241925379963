-- What decoding rows gives. Private contracts cite it.
use Rattle.std.specs.Prelude.{◌≡◌, ℕ, ◌+◌, List, [], ◌∷◌, ◌++◌, length, map}
use Rattle.std.specs.List.{AllByRecursion}
use Rattle.gettext.specs.declared.encoding.Encoding.{Encoding}
use Rattle.gettext.specs.declared.spans.Row.{Row}
use Rattle.gettext.specs.Encoding.{text_in, utf8_in}
use Rattle.gettext.specs.Messages.{Message}
use Rattle.gettext.specs.Table.{bytes_at, key_bytes, form_bytes, message_at, IsRowOf}
use Rattle.gettext.specs.Reader.{IsRowIn}

-- the rows are valid, the first in one encoding and the others in another
abbrev pub AreRowsIn : List ℕ → Encoding → Encoding → List Row → Type 0
AreRowsIn b first later [] = Unit {0}
AreRowsIn b first later (r ∷ rs) = IsRowIn b first r × AreRowsIn b later later rs

-- the message of a row whose texts are in an encoding
unfoldable pub decoded_message : List ℕ → Encoding → Row → Message
decoded_message b e r = record {
  key = text_in e (key_bytes b r);
  forms = map (text_in e) (form_bytes b r);
}

-- the messages of rows, the first in one encoding and the others in another
abbrev pub decoded_messages : List ℕ → Encoding → Encoding → List Row → List Message
decoded_messages b first later [] = []
decoded_messages b first later (r ∷ rs) =
    decoded_message b first r ∷ decoded_messages b later later rs

-- the texts of a row stand behind others, and the new row says where
pub record DecodesRow (b : List ℕ) (e : Encoding) (r : Row) (old new : List ℕ)
    (d : Row) : Type 0 where
  pub texts : new ≡ old ++ (utf8_in e (key_bytes b r) ++ utf8_in e (bytes_at b r.forms))
  pub key_start : d.key.start ≡ length old
  pub key_end : d.key.end ≡ length old + length (utf8_in e (key_bytes b r))
  pub forms_start : d.forms.start ≡ d.key.end
  pub forms_end : d.forms.end ≡ length new

-- the rows over the texts are the messages
pub record Decodes (b : List ℕ) (first later : Encoding) (rows : List Row) (texts : List ℕ)
    (decoded : List Row) : Type 0 where
  pub fit : AllByRecursion (IsRowOf texts) decoded
  pub messages : map (message_at texts) decoded ≡ decoded_messages b first later rows
