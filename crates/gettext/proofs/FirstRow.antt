-- The metadata, which row 0 has if its id is empty.
use Rattle.std.proofs.Common.{◌≡◌, ℕ, ◌-◌, true, false, List, [], take, map, Some, refl, sym, ap}
use Rattle.std.proofs.Common.{◌∙◌}
use Rattle.std.specs.Option.{option_map}
use Rattle.std.specs.List.{slice_get, position_or_len}
use Rattle.std.specs.Str.{IsUtf8}
use Rattle.std.proofs.lemmas.Str.{IsUtf8-from_is_utf8}
use Rattle.gettext.specs.declared.encoding.Encoding.{Encoding}
use Rattle.gettext.specs.declared.spans.Row.{Row}
use Rattle.gettext.specs.Options.{Options}
use Rattle.gettext.specs.Encoding.{is_valid, text_in, utf8_in}
use Rattle.gettext.specs.Metadata.{fields_of}
use Rattle.gettext.specs.Messages.{has_id}
use Rattle.gettext.specs.Layout.{is_nul, head_of, pieces_of, original_of, translation_of}
use Rattle.gettext.specs.Mo.{first_encoding, row_message, fields_in_file}
use Rattle.gettext.specs.Table.{bytes_at, key_bytes, form_bytes}
use Rattle.gettext.specs.Reader.{IsReadRow}
use Rattle.gettext.proofs.Encodings.{AreBytes, AreBytes-range, AreBytes-take, encodes-text_in}
use Rattle.gettext.proofs.Encodings.{is_utf8-utf8_in}
use Rattle.gettext.proofs.Ids.{has_id-text_in}
use Rattle.gettext.proofs.Lookups.{list_all-slice_get}
use Rattle.std.proofs.lemmas.Option.{slice_get-map}
use Rattle.gettext.proofs.Pieces.{first_piece, this_piece}
use Rattle.gettext.proofs.Rows.{key_bytes-row_of, form_bytes-row_of}

module _ (b : List ℕ) (o : Options) (row : Row) (h : IsReadRow b (first_encoding o) 0 row) where
  -- the encoding of row 0
  abbrev e : Encoding
  e = first_encoding o

  -- the key of row 0 is the head of its original
  head_is : key_bytes b row ≡ head_of (original_of b 0)
  head_is = rw h.is (key_bytes-row_of b 0)

  -- its forms are those of its translation
  pieces_are : form_bytes b row ≡ pieces_of (translation_of b 0)
  pieces_are = rw h.is (form_bytes-row_of b 0)

  -- its bytes tell whether it has an id
  id_is : has_id (text_in e (head_of (original_of b 0))) ≡ has_id (bytes_at b row.key)
  unfolding key_bytes
  id_is = has_id-text_in e (head_of (original_of b 0)) (rw (← head_is) h.fits.key)
      ∙ ap has_id (sym head_is)

  -- with an id there are no metadata
  pub no_header : has_id (bytes_at b row.key) ≡ true → fields_in_file b o ≡ Some []
  unfolding fields_in_file row_message
  no_header t = rw (id_is, t) refl

  module _ (forms : List ℕ) (place : ℕ) (same : forms ≡ bytes_at b row.forms)
      (at : place ≡ position_or_len is_nul forms) where
    -- form 0 ends at the first NUL
    first : slice_get (pieces_of forms) 0 ≡ Some (take place forms)
    first = this_piece forms 0 0 place (first_piece forms) at

    -- form 0 is valid
    first_valid : is_valid e (take place forms) ≡ true
    unfolding form_bytes
    first_valid = list_all-slice_get (is_valid e) (pieces_of forms) 0 (take place forms)
        (rw same h.fits.forms) first

    -- without an id the metadata are the fields of form 0
    pub header_fields_are : has_id (bytes_at b row.key) ≡ false
        → fields_in_file b o ≡ fields_of (utf8_in e (take place forms))
    unfolding fields_in_file row_message form_bytes
    header_fields_are t =
        let found : slice_get (map (text_in e) (pieces_of (translation_of b 0))) 0
        ≡ Some (text_in e (take place forms)) =
        slice_get-map (text_in e) (pieces_of (translation_of b 0)) 0
        ∙ ap (option_map (text_in e))
        (ap (λ (ps : List (List ℕ)). slice_get ps 0) (sym pieces_are ∙ ap pieces_of (sym same))
        ∙ first) in
        rw (id_is, t, found, encodes-text_in e (take place forms) first_valid) refl

    -- form 0, decoded, is UTF-8
    pub header_is_utf8 : AreBytes b → IsUtf8 (utf8_in e (take place forms))
    header_is_utf8 bytes =
        let all : AreBytes forms =
        rw same (AreBytes-range (row.forms.end - row.forms.start) row.forms.start b bytes) in
        IsUtf8-from_is_utf8
        _ (is_utf8-utf8_in e (take place forms) (AreBytes-take place forms all) first_valid)
