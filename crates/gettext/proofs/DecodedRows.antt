-- Rows whose texts are decoded into a buffer of their own.
use Rattle.std.proofs.Common.{◌≡◌, ℕ, ◌+◌, ◌-◌, ◌≤◌, true, List, [], ◌∷◌, ◌++◌, length, take, drop}
use Rattle.std.proofs.Common.{map, refl, sym, ap, ◌∙◌, arith, append_assoc}
use Rattle.std.proofs.lemmas.Bool.{and_parts}
use Rattle.std.specs.List.{list_all, AllByRecursion}
use Rattle.std.specs.Str.{is_utf8, chars}
use Rattle.std.proofs.Math.Seq.{take-append_seam, drop-append_seam}
use Rattle.std.proofs.lemmas.List.{append-nil, map-append, length-append, take-append-le}
use Rattle.std.proofs.lemmas.List.{drop-append-le, take_all, length-drop}
use Rattle.gettext.specs.declared.encoding.Encoding.{Encoding}
use Rattle.gettext.specs.declared.spans.Row.{Row}
use Rattle.gettext.specs.declared.spans.Span.{Span}
use Rattle.gettext.specs.Encoding.{is_valid, text_in, utf8_in}
use Rattle.gettext.specs.Layout.{pieces_of}
use Rattle.gettext.specs.Table.{LiesIn, bytes_at, key_bytes, form_bytes, message_at, IsRowOf}
use Rattle.gettext.specs.Reader.{IsRowIn}
use Rattle.gettext.specs.Decoding.{AreRowsIn, decoded_message, decoded_messages, DecodesRow}
use Rattle.gettext.specs.Decoding.{Decodes}
use Rattle.gettext.proofs.Lists.{AllByRecursion-push}
use Rattle.gettext.proofs.Encodings.{AreBytes, AreBytes-range, AreBytes-slice_split}
use Rattle.gettext.proofs.Encodings.{is_utf8-utf8_in, chars-utf8_in, slice_split-utf8_in}

-- ---- more texts behind

-- a range has the same bytes where more stand behind the buffer
bytes_at-more : (old more : List ℕ) (s : Span) → LiesIn old s
    → bytes_at (old ++ more) s ≡ bytes_at old s
bytes_at-more old more s h =
    let start : s.start ≤ length old = omega (arith, h.ordered, h.inside) in
    let size : s.end - s.start ≤ length (drop s.start old) =
    omega (arith, length-drop s.start old, h.inside) in
    ap (take (s.end - s.start)) (drop-append-le s.start old more start)
    ∙ take-append-le (s.end - s.start) (drop s.start old) more size

-- it still lies in the buffer
lies-more : (old more : List ℕ) (s : Span) → LiesIn old s → LiesIn (old ++ more) s
lies-more old more s h = record {
  ordered = h.ordered;
  inside = omega (arith, h.inside, length-append old more);
}

-- the key of a row has the same bytes
key-more : (old more : List ℕ) (r : Row) → IsRowOf old r
    → key_bytes (old ++ more) r ≡ key_bytes old r
unfolding key_bytes
key-more old more r h = bytes_at-more old more r.key h.key_inside

-- so have its forms
forms-more : (old more : List ℕ) (r : Row) → IsRowOf old r
    → form_bytes (old ++ more) r ≡ form_bytes old r
unfolding form_bytes
forms-more old more r h = ap pieces_of (bytes_at-more old more r.forms h.forms_inside)

-- the row still fits
row-more : (old more : List ℕ) (r : Row) → IsRowOf old r → IsRowOf (old ++ more) r
row-more old more r h = record {
  key_inside = lies-more old more r.key h.key_inside;
  key = rw (key-more old more r h) h.key;
  forms_inside = lies-more old more r.forms h.forms_inside;
  forms = rw (forms-more old more r h) h.forms;
}

-- and is the same message
message-more : (old more : List ℕ) (r : Row) → IsRowOf old r
    → message_at (old ++ more) r ≡ message_at old r
unfolding message_at
message-more old more r h = rw (key-more old more r h, forms-more old more r h) refl

-- so do rows, and are the same messages
rows-more : (old more : List ℕ) (rows : List Row) → AllByRecursion (IsRowOf old) rows
    → AllByRecursion (IsRowOf (old ++ more)) rows
    × (map (message_at (old ++ more)) rows ≡ map (message_at old) rows)
rows-more old more [] all = (tt, refl)
rows-more old more (r ∷ rows) all =
    let rest = rows-more old more rows all.1 in
    ((row-more old more r all.0, rest.0), rw (message-more old more r all.0, rest.1) refl)

-- ---- a decoded row

-- the forms of the UTF-8 are the UTF-8 of the forms
pieces-utf8_in : (e : Encoding) (bytes : List ℕ)
    → pieces_of (utf8_in e bytes) ≡ map (utf8_in e) (pieces_of bytes)
unfolding pieces_of
pieces-utf8_in e bytes = slice_split-utf8_in e bytes

-- the forms of bytes are bytes
pieces-bytes : (bytes : List ℕ) → AreBytes bytes → AllByRecursion AreBytes (pieces_of bytes)
unfolding pieces_of
pieces-bytes bytes h = AreBytes-slice_split bytes h

-- valid forms are UTF-8 once they are decoded, and are the same texts
pub pieces_decoded : (e : Encoding) (pieces : List (List ℕ)) → AllByRecursion AreBytes pieces
    → list_all (is_valid e) pieces ≡ true
    → (list_all is_utf8 (map (utf8_in e) pieces) ≡ true)
    × (map chars (map (utf8_in e) pieces) ≡ map (text_in e) pieces)
pieces_decoded e [] bytes valid = (refl, refl)
pieces_decoded e (p ∷ pieces) bytes valid =
    let both = and_parts (is_valid e p) (list_all (is_valid e) pieces) valid in
    let rest = pieces_decoded e pieces bytes.1 both.1 in (
      rw (is_utf8-utf8_in e p bytes.0 both.0) rest.0,
      rw (chars-utf8_in e p bytes.0 both.0, rest.1)
          refl,
    )

module _ (b : List ℕ) (e : Encoding) (r : Row) (old new : List ℕ) (d : Row) (bytes : AreBytes b)
    (h : IsRowIn b e r) (x : DecodesRow b e r old new d) where
  -- the key of the row in UTF-8
  abbrev key : List ℕ
  key = utf8_in e (key_bytes b r)

  -- its forms in UTF-8
  abbrev forms : List ℕ
  forms = utf8_in e (bytes_at b r.forms)

  -- the buffer grows by both
  total : length new ≡ length old + (length key + length forms)
  total = ap length x.texts ∙ length-append old (key ++ forms)
      ∙ ap (λ (n : ℕ). length old + n) (length-append key forms)

  -- the new row has the key
  key_is : key_bytes new d ≡ key
  unfolding key_bytes
  key_is =
      let size : d.key.end - d.key.start ≡ length key = omega (arith, x.key_start, x.key_end) in
      rw (size, x.key_start, x.texts, drop-append_seam old (key ++ forms))
      (take-append_seam key forms)

  -- and the forms
  forms_are : form_bytes new d ≡ pieces_of forms
  unfolding form_bytes
  forms_are =
      let start : d.forms.start ≡ length (old ++ key) =
      omega (arith, x.forms_start, x.key_end, length-append old key) in
      let size : d.forms.end - d.forms.start ≡ length forms =
      omega (arith, x.forms_end, x.forms_start, x.key_end, total) in
      let whole : new ≡ (old ++ key) ++ forms = x.texts ∙ sym (append_assoc old key forms) in
      rw (size, start, whole, drop-append_seam (old ++ key) forms)
      (ap pieces_of (take_all (length forms) forms (omega arith)))

  -- the forms of the new row are UTF-8, and the texts of the row
  decoded_forms : (list_all is_utf8 (form_bytes new d) ≡ true)
      × (map chars (form_bytes new d) ≡ map (text_in e) (form_bytes b r))
  unfolding form_bytes
  decoded_forms =
      let pieces = pieces_decoded e (pieces_of (bytes_at b r.forms))
      (pieces-bytes (bytes_at b r.forms)
      (AreBytes-range (r.forms.end - r.forms.start) r.forms.start b bytes)) h.forms in
      let same : form_bytes new d ≡ map (utf8_in e) (pieces_of (bytes_at b r.forms)) = forms_are
      ∙ pieces-utf8_in e (bytes_at b r.forms) in
      (rw same pieces.0, rw same pieces.1)

  -- the key of the row is bytes
  key_bytes-bytes : AreBytes (key_bytes b r)
  unfolding key_bytes
  key_bytes-bytes = AreBytes-range (r.key.end - r.key.start) r.key.start b bytes

  -- the new row fits the new buffer
  pub decoded_fits : IsRowOf new d
  decoded_fits = record {
    key_inside = record {
      ordered = omega (arith, x.key_start, x.key_end);
      inside = omega (arith, x.key_end, total);
    };
    key = rw key_is (is_utf8-utf8_in e (key_bytes b r) key_bytes-bytes h.key);
    forms_inside = record {
      ordered = omega (arith, x.forms_start, x.key_end, x.forms_end, total);
      inside = omega (arith, x.forms_end);
    };
    forms = decoded_forms.0;
  }

  -- and is the message of the row
  pub decoded_is : message_at new d ≡ decoded_message b e r
  unfolding message_at decoded_message
  decoded_is =
      rw (key_is, chars-utf8_in e (key_bytes b r) key_bytes-bytes h.key, decoded_forms.1) refl

-- texts that are appended key first decode the row
pub row_pushed : (b : List ℕ) (e : Encoding) (r : Row) (old middle new : List ℕ) (d : Row)
    → middle ≡ old ++ utf8_in e (bytes_at b r.key) → new ≡ middle ++ utf8_in e (bytes_at b r.forms)
    → d.key.start ≡ length old → d.key.end ≡ length middle → d.forms.start ≡ d.key.end
    → d.forms.end ≡ length new → DecodesRow b e r old new d
unfolding key_bytes
row_pushed b e r old middle new d first second s m f l = record {
  texts = second ∙ ap (λ (xs : List ℕ). xs ++ utf8_in e (bytes_at b r.forms)) first
      ∙ append_assoc old (utf8_in e (bytes_at b r.key)) (utf8_in e (bytes_at b r.forms));
  key_start = s;
  key_end = m ∙ ap length first ∙ length-append old (utf8_in e (bytes_at b r.key));
  forms_start = f;
  forms_end = l;
}

-- ---- row by row

-- some rows are decoded, and what they say with what is left says the whole
pub record IsDecoding (b : List ℕ) (first later : Encoding) (rows : List Row) (texts : List ℕ)
    (decoded : List Row) (e : Encoding) (left : List Row) : Type 0 where
  pub left_fit : AreRowsIn b e later left
  pub fit : AllByRecursion (IsRowOf texts) decoded
  pub messages : map (message_at texts) decoded ++ decoded_messages b e later left
      ≡ decoded_messages b first later rows

-- a row more is decoded
pub row_decoded : (b : List ℕ) (first later : Encoding) (rows : List Row) (texts new : List ℕ)
    (decoded : List Row) (e : Encoding) (r d : Row) (left : List Row) → AreBytes b
    → IsDecoding b first later rows texts decoded e (r ∷ left) → DecodesRow b e r texts new d
    → IsDecoding b first later rows new (decoded ++ d ∷ []) later left
row_decoded b first later rows texts new decoded e r d left bytes h x =
    let before =
    rows-more texts (utf8_in e (key_bytes b r) ++ utf8_in e (bytes_at b r.forms)) decoded h.fit in
    let fits : AllByRecursion (IsRowOf new) decoded = rw x.texts before.0 in
    let same : map (message_at new) decoded ≡ map (message_at texts) decoded =
    rw x.texts before.1 in
    let this = decoded_is b e r texts new d bytes h.left_fit.0 x in
    record {
      left_fit = h.left_fit.1;
      fit = AllByRecursion-push (IsRowOf new) decoded d fits
          (decoded_fits b e r texts new d bytes h.left_fit.0 x);
      messages = rw (map-append (message_at new) decoded (d ∷ []), same, this)
          (append_assoc (map (message_at texts) decoded) (decoded_message b e r ∷ [])
          (decoded_messages b later later left) ∙ h.messages);
    }

-- behind the last row all are
pub all_decoded : (b : List ℕ) (first later : Encoding) (rows : List Row) (texts : List ℕ)
    (decoded : List Row) (e : Encoding) (left : List Row) → left ≡ []
    → IsDecoding b first later rows texts decoded e left → Decodes b first later rows texts decoded
all_decoded b first later rows texts decoded e left none h =
    let h' = rw none at h in
    record {
      fit = h.fit;
      messages = sym (append-nil (map (message_at texts) decoded)) ∙ h'.messages;
    }
