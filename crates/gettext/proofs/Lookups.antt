-- Look-ups by the bytes of a key and by its characters.
use Rattle.std.proofs.Common.{◌≡◌, ℕ, zero, suc, ◌+◌, ◌-◌, ◌≤◌, Bool, true, false, cond, ◌&&◌, List}
use Rattle.std.proofs.Common.{[], ◌∷◌, length, take, drop, map, Option, Some, None, refl, sym, ap}
use Rattle.std.proofs.Common.{subst, ◌∙◌, arith, lit<}
use Rattle.std.proofs.lemmas.Option.{slice_get-map}
use Rattle.std.specs.Option.{option_or, option_map}
use Rattle.std.specs.List.{slice_get, list_all, AllByRecursion}
use Rattle.std.specs.Prelude.{encode_utf8_all, IfSome}
use Rattle.std.specs.Borrow.{Bor}
use Rattle.std.specs.Str.{chars, is_utf8, IsUtf8}
use Rattle.std.proofs.lemmas.Bool.Decides.{same_from_decides}
use Rattle.std.proofs.lemmas.Slice.Eq.{bytes_eq-Decides}
use Rattle.std.proofs.lemmas.List.{length-map, length-take, take-take, drop-take, drop-drop}
use Rattle.std.proofs.lemmas.Str.{encode_ascii, encodes-append, encodes-chars, encodes_same}
use Rattle.std.proofs.lemmas.Str.{IsUtf8-from_is_utf8}
use Rattle.gettext.specs.declared.spans.Row.{Row}
use Rattle.gettext.specs.declared.plurals.rule.PluralRule.{PluralRule}
use Rattle.gettext.specs.Optional.{◌>>=◌}
use Rattle.writeable_core.specs.Texts.{same_text}
use Rattle.gettext.specs.Messages.{Messages, StandsFor, key_of, lookup, numbered, count_of_forms}
use Rattle.gettext.specs.Table.{bytes_at, key_bytes, form_bytes, message_at, row_for, IsRowOf, held}
use Rattle.gettext.specs.Table.{messages_of, IsRangeOf, IsPieceSpan}

-- what all elements pass, the one at a place passes
pub list_all-slice_get : {X : Type 0} (p : X → Bool) (xs : List X) (i : ℕ) (x : X)
    → list_all p xs ≡ true → slice_get xs i ≡ Some x → p x ≡ true
list_all-slice_get p [] i x all at = absurd cc
list_all-slice_get p (y ∷ ys) zero x all at = let same : y ≡ x = cc in
    rw (← same) (both (p y) (list_all p ys) all).0 where
      both : (a b : Bool) → (a && b) ≡ true → (a ≡ true) × (b ≡ true)
      both true b e = (refl, e)
      both false b e = absurd cc
list_all-slice_get p (y ∷ ys) (suc i) x all at =
    list_all-slice_get p ys i x (both (p y) (list_all p ys) all) at where
      both : (a b : Bool) → (a && b) ≡ true → b ≡ true
      both true b e = e
      both false b e = absurd cc

-- a text of UTF-8 has the characters of a key exactly where it has the bytes that spell them
same_text-chars : (bytes key : List ℕ) → IsUtf8 bytes
    → same_text (chars bytes) key ≡ same_text bytes (encode_utf8_all key)
same_text-chars bytes key u =
    same_from_decides (same_text (chars bytes) key) (same_text bytes (encode_utf8_all key))
    (bytes_eq-Decides (chars bytes) key) (
      (λ e. encodes_same (chars bytes) key
          (encodes-chars bytes u ∙ (bytes_eq-Decides bytes (encode_utf8_all key)).0 e)),
      (λ e. (bytes_eq-Decides bytes (encode_utf8_all key)).1
          (sym (encodes-chars bytes u) ∙ ap encode_utf8_all e)),
    )

-- a look-up among messages is one among their rows
pub lookup-messages : (b : List ℕ) (rows : List Row) (key : List ℕ)
    → AllByRecursion (IsRowOf b) rows
    → lookup (map (message_at b) rows) key
    ≡ option_map (message_at b) (row_for b rows (encode_utf8_all key))
unfolding message_at
lookup-messages b [] key all = refl
lookup-messages b (r ∷ rows) key all =
    rw (
      lookup-messages b rows key all.1,
      same_text-chars (key_bytes b r) key
          (IsUtf8-from_is_utf8 (key_bytes b r) all.0.key),
    )
    (chosen (row_for b rows (encode_utf8_all key))
    (same_text (key_bytes b r) (encode_utf8_all key))) where
      chosen : (o : Option Row) (t : Bool)
          → option_or (option_map (message_at b) o) (cond t (Some (message_at b r)) None)
          ≡ option_map (message_at b) (option_or o (cond t (Some r) None))
      chosen (Some x) t = refl
      chosen None true = refl
      chosen None false = refl

-- ---- the key that is looked for

-- the key that is asked for, in UTF-8, is made of the bytes that are asked for
pub encodes-key : (context : Option (Bor (List ℕ))) (id : List ℕ)
    → IfSome context (λ s. IsUtf8 s.now) → IsUtf8 id
    → encode_utf8_all (key_of (option_map (λ s. chars s.now) context) (chars id))
    ≡ key_of (option_map (λ s. s.now) context) id
encodes-key None id c u = encodes-chars id u
encodes-key (Some context) id c u =
    rw (
      encodes-append (chars context.now) (4 ∷ chars id),
      encodes-chars context.now c,
      encodes-chars id u,
      encode_ascii 4 (lit< tt),
    ) refl

-- ---- the form of a message

-- a row that is found fits
pub row_for-fits : (b : List ℕ) (rows : List Row) (q : List ℕ) (r : Row)
    → AllByRecursion (IsRowOf b) rows → row_for b rows q ≡ Some r → IsRowOf b r
row_for-fits b [] q r all at = absurd cc
row_for-fits b (x ∷ rows) q r all at =
    either (row_for b rows q) (same_text (key_bytes b x) q) (row_for-fits b rows q r all.1) at where
      either : (o : Option Row) (t : Bool) → (o ≡ Some r → IsRowOf b r)
          → option_or o (cond t (Some x) None) ≡ Some r → IsRowOf b r
      either (Some y) t rest e = rest e
      either None true rest e = let same : x ≡ r = cc in subst (λ (y : Row). IsRowOf b y) same all.0
      either None false rest e = absurd cc

-- so it does if one is found
pub if_fits : (b : List ℕ) (rows : List Row) (q : List ℕ) (o : Option Row)
    → AllByRecursion (IsRowOf b) rows → o ≡ row_for b rows q → IfSome o (IsRowOf b)
if_fits b rows q None all at = tt
if_fits b rows q (Some r) all at = row_for-fits b rows q r all (sym at)

-- a form as its number and the characters of its bytes
abbrev pub numbered_text : ℕ → List ℕ → ℕ × List ℕ
numbered_text number bytes = (number, chars bytes)

module _ (b : List ℕ) (rows : List Row) (rule : PluralRule) (key : List ℕ) (number : ℕ)
    (all : AllByRecursion (IsRowOf b) rows) where
  -- without a row there is no form
  pub numbered-absent : row_for b rows (encode_utf8_all key) ≡ None
      → numbered (messages_of (held b rows rule)) key number ≡ None
  unfolding numbered held
  numbered-absent none = rw (lookup-messages b rows key all, none) refl

  -- the form of a number is that of the row
  pub numbered-found : (r : Row) → row_for b rows (encode_utf8_all key) ≡ Some r
      → numbered (messages_of (held b rows rule)) key number
      ≡ option_map (numbered_text number) (slice_get (form_bytes b r) number)
  unfolding numbered held message_at
  numbered-found r found =
      rw (lookup-messages b rows key all, found, slice_get-map chars (form_bytes b r) number)
      (shown (slice_get (form_bytes b r) number)) where
        shown : (o : Option (List ℕ))
            → (option_map chars o >>= λ text. Some (number, text))
            ≡ option_map (numbered_text number) o
        shown None = refl
        shown (Some t) = refl

-- what a search by bytes says of the key's characters
pub looked_up : (b b' : List ℕ) (rows rows' : List Row) (context bytes : Option (Bor (List ℕ)))
    (id id' : List ℕ) (o : Option Row) → b' ≡ b → rows' ≡ rows
    → option_map (λ s. s.now) bytes ≡ option_map (λ s. s.now) context → id' ≡ id
    → IfSome context (λ s. IsUtf8 s.now) → IsUtf8 id
    → o ≡ row_for b' rows' (key_of (option_map (λ s. s.now) bytes) id')
    → row_for b rows (encode_utf8_all (key_of (option_map (λ s. chars s.now) context) (chars id)))
    ≡ o
looked_up b b' rows rows' context bytes id id' o eb er ec ei c u found =
    rw (encodes-key context id c u, ← eb, ← er, ← ec, ← ei) (sym found)

-- a form is shown by its characters
pub shown_text : (number : ℕ) (o : Option (Bor (List ℕ)))
    → option_map (λ text. (number, chars text.now)) o
    ≡ option_map (numbered_text number) (option_map (λ text. text.now) o)
shown_text number None = refl
shown_text number (Some t) = refl

-- ---- what a look-up gives

module _ (b : List ℕ) (rows : List Row) (rule : PluralRule) (key : List ℕ)
    (all : AllByRecursion (IsRowOf b) rows) where
  -- without a row there is no number of forms
  pub no_count : None ≡ row_for b rows (encode_utf8_all key)
      → None ≡ count_of_forms (messages_of (held b rows rule)) key
  unfolding held
  no_count none = rw (lookup-messages b rows key all, ← none) refl

  -- a row has so many forms as its message
  pub counted : (r : Row) → Some r ≡ row_for b rows (encode_utf8_all key)
      → Some (length (form_bytes b r)) ≡ count_of_forms (messages_of (held b rows rule)) key
  unfolding held message_at
  counted r found = rw (lookup-messages b rows key all, ← found, length-map) refl

  -- without a row there is no range
  pub no_range : (number : ℕ) → None ≡ row_for b rows (encode_utf8_all key)
      → IsRangeOf b None (numbered (messages_of (held b rows rule)) key number)
  no_range number none = rw (numbered-absent b rows rule key number all (sym none)) tt

  -- nor without the form
  pub no_piece : (number : ℕ) (r : Row) → Some r ≡ row_for b rows (encode_utf8_all key)
      → slice_get (form_bytes b r) number ≡ None
      → IsRangeOf b None (numbered (messages_of (held b rows rule)) key number)
  no_piece number r found none =
      rw (numbered-found b rows rule key number all r (sym found), none) tt

  -- the place of a form in the buffer
  pub ranged : (number : ℕ) (r : Row) (s e : ℕ) → Some r ≡ row_for b rows (encode_utf8_all key)
      → IsRowOf b r
      → IsPieceSpan (bytes_at b r.forms) (Some (s, e)) (slice_get (form_bytes b r) number)
      → IsRangeOf b (Some (r.forms.start + s, r.forms.start + e))
      (numbered (messages_of (held b rows rule)) key number)
  ranged number r s e found fits piece =
      let start : ℕ = r.forms.start in
      let size : ℕ = r.forms.end - start in
      let long : e ≤ size = omega (arith, piece.1, length-take size (drop start b)) in
      let span : start + e - (start + s) ≡ e - s = omega arith in
      let cut : drop s (take (s + (size - s)) (drop start b))
      ≡ take (size - s) (drop s (drop start b)) = drop-take s (size - s) (drop start b) in
      let whole : s + (size - s) ≡ size = omega (arith, piece.0) in
      let inner : take (e - s) (drop s (take size (drop start b)))
      ≡ take (e - s) (drop s (drop start b)) =
      ap (λ (n : ℕ). take (e - s) (drop s (take n (drop start b)))) (sym whole)
      ∙ ap (take (e - s)) cut
      ∙ take-take (e - s) (size - s) (drop s (drop start b)) (omega arith) in
      let same : take (start + e - (start + s)) (drop (start + s) b)
      ≡ take (e - s) (drop s (bytes_at b r.forms)) =
      rw span (ap (take (e - s)) (sym (drop-drop s start b)) ∙ sym inner) in
      let text : IsUtf8 (take (e - s) (drop s (bytes_at b r.forms))) = IsUtf8-from_is_utf8
      _ (list_all-slice_get is_utf8 (form_bytes b r) number _ fits.forms piece.2) in
      rw (numbered-found b rows rule key number all r (sym found), piece.2) (
        omega (arith, piece.0),
        omega (arith, fits.forms_inside.inside, fits.forms_inside.ordered),
        same ∙ sym (encodes-chars _ text),
      )

-- what stands for messages has their form of each number
pub numbered-stands : (kept c : Messages) (key : List ℕ) (number : ℕ) → StandsFor kept c
    → numbered kept key number ≡ numbered c key number
unfolding numbered
numbered-stands kept c key number s = rw (s.lookups key) refl

-- and its range
pub range-stands : (kept c : Messages) (buffer key : List ℕ) (number : ℕ) (r : Option (ℕ × ℕ))
    → StandsFor kept c → IsRangeOf buffer r (numbered kept key number)
    → IsRangeOf buffer r (numbered c key number)
range-stands kept c buffer key number r s h = rw (sym (numbered-stands kept c key number s)) h
