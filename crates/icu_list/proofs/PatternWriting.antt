-- Patterns as JSON objects, from the stored text and its places.
use Rattle.std.proofs.Common.{◌≡◌, ℕ, ◌+◌, ◌-◌, ◌≤◌, List, [], ◌++◌, length, take, drop, Result, Ok}
use Rattle.std.proofs.Common.{Err, IfOk, refl, sym, ap, subst, ◌∙◌, arith, chars, codes}
use Rattle.std.specs.Str.{IsUtf8}
use Rattle.std.proofs.lemmas.Str.{encodes-chars, IsUtf8-take, IsUtf8-between}
use Rattle.std.proofs.lemmas.List.{length-take, length-drop}
use Rattle.serde_json.specs.Data.{Data, object, member, no_members, number, unsigned, string}
use Rattle.serde_json.specs.View.{view}
use Rattle.serde_json.specs.declared.value.Value.{Value}
use Rattle.std.specs.declared.alloc.AllocError.{AllocError}
use Rattle.writeable_core.specs.Hint.{byte_length}
use Rattle.icu_list.specs.Pattern.{IsPlace, pattern_at, texts}
use Rattle.icu_list.specs.PatternJson.{IsOfJson, json_of}
use Rattle.icu_list.proofs.Places.{bytes_of, place_in, texts_are}
use Rattle.icu_list.proofs.Reading.{bytes_before}
use lib.Utf8.{encodes}

-- a text and a place as an object
abbrev pub object_of : List ℕ → ℕ → Data
object_of bytes place =
    object (member (codes "index_1") (number (unsigned place))
    (member (codes "string") (string bytes) no_members))

module _ (text bytes : List ℕ) (i j : ℕ) (utf8 : IsUtf8 bytes) (e : chars bytes ≡ text) (le : i ≤ j)
    (first : IsPlace text i) (second : IsPlace text j) where
  -- the pattern's texts are the stored text
  bytes_are : encodes (texts (pattern_at text i j)) ≡ bytes
  bytes_are =
      ap encodes (texts_are text bytes i j utf8 e le first second) ∙ encodes-chars bytes utf8

  -- the second item stands behind prefix and between
  place_is : byte_length ((pattern_at text i j).prefix ++ (pattern_at text i j).between) ≡ j
  place_is =
      let at_first = place_in text bytes i utf8 e first in
      let at_second = place_in text bytes j utf8 e second in
      let one : IsUtf8 (take i bytes) = IsUtf8-take bytes i utf8 at_first in
      let two : IsUtf8 (take (j - i) (drop i bytes)) =
      IsUtf8-between bytes i j utf8 le at_first at_second in
      let size : length (take i bytes) + length (take (j - i) (drop i bytes)) ≡ j =
      omega (
        arith,
        le,
        at_second.0,
        length-take i bytes,
        length-take (j - i) (drop i bytes),
        length-drop i bytes,
      ) in
      ap (λ (x : List ℕ). byte_length (chars (take i x) ++ chars (take (j - i) (drop i x))))
      (bytes_of text bytes utf8 e)
      ∙ bytes_before (take i bytes) (take (j - i) (drop i bytes)) one two ∙ size

  -- the object of the pattern is that of the stored text
  object_is : object_of bytes j ≡ json_of (pattern_at text i j)
  object_is = rw (bytes_are, place_is) refl

  -- without a prefix the first item stands at the beginning
  at_start : (pattern_at text i j).prefix ≡ [] → i ≡ 0
  at_start none =
      let at_first = place_in text bytes i utf8 e first in
      let front : take i bytes ≡ [] =
      sym (encodes-chars (take i bytes) (IsUtf8-take bytes i utf8 at_first))
      ∙ ap encodes
      (ap (λ (x : List ℕ). chars (take i x)) (sym (bytes_of text bytes utf8 e)) ∙ none) in
      omega (arith, ap length front, length-take i bytes, at_first.0)

  -- a pattern without prefix is the one that its object is read as
  read_back : j ≤ 255 → (pattern_at text i j).prefix ≡ []
      → IsOfJson (object_of bytes j) (pattern_at text i j)
  read_back small none = record {
    text = bytes;
    place = j;
    string_is = refl;
    place_is = refl;
    stored =
        record { small = small; boundary = subst (λ (t : List ℕ). IsPlace t j) (sym e) second };
    pattern_is =
        ap (λ (t : List ℕ). pattern_at t i j) (sym e)
        ∙ ap (λ (n : ℕ). pattern_at (chars bytes) n j) (at_start none);
  }

  -- what is written is the object of the pattern
  pub written : (r : Result Value AllocError) → IfOk r (λ v. view v ≡ object_of bytes j)
      → IfOk r (λ v. view v ≡ json_of (pattern_at text i j))
  written (Ok v) h = h ∙ object_is
  written (Err x) h = tt

  -- what is written is read back
  pub written_back : j ≤ 255 → (pattern_at text i j).prefix ≡ [] → (r : Result Value AllocError)
      → IfOk r (λ v. view v ≡ object_of bytes j)
      → IfOk r (λ v. IsOfJson (view v) (pattern_at text i j))
  written_back small none (Ok v) h =
      subst (λ (d : Data). IsOfJson d (pattern_at text i j)) (sym h) (read_back small none)
  written_back small none (Err x) h = tt
