-- The value that bytes are as JSON.
use Rattle.std.proofs.Common.{◌≡◌, ℕ, List, Bool, true, false, refl, ap, ◌∙◌, cond, Some, None}
use Rattle.std.proofs.lemmas.Str.{is_utf8-from_IsUtf8, IsUtf8-from_is_utf8}
use Rattle.std.specs.Str.{is_utf8, IsUtf8}
use Rattle.serde_json.specs.Data.{Data}
use Rattle.serde_json.specs.Read.{read}
use Rattle.localise_document.specs.Document.{json_of}

-- bytes in UTF-8 are what is read of them
pub json_of_utf8 : (bytes : List ℕ) (value : Data) → IsUtf8 bytes → read bytes ≡ Some value
    → json_of bytes ≡ Some value
unfolding json_of
json_of_utf8 bytes value utf8 is =
    ap (λ b. cond b (read bytes) None) (is_utf8-from_IsUtf8 bytes utf8) ∙ is

-- by whether the bytes are UTF-8
refused : (b : Bool) (bytes : List ℕ) → is_utf8 bytes ≡ b → (IsUtf8 bytes → read bytes ≡ None)
    → cond b (read bytes) None ≡ None
refused true bytes e h = h (IsUtf8-from_is_utf8 bytes e)
refused false bytes e h = refl

-- bytes of which nothing is read are no JSON
pub json_of_refused : (bytes : List ℕ) → (IsUtf8 bytes → read bytes ≡ None) → json_of bytes ≡ None
unfolding json_of
json_of_refused bytes h = refused (is_utf8 bytes) bytes refl h
