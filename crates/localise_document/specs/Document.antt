-- The document: which JSON values (RFC 8259) are one, what it says, and where a value that is none
-- is misshapen first.
use Rattle.std.specs.Prelude.{◌≡◌, ℕ, List, [], ◌∷◌, codes, map, Option, Some, None, Result, Ok}
use Rattle.std.specs.Prelude.{Err, ok_or, if◌then◌else◌}
use Rattle.std.specs.Str.{is_utf8}
use Rattle.localise_texts.specs.declared.patterns.PatternTexts.{PatternTexts}
use Rattle.serde_json.specs.Data.{Data, Members}
use Rattle.serde_json.specs.Find.{as_object, get_member}
use Rattle.serde_json.specs.Read.{read}
use Rattle.localise_document.specs.Bundles.{bundle_of, bundle_with}
use Rattle.localise_document.specs.Contents.{Contents}
use Rattle.localise_document.specs.Patterns.{default_patterns, patterns_of}
use Rattle.localise_document.specs.Requests.{request_of}
use Rattle.localise_document.specs.Shape.{◌>>=◌, members_in, needed_list, place_of}
use Rattle.localise_document.specs.Tables.{fallback_of, registry_of}
use Rattle.localise_document.specs.declared.error.DocumentError.{DocumentError}
use Rattle.localise_document.specs.declared.error.DocumentError.TheVariants.{NotJson, Shape}
use Rattle.localise_document.specs.declared.error.DocumentError.TheVariants.{NoMemory}
use Rattle.localise_document.specs.declared.place.Field.TheVariants.{Whole, Unknown}
use Rattle.localise_document.specs.declared.place.Field.TheVariants as fields
use Rattle.localise_document.specs.declared.place.Section.TheVariants.{Document, Bundles, Root}
use Rattle.localise_document.specs.declared.place.Section.TheVariants.{Requests}
use Rattle.localise_document.specs.declared.place.ShapePlace.{ShapePlace}

-- the root's patterns
abbrev pub root_of : Option Data → Result PatternTexts ShapePlace
root_of None = Ok default_patterns
root_of (Some d) = do
  object ← ok_or (as_object d) (place_of Root Whole)
  ok_or (patterns_of d) (place_of Root fields.List)

-- the names of a document's members
abbrev pub document_names : List (List ℕ)
document_names =
    codes "bundles" ∷ codes "fallback" ∷ codes "registry" ∷ codes "requests" ∷ codes "root" ∷ []

-- The sections in the order in which they are looked at. A bundle without patterns has the root's,
-- but is misshapen before it.
unfoldable pub document_in : Members → Result Contents ShapePlace
document_in ms = do
  registry ← registry_of (get_member (codes "registry") ms)
  fallback ← fallback_of (get_member (codes "fallback") ms)
  bundles ← needed_list bundle_of Bundles (get_member (codes "bundles") ms)
  root ← root_of (get_member (codes "root") ms)
  requests ← needed_list request_of Requests (get_member (codes "requests") ms)
  Ok
      (record {
        registry = registry;
        fallback = fallback;
        bundles = map (bundle_with root) bundles;
        root = root;
        requests = requests;
      })

-- the document that a value is, or its first misshapen place
unfoldable pub document_of : Data → Result Contents ShapePlace
document_of d = do
  ms ← members_in document_names (place_of Document Whole) (place_of Document Unknown) d
  document_in ms

-- ---- bytes

-- the bytes are UTF-8, and as JSON they have this value
unfoldable pub json_of : List ℕ → Option Data
json_of bytes = if is_utf8 bytes then read bytes else None

-- the bytes are JSON of a document that says this
pub record IsDocument (bytes : List ℕ) (d : Contents) : Type 0 where
  pub value : Data
  pub json : json_of bytes ≡ Some value
  pub says : document_of value ≡ Ok d

-- the bytes are JSON of a value that is no document, and this is its first misshapen place
pub record IsMisshapen (bytes : List ℕ) (place : ShapePlace) : Type 0 where
  pub value : Data
  pub json : json_of bytes ≡ Some value
  pub first : document_of value ≡ Err place

-- Why bytes are no document: they are no JSON, or it is misshapen. Want of memory is no fault of
-- theirs.
abbrev pub IsDocumentFault : List ℕ → DocumentError → Type 0
IsDocumentFault bytes NotJson = json_of bytes ≡ None
IsDocumentFault bytes (Shape place) = IsMisshapen bytes place
IsDocumentFault bytes NoMemory = ⊥
