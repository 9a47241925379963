-- A request of a document.
use Rattle.std.specs.Prelude.{ℕ, List, [], ◌∷◌, codes, Result, Ok}
use Rattle.localise_texts.specs.declared.request.Request.{Request}
use Rattle.serde_json.specs.Data.{Data, Members}
use Rattle.serde_json.specs.Find.{get_member}
use Rattle.localise_document.specs.Shape.{◌>>=◌, count_of, members_in, needed, optional}
use Rattle.localise_document.specs.Shape.{optional_or, text_list_of, text_of}
use Rattle.localise_document.specs.declared.place.Field.{Field}
use Rattle.localise_document.specs.declared.place.Field.TheVariants.{Whole, Unknown, Tag, Context}
use Rattle.localise_document.specs.declared.place.Field.TheVariants.{Singular, Plural, Count}
use Rattle.localise_document.specs.declared.place.Field.TheVariants.{Placeholder, Items}

-- the names of a request's members
abbrev pub request_names : List (List ℕ)
request_names =
    codes "context" ∷ codes "count" ∷ codes "items" ∷ codes "placeholder" ∷ codes "plural"
    ∷ codes "singular" ∷ codes "tag" ∷ []

-- a request has a tag, the words for one and for more, and a count; it may have a context, a
-- placeholder and items
unfoldable pub request_in : Members → Result Request Field
request_in ms = do
  tag ← needed text_of Tag (get_member (codes "tag") ms)
  context ← optional text_of Context (get_member (codes "context") ms)
  singular ← needed text_of Singular (get_member (codes "singular") ms)
  plural ← needed text_of Plural (get_member (codes "plural") ms)
  count ← needed count_of Count (get_member (codes "count") ms)
  placeholder ← optional_or [] text_of Placeholder (get_member (codes "placeholder") ms)
  items ← optional_or [] text_list_of Items (get_member (codes "items") ms)
  Ok
      (record {
        tag = tag;
        context = context;
        singular = singular;
        plural = plural;
        count = count;
        placeholder = placeholder;
        items = items;
      })

-- the request that a value is
unfoldable pub request_of : Data → Result Request Field
request_of d = do
  ms ← members_in request_names Whole Unknown d
  request_in ms
