-- What a document is, as plain facts: which member is which, and what stands for an absent one.
use Rattle.std.specs.Prelude.{◌≡◌, ℕ, ◌⊎◌, List, [], ◌∷◌, codes, true, Option, Some, None}
use Rattle.localise_texts.specs.declared.bundle.BundleText.{BundleText}
use Rattle.localise_texts.specs.declared.patterns.PatternTexts.{PatternTexts}
use Rattle.localise_texts.specs.declared.request.Request.{Request}
use Rattle.serde_json.specs.Data.{Data, array, object, Items, no_items, item, Members, no_members}
use Rattle.serde_json.specs.Events.{items_len}
use Rattle.serde_json.specs.Find.{get_item, get_member}
use Rattle.writeable_core.specs.declared.text.TextRow.{TextRow}
use Rattle.localise_document.specs.Bundles.{bundle_names}
use Rattle.localise_document.specs.Contents.{Contents}
use Rattle.localise_document.specs.Document.{document_names}
use Rattle.localise_document.specs.Hex.{bytes_of}
use Rattle.localise_document.specs.Members.{has_only}
use Rattle.localise_document.specs.Names.{fallback_names, registry_names}
use Rattle.localise_document.specs.Patterns.{default_patterns, patterns_of}
use Rattle.localise_document.specs.Requests.{request_names}
use Rattle.localise_document.specs.Shape.{count_of, text_list_of, text_of}
use Rattle.localise_document.specs.Tables.{cell_of}

-- the value is an object of these members, which have no other names than these
pub record IsObject (names : List (List ℕ)) (d : Data) (members : Members) : Type 0 where
  pub is_object : d ≡ object members
  pub known : has_only names members ≡ true

-- the member is there, and says this
pub record Has {A : Type 0} (f : Data → Option A) (member : Option Data) (said : A) : Type 0 where
  pub value : Data
  pub there : member ≡ Some value
  pub says : f value ≡ Some said

-- the member says this, or it is absent
abbrev pub MayHave : {A : Type 0} → (Data → Option A) → Option Data → Option A → Type 0
MayHave f member None = member ≡ None
MayHave f member (Some said) = Has f member said

-- the member says this, or it is absent and this stands in its place
abbrev pub HasOr : {A : Type 0} → A → (Data → Option A) → Option Data → A → Type 0
HasOr absent f member said = ((member ≡ None) × (said ≡ absent)) ⊎ Has f member said

-- each item is the row in its place
abbrev pub AreRows : {A : Type 0} → (Data → A → Type 0) → Items → List A → Type 0
AreRows IsRow no_items [] = Unit {0}
AreRows IsRow no_items (row ∷ rows) = ⊥
AreRows IsRow (item d ds) [] = ⊥
AreRows IsRow (item d ds) (row ∷ rows) = IsRow d row × AreRows IsRow ds rows

-- the member is a list of these rows
pub record IsListOf {A : Type 0} (IsRow : Data → A → Type 0) (member : Option Data)
    (rows : List A) : Type 0 where
  pub items : Items
  pub is_list : member ≡ Some (array items)
  pub are : AreRows IsRow items rows

-- a request has a tag, the words for one and for more, and a count; context, placeholder and items
-- may be absent
pub record IsRequest (d : Data) (q : Request) : Type 0 where
  pub members : Members
  pub has : IsObject request_names d members
  pub tag : Has text_of (get_member (codes "tag") members) q.tag
  pub context : MayHave text_of (get_member (codes "context") members) q.context
  pub singular : Has text_of (get_member (codes "singular") members) q.singular
  pub plural : Has text_of (get_member (codes "plural") members) q.plural
  pub count : Has count_of (get_member (codes "count") members) q.count
  pub placeholder : HasOr [] text_of (get_member (codes "placeholder") members) q.placeholder
  pub items : HasOr [] text_list_of (get_member (codes "items") members) q.items

-- a bundle has a tag and the bytes of its MO file; without patterns it has the root's
pub record IsBundle (root : PatternTexts) (d : Data) (b : BundleText) : Type 0 where
  pub members : Members
  pub has : IsObject bundle_names d members
  pub tag : Has text_of (get_member (codes "tag") members) b.tag
  pub mo : Has bytes_of (get_member (codes "mo") members) b.mo
  pub list : HasOr root patterns_of (get_member (codes "list") members) b.list

-- a row of a table is a list of exactly so many texts, up to three
pub record IsTableRow (cells : ℕ) (d : Data) (row : TextRow) : Type 0 where
  pub items : Items
  pub is_list : d ≡ array items
  pub count : items_len items ≡ cells
  pub first : cell_of (get_item 0 items) ≡ Some row.first
  pub second : cell_of (get_item 1 items) ≡ Some row.second
  pub third : cell_of (get_item 2 items) ≡ Some row.third

-- a table, which is empty where it is absent
abbrev pub IsTable : ℕ → Option Data → List TextRow → Type 0
IsTable cells member rows =
    ((member ≡ None) × (rows ≡ [])) ⊎ IsListOf (IsTableRow cells) member rows

-- tables by their names, of so many cells
abbrev pub AreTables : List (List ℕ × ℕ) → Members → List (List TextRow) → Type 0
AreTables [] ms [] = Unit {0}
AreTables [] ms (rows ∷ lists) = ⊥
AreTables (t ∷ ts) ms [] = ⊥
AreTables (t ∷ ts) ms (rows ∷ lists) =
    IsTable t.1 (get_member t.0 ms) rows × AreTables ts ms lists

-- a section of tables, which has no members where it is absent
abbrev pub IsSection : List (List ℕ) → Option Data → Members → Type 0
IsSection names section members =
    ((section ≡ None) × (members ≡ no_members))
    ⊎ ((d : Data) × (section ≡ Some d) × IsObject names d members)

-- the registry's tables, with their numbers of cells
abbrev pub registry_cells : List (List ℕ × ℕ)
registry_cells =
    (codes "languages", 1) ∷ (codes "languages_preferred", 2)
    ∷ (codes "languages_suppress_script", 2) ∷ (codes "extlangs", 2)
    ∷ (codes "extlangs_preferred", 2)
    ∷ (codes "scripts", 1) ∷ (codes "scripts_preferred", 2) ∷ (codes "regions", 1)
    ∷ (codes "regions_preferred", 2) ∷ (codes "variants", 2) ∷ (codes "variants_preferred", 2)
    ∷ (codes "grandfathereds_preferred", 2) ∷ (codes "redundants_preferred", 2) ∷ []

-- the tables of fallback, with their numbers of cells
abbrev pub fallback_cells : List (List ℕ × ℕ)
fallback_cells =
    (codes "likely_language", 3) ∷ (codes "likely_language_script", 3)
    ∷ (codes "likely_language_region", 3) ∷ (codes "parents", 2) ∷ []

-- these are the tables of a section
pub record AreTablesOf (names : List (List ℕ)) (cells : List (List ℕ × ℕ)) (section : Option Data)
    (lists : List (List TextRow)) : Type 0 where
  pub members : Members
  pub has : IsSection names section members
  pub are : AreTables cells members lists

-- The value is a document that says this.
pub record IsDocumentValue (d : Data) (says : Contents) : Type 0 where
  pub members : Members
  pub has : IsObject document_names d members
  pub registry :
      AreTablesOf registry_names registry_cells
      (get_member (codes "registry") members) says.registry
  pub fallback :
      AreTablesOf fallback_names fallback_cells
      (get_member (codes "fallback") members) says.fallback
  pub bundles : IsListOf (IsBundle says.root) (get_member (codes "bundles") members) says.bundles
  pub root : HasOr default_patterns patterns_of (get_member (codes "root") members) says.root
  pub requests : IsListOf IsRequest (get_member (codes "requests") members) says.requests
