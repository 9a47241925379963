-- The members of objects, as readers have taken them out.
use Rattle.std.specs.Prelude.{◌≡◌, codes, Option, option_map, true, Ok}
use Rattle.serde_json.specs.Data.{Data, Members, object}
use Rattle.serde_json.specs.Find.{get_member}
use Rattle.serde_json.specs.View.{view}
use Rattle.localise_document.specs.Bundles.{bundle_names}
use Rattle.localise_document.specs.Document.{document_names}
use Rattle.localise_document.specs.Members.{has_only}
use Rattle.localise_document.specs.Names.{fallback_names, registry_names}
use Rattle.localise_document.specs.Requests.{request_names}
use Rattle.localise_document.specs.Tables.{section_of}
use Rattle.localise_document.specs.declared.bundles.BundleMembers.{BundleMembers}
use Rattle.localise_document.specs.declared.document.DocumentMembers.{DocumentMembers}
use Rattle.localise_document.specs.declared.place.Section.TheVariants.{Registry, Fallback}
use Rattle.localise_document.specs.declared.requests.RequestMembers.{RequestMembers}
use Rattle.localise_document.specs.declared.tables.FallbackMembers.{FallbackMembers}
use Rattle.localise_document.specs.declared.tables.RegistryMembers.{RegistryMembers}

-- the value is an object of a bundle's members, and these are they
pub record IsBundleObject (d : Data) (taken : BundleMembers) : Type 0 where
  pub members : Members
  pub is_object : d ≡ object members
  pub known : has_only bundle_names members ≡ true
  pub tag : option_map view taken.tag ≡ get_member (codes "tag") members
  pub mo : option_map view taken.mo ≡ get_member (codes "mo") members
  pub list : option_map view taken.list ≡ get_member (codes "list") members

-- the value is an object of a request's members, and these are they
pub record IsRequestObject (d : Data) (taken : RequestMembers) : Type 0 where
  pub members : Members
  pub is_object : d ≡ object members
  pub known : has_only request_names members ≡ true
  pub tag : option_map view taken.tag ≡ get_member (codes "tag") members
  pub context : option_map view taken.context ≡ get_member (codes "context") members
  pub singular : option_map view taken.singular ≡ get_member (codes "singular") members
  pub plural : option_map view taken.plural ≡ get_member (codes "plural") members
  pub count : option_map view taken.count ≡ get_member (codes "count") members
  pub placeholder : option_map view taken.placeholder ≡ get_member (codes "placeholder") members
  pub items : option_map view taken.items ≡ get_member (codes "items") members

-- these are the members by the names of the registry's tables
pub record HasRegistryMembers (members : Members) (taken : RegistryMembers) : Type 0 where
  pub languages : option_map view taken.languages ≡ get_member (codes "languages") members
  pub languages_preferred :
      option_map view taken.languages_preferred ≡ get_member (codes "languages_preferred") members
  pub languages_suppress_script :
      option_map view taken.languages_suppress_script
      ≡ get_member (codes "languages_suppress_script") members
  pub extlangs : option_map view taken.extlangs ≡ get_member (codes "extlangs") members
  pub extlangs_preferred : option_map view taken.extlangs_preferred
      ≡ get_member (codes "extlangs_preferred") members
  pub scripts : option_map view taken.scripts ≡ get_member (codes "scripts") members
  pub scripts_preferred : option_map view taken.scripts_preferred
      ≡ get_member (codes "scripts_preferred") members
  pub regions : option_map view taken.regions ≡ get_member (codes "regions") members
  pub regions_preferred : option_map view taken.regions_preferred
      ≡ get_member (codes "regions_preferred") members
  pub variants : option_map view taken.variants ≡ get_member (codes "variants") members
  pub variants_preferred : option_map view taken.variants_preferred
      ≡ get_member (codes "variants_preferred") members
  pub grandfathereds_preferred :
      option_map view taken.grandfathereds_preferred
      ≡ get_member (codes "grandfathereds_preferred") members
  pub redundants_preferred :
      option_map view taken.redundants_preferred ≡ get_member (codes "redundants_preferred") members

-- these are the members by the names of the tables of fallback
pub record HasFallbackMembers (members : Members) (taken : FallbackMembers) : Type 0 where
  pub likely_language : option_map view taken.likely_language
      ≡ get_member (codes "likely_language") members
  pub likely_language_script :
      option_map view taken.likely_language_script
      ≡ get_member (codes "likely_language_script") members
  pub likely_language_region :
      option_map view taken.likely_language_region
      ≡ get_member (codes "likely_language_region") members
  pub parents : option_map view taken.parents ≡ get_member (codes "parents") members

-- the section has the members of a registry, and these are they
pub record IsRegistrySection (section : Option Data) (taken : RegistryMembers) : Type 0 where
  pub members : Members
  pub read : section_of Registry registry_names section ≡ Ok members
  pub has : HasRegistryMembers members taken

-- the section has the members of fallback, and these are they
pub record IsFallbackSection (section : Option Data) (taken : FallbackMembers) : Type 0 where
  pub members : Members
  pub read : section_of Fallback fallback_names section ≡ Ok members
  pub has : HasFallbackMembers members taken

-- the value is an object of a document's members, and these are they
pub record IsDocumentObject (d : Data) (taken : DocumentMembers) : Type 0 where
  pub members : Members
  pub is_object : d ≡ object members
  pub known : has_only document_names members ≡ true
  pub registry : option_map view taken.registry ≡ get_member (codes "registry") members
  pub fallback : option_map view taken.fallback ≡ get_member (codes "fallback") members
  pub bundles : option_map view taken.bundles ≡ get_member (codes "bundles") members
  pub root : option_map view taken.root ≡ get_member (codes "root") members
  pub requests : option_map view taken.requests ≡ get_member (codes "requests") members
