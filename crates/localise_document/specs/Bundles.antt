-- A bundle of a document.
use Rattle.std.specs.Prelude.{ℕ, List, [], ◌∷◌, codes, Option, Some, None, Result, Ok}
use Rattle.localise_texts.specs.declared.bundle.BundleText.{BundleText}
use Rattle.localise_texts.specs.declared.patterns.PatternTexts.{PatternTexts}
use Rattle.serde_json.specs.Data.{Data, Members}
use Rattle.serde_json.specs.Find.{get_member}
use Rattle.localise_document.specs.Hex.{bytes_of}
use Rattle.localise_document.specs.Patterns.{patterns_of}
use Rattle.localise_document.specs.Shape.{◌>>=◌, members_in, needed, optional, text_of}
use Rattle.localise_document.specs.declared.bundles.BundleParts.{BundleParts}
use Rattle.localise_document.specs.declared.place.Field.{Field}
use Rattle.localise_document.specs.declared.place.Field.TheVariants.{Whole, Unknown, Tag, Mo}
use Rattle.localise_document.specs.declared.place.Field.TheVariants as fields

-- the names of a bundle's members
abbrev pub bundle_names : List (List ℕ)
bundle_names = codes "list" ∷ codes "mo" ∷ codes "tag" ∷ []

-- a bundle has a tag and the bytes of its MO file, and may have patterns
unfoldable pub bundle_in : Members → Result BundleParts Field
bundle_in ms = do
  tag ← needed text_of Tag (get_member (codes "tag") ms)
  mo ← needed bytes_of Mo (get_member (codes "mo") ms)
  list ← optional patterns_of fields.List (get_member (codes "list") ms)
  Ok (record { tag = tag; mo = mo; list = list })

-- the bundle that a value is
unfoldable pub bundle_of : Data → Result BundleParts Field
bundle_of d = do
  ms ← members_in bundle_names Whole Unknown d
  bundle_in ms

-- the patterns of a bundle, which are the root's where it has none
abbrev pub patterns_or : PatternTexts → Option PatternTexts → PatternTexts
patterns_or root None = root
patterns_or root (Some list) = list

-- a bundle beside the root
abbrev pub bundle_with : PatternTexts → BundleParts → BundleText
bundle_with root parts =
    record { tag = parts.tag; mo = parts.mo; list = patterns_or root parts.list }
