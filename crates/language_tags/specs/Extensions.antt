-- The extensions that a text has, where it is that of extensions.
use Rattle.std.specs.Prelude.{◌≡◌, ℕ, ◌≤◌, List, Option, Some, None, length}
use Rattle.std.specs.List.{AllByRecursion, flat_map}
use Rattle.language_tags_grammar.specs.Kept.{grouped}
use Rattle.language_tags_grammar.specs.Pieces.{joined, pieces_of}
use Rattle.language_tags_grammar.specs.Shapes.{IsExtension}
use Rattle.language_tags_grammar.specs.Tag.{Extension, extension_pieces}

abbrev pub extensions_in : Option (List ℕ) → List Extension
extensions_in text = (grouped (pieces_of text)).extensions

-- the text is that of these extensions
pub record AreExtensionsOf (text : List ℕ) (es : List Extension) : Type 0 where
  pub shapes : AllByRecursion IsExtension es
  pub some : 1 ≤ length es
  pub text_is : text ≡ joined (flat_map extension_pieces es)

abbrev pub IsExtensionsText : Option (List ℕ) → Type 0
IsExtensionsText None = Unit {0}
IsExtensionsText (Some text) = AreExtensionsOf text (extensions_in (Some text))

-- an item of an iterator over extensions: the singleton and the content's text
abbrev pub item_of : Extension → ℕ × List ℕ
item_of e = (e.singleton, joined e.content)
