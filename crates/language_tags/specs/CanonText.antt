-- How the canonical form is written. No public contract cites it.
use Rattle.std.specs.Prelude.{ℕ, Bool, List, [], ◌∷◌, ◌++◌, Option, Some, None}
use denote.Ref.{Bor}
use Rattle.std.specs.Cmp.Lexicographic.{slice_cmp}
use Rattle.std.specs.Ordering.{is_lt, nat_cmp, ordering_then}
use Rattle.std.specs.Str.{byte}
use Rattle.language_tags_grammar.specs.Shapes.{AreParts}
use Rattle.language_tags_grammar.specs.Tag.{Tag, Whole, Plain}

-- a tag with parts, which have their shapes
abbrev pub IsShaped : Tag → Type 0
IsShaped (Whole text) = ⊥
IsShaped (Plain p) = AreParts p

-- a part's text with a dash before it
abbrev pub dash_text : Option (List ℕ) → List ℕ
dash_text None = []
dash_text (Some text) = byte "-" ∷ text

-- an extension's singleton and its content's text: of a pair in memory, in order, and appended
abbrev pub pair_of : ℕ × Bor (List ℕ) → ℕ × List ℕ
pair_of i = (i.0, i.1.now)

abbrev pub is_item_before : ℕ × List ℕ → ℕ × List ℕ → Bool
is_item_before a b = is_lt (ordering_then (nat_cmp a.0 b.0) (slice_cmp nat_cmp a.1 b.1))

abbrev pub dashed_items : List (ℕ × List ℕ) → List ℕ
dashed_items [] = []
dashed_items (i ∷ is) = byte "-" ∷ i.0 ∷ byte "-" ∷ (i.1 ++ dashed_items is)
