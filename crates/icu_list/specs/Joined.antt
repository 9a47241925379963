-- A list is joined by nested substitution: start(a, middle(b, .. end(c, d))) (UTS 35, List
-- Patterns).
use Rattle.std.specs.Prelude.{ℕ, List, [], ◌∷◌, ◌++◌, map, codes, chars}
use Rattle.writeable_core.specs.Marks.{Mark, PartName, plain, inside}
use Rattle.icu_list.specs.Pattern.{Pattern}
use Rattle.icu_list.specs.Patterns.{Opening, Closing, Patterns, end_for, two_for}

-- the last of some items, or nothing
abbrev pub last_of : List (List ℕ) → List ℕ
last_of [] = []
last_of (x ∷ []) = x
last_of (x ∷ y ∷ items) = last_of (y ∷ items)

-- `literal` makes of a pattern's text what is written
module _ {A : Type 0} (literal : List ℕ → List A) where
  -- each pattern, with what stands in its two places
  abbrev pub two : Pattern → List A → List A → List A
  two p a b = literal p.prefix ++ (a ++ (literal p.between ++ (b ++ literal p.suffix)))

  -- the start, with an item and the rest in its places
  abbrev pub start : Opening → List A → List A → List A
  start p a rest = literal p.prefix ++ (a ++ (literal p.between ++ rest))

  -- the middle, with an item and the rest in its places
  abbrev pub middle : List ℕ → List A → List A → List A
  middle between a rest = a ++ (literal between ++ rest)

  -- the end, with the last two items in its places
  abbrev pub end : Closing → List A → List A → List A
  end p a b = a ++ (literal p.between ++ (b ++ literal p.suffix))

  -- an item and those behind it, up to the last
  abbrev pub rest : List ℕ → Closing → List A → List (List A) → List A
  rest between closing a [] = a
  rest between closing a (b ∷ []) = end closing a b
  rest between closing a (b ∷ c ∷ items) = middle between a (rest between closing b (c ∷ items))

  -- the items in the patterns that serve before the last one
  abbrev pub nested : Patterns → List ℕ → List (List A) → List A
  nested p last [] = []
  nested p last (a ∷ []) = a
  nested p last (a ∷ b ∷ []) = two (two_for p last) a b
  nested p last (a ∷ b ∷ c ∷ items) = start p.start a (rest p.middle (end_for p last) b (c ∷ items))

-- a text as it is written
abbrev pub as_it_is : List ℕ → List ℕ
as_it_is text = text

-- the text of a list of texts
abbrev pub joined : Patterns → List (List ℕ) → List ℕ
joined p items = nested as_it_is p (last_of items) items

-- the parts of items and of pattern texts
abbrev pub element_name : PartName
element_name = record { category = chars (codes "list"); value = chars (codes "element") }

-- the part of pattern texts
abbrev pub literal_name : PartName
literal_name = record { category = chars (codes "list"); value = chars (codes "literal") }

-- an item inside its part
abbrev pub element : List Mark → List Mark
element = inside element_name

-- a pattern's text inside its part
abbrev pub literal : List ℕ → List Mark
literal text = inside literal_name (plain text)

-- The same over marked texts, each item inside an element part, each text of a pattern inside a
-- literal part.
abbrev pub marked_joined : Patterns → List (List ℕ) → List (List Mark) → List Mark
marked_joined p items marked = nested literal p (last_of items) (map element marked)
