-- Marked texts: characters, and the marks that open and close parts.
use Rattle.std.specs.Prelude.{◌≡◌, ℕ, ◌+◌, List, [], ◌∷◌, ◌++◌, chars, Option, Some, None}
use Rattle.writeable_core.specs.declared.part.Part.{Part}

-- what a part is called: its category and its value
pub record PartName : Type 0 where
  pub category : List ℕ
  pub value : List ℕ

abbrev pub part_name : Part → PartName
part_name part = record { category = chars part.category.now; value = chars part.value.now }

-- a step of a marked text
pub data Mark : Type 0 where
  Character : ℕ → Mark
  Open : PartName → Mark
  Close : Mark

-- a text as a marked text without marks
abbrev pub plain : List ℕ → List Mark
plain [] = []
plain (c ∷ text) = Character c ∷ plain text

-- the text of a marked text, without its marks
abbrev pub characters : List Mark → List ℕ
characters [] = []
characters (Character c ∷ marks) = c ∷ characters marks
characters (Open _ ∷ marks) = characters marks
characters (Close ∷ marks) = characters marks

-- a marked text inside one part
abbrev pub inside : PartName → List Mark → List Mark
inside part marks = Open part ∷ (marks ++ Close ∷ [])

-- marks that nest: each part is closed after those that were opened in it
pub data Nests : List Mark → Type 0 where
  nothing : Nests []
  character : (c : ℕ) (marks : List Mark) → Nests marks → Nests (Character c ∷ marks)
  part : (name : PartName) (inner marks : List Mark) → Nests inner → Nests marks
      → Nests (Open name ∷ (inner ++ Close ∷ marks))

-- how many marks open a part, and how many close one
abbrev pub openings : List Mark → ℕ
openings [] = 0
openings (Character _ ∷ marks) = openings marks
openings (Open _ ∷ marks) = openings marks + 1
openings (Close ∷ marks) = openings marks

abbrev pub closings : List Mark → ℕ
closings [] = 0
closings (Character _ ∷ marks) = closings marks
closings (Open _ ∷ marks) = closings marks
closings (Close ∷ marks) = closings marks + 1

-- How many parts are open before and after a marked text, where that is told: opening marks raise
-- the number, closing marks lower it. Whether it is told stays.
abbrev pub Opens : Option ℕ → List Mark → Option ℕ → Type 0
Opens (Some before) marks (Some after) = before + openings marks ≡ after + closings marks
Opens None marks None = Unit {0}
Opens (Some _) marks None = ⊥
Opens None marks (Some _) = ⊥
