-- The rows that likely tables are made from, and what is wrong with one.
use Rattle.std.specs.Prelude.{◌≡◌, ◌≢◌, ◌⊎◌, ℕ, List, [], ◌∷◌, Option, Some, None, map, take}
use Rattle.std.specs.Prelude.{slice_get, Any}
use Rattle.std.specs.List.{AllZip}
use Rattle.std.specs.declared.cmp.Ordering.{Ordering}
use Rattle.tinystr.specs.Shapes.{IsRegion, IsScript}
use Rattle.writeable_core.specs.declared.text.TextRow.{TextRow}
use Rattle.unic_langid_impl.specs.Identifier.{IsIdentifier, print}
use Rattle.unic_langid_impl.specs.Likely.{Table, Triple, identifier_of, row}
use Rattle.unic_langid_impl.specs.Subtags.{IsLanguageOrNone, language_text}

-- A cell is the text of a language, `und` for none; of a language that is there; the printed text
-- of a language that is there, script and region.
pub record LanguageCell (cell : List ℕ) (language : Option (List ℕ)) : Type 0 where
  pub shape : IsLanguageOrNone language
  pub text : language_text language ≡ cell

abbrev pub ThereCell : List ℕ → Option (List ℕ) → Type 0
ThereCell cell language = (language ≢ None) × LanguageCell cell language

abbrev pub ScriptCell : List ℕ → List ℕ → Type 0
ScriptCell cell script = IsScript script × (script ≡ cell)

abbrev pub RegionCell : List ℕ → List ℕ → Type 0
RegionCell cell region = IsRegion region × (region ≡ cell)

pub record PrintsTriple (cell : List ℕ) (t : Triple) : Type 0 where
  pub shape : IsIdentifier (identifier_of t)
  pub language : t.0 ≢ None
  pub text : print (identifier_of t) ≡ cell

-- the key of a row of each table
abbrev pub LanguageKey : TextRow → Option (List ℕ) → Type 0
LanguageKey row key = LanguageCell row.first key

abbrev pub LanguageRegionKey : TextRow → Option (List ℕ) × List ℕ → Type 0
LanguageRegionKey row key = ThereCell row.first key.0 × RegionCell row.second key.1

abbrev pub LanguageScriptKey : TextRow → Option (List ℕ) × List ℕ → Type 0
LanguageScriptKey row key = ThereCell row.first key.0 × ScriptCell row.second key.1

abbrev pub ScriptRegionKey : TextRow → List ℕ × List ℕ → Type 0
ScriptRegionKey row key = ScriptCell row.first key.0 × RegionCell row.second key.1

abbrev pub ScriptKey : TextRow → List ℕ → Type 0
ScriptKey row key = ScriptCell row.first key

abbrev pub RegionKey : TextRow → List ℕ → Type 0
RegionKey row key = RegionCell row.first key

-- no two keys are equal
abbrev pub Misses : {K : Type 0} → List K → K → Type 0
Misses [] x = Unit {0}
Misses (y ∷ ys) x = (x ≢ y) × Misses ys x

abbrev pub AreDistinct : {K : Type 0} → List K → Type 0
AreDistinct [] = Unit {0}
AreDistinct (x ∷ xs) = Misses xs x × AreDistinct xs

module _ {K : Type 0} (key : TextRow → K → Type 0) where
  -- the rows say these entries, and no key comes twice
  pub record Say (rows : List TextRow) (entries : List (K × Triple)) : Type 0 where
    pub said : AllZip (λ row entry. key row entry.0 × PrintsTriple row.third entry.1) rows entries
    pub distinct : AreDistinct (map (λ entry. entry.0) entries)

  -- no row is faulty
  abbrev pub AreSound : List TextRow → Type 0
  AreSound rows = (entries : List (K × Triple)) × Say rows entries

  -- no row is faulty, and the table answers each key as they do
  pub record IsTableOf (cmp : K → K → Ordering) (rows : List TextRow) (table : Table K) :
      Type 0 where
    pub entries : List (K × Triple)
    pub say : Say rows entries
    pub same : (q : K) → row cmp table q ≡ row cmp entries q

  -- a row without a key or without a value
  abbrev pub IsBadEntry : TextRow → Type 0
  IsBadEntry row = ((k : K) → ¬ (key row k)) ⊎ ((t : Triple) → ¬ (PrintsTriple row.third t))

  -- a row whose key is that of an earlier one
  abbrev pub HasEarlierKey : List TextRow → TextRow → Type 0
  HasEarlierKey earlier row =
      (k : K) × key row k × ((t : Triple) × PrintsTriple row.third t)
      × Any (λ other. key other k) earlier

  -- row i is the first faulty one, and this is its fault
  pub record FirstFaultIs (rows : List TextRow) (i : ℕ) (fault : TextRow → Type 0) : Type 0 where
    pub before : AreSound (take i rows)
    pub row : TextRow
    pub row_is : slice_get rows i ≡ Some row
    pub fault_is : fault row
