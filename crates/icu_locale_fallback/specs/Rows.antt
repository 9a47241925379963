-- The rows that a fallbacker is made from, and what is wrong with one.
use Rattle.std.specs.Prelude.{◌≡◌, ℕ, List, [], ◌∷◌, Some, map, length, take, slice_get, Any}
use Rattle.std.specs.FinMap as finite
use Rattle.std.specs.List.{AllZip}
use Rattle.std.specs.declared.cmp.Ordering.{Ordering}
use Rattle.icu_locale_core.specs.Shapes.{IsLanguage, IsScript, IsRegion}
use Rattle.writeable_core.specs.declared.text.TextRow.{TextRow}
use Rattle.icu_locale_fallback.specs.Tables.{Likely}
use Rattle.icu_locale_fallback.specs.Cells.{PrintsAs}
use Rattle.icu_locale_fallback.specs.Triple.{Triple}

-- What the cells of a row say, as relations between the row and what it says: the subtags stand
-- in canonical case (UTS 35, Unicode locale identifiers).

-- A row of `likely_language` is language, script, region; its key is the language.
abbrev pub LanguageKey : TextRow → List ℕ → Type 0
LanguageKey row key = IsLanguage row.first × (key ≡ row.first)

-- its value is the script and the region
abbrev pub LikelyValue : TextRow → Likely → Type 0
LikelyValue row value =
    IsScript row.second × IsRegion row.third
    × (value ≡ record { script = row.second; region = row.third })

-- A row of `likely_language_script` is language, script, region; its key is the first two.
abbrev pub LanguageScriptKey : TextRow → List ℕ × List ℕ → Type 0
LanguageScriptKey row key =
    IsLanguage row.first × IsScript row.second × (key ≡ (row.first, row.second))

-- its value is the region
abbrev pub RegionValue : TextRow → List ℕ → Type 0
RegionValue row value = IsRegion row.third × (value ≡ row.third)

-- A row of `likely_language_region` is language, region, script; its key is the first two.
abbrev pub LanguageRegionKey : TextRow → List ℕ × List ℕ → Type 0
LanguageRegionKey row key =
    IsLanguage row.first × IsRegion row.second × (key ≡ (row.first, row.second))

-- its value is the script
abbrev pub ScriptValue : TextRow → List ℕ → Type 0
ScriptValue row value = IsScript row.third × (value ≡ row.third)

-- A row of `parents` is child, parent; its key is the child.
abbrev pub ChildKey : TextRow → Triple → Type 0
ChildKey row key = PrintsAs row.first key

-- its value is the parent
abbrev pub ParentValue : TextRow → Triple → Type 0
ParentValue row value = PrintsAs row.second value

-- the key is none of these
abbrev pub Misses : {K : Type 0} → List K → K → Type 0
Misses [] x = Unit {0}
Misses (y ∷ ys) x = ¬ (x ≡ y) × Misses ys x

-- no two keys are equal
abbrev pub AreDistinct : {K : Type 0} → List K → Type 0
AreDistinct [] = Unit {0}
AreDistinct (x ∷ xs) = Misses xs x × AreDistinct xs

module _ {K : Type 0} (key : TextRow → K → Type 0) where
  -- a row without a key
  abbrev pub HasNoKey : TextRow → Type 0
  HasNoKey row = (k : K) → ¬ (key row k)

module _ {K X : Type 0} (key : TextRow → K → Type 0) (value : TextRow → X → Type 0) where
  -- the rows say these entries, and no key comes twice
  pub record Say (rows : List TextRow) (entries : List (K × X)) : Type 0 where
    pub said : AllZip (λ row entry. key row entry.0 × value row entry.1) rows entries
    pub distinct : AreDistinct (map (λ entry. entry.0) entries)

  -- no row is faulty
  abbrev pub AreSound : List TextRow → Type 0
  AreSound rows = ((entries : List (K × X)) × Say rows entries)

  -- the table is that of the rows, with as many entries
  pub record IsTableOf {R : K → K → Ordering} (rows : List TextRow)
      (table : finite.FinMap R X) : Type 0 where
    pub entries : List (K × X)
    pub say : Say rows entries
    pub table_is : table ≡ finite.from_entries entries
    pub len : finite.len table ≡ length rows

  -- Row i is the first faulty one, and this is its first fault: it has no key; it has a key and
  -- no value; it has both, and its key is that of an earlier row.
  pub record FirstFaultIs (rows : List TextRow) (i : ℕ) (fault : TextRow → Type 0) : Type 0 where
    pub before : AreSound (take i rows)
    pub row : TextRow
    pub row_is : slice_get rows i ≡ Some row
    pub fault_is : fault row

  -- a row with a key and no value
  abbrev pub HasNoValue : TextRow → Type 0
  HasNoValue row = ((k : K) × key row k) × ((v : X) → ¬ (value row v))

  -- a row with a key and a value, whose key is that of an earlier row
  abbrev pub HasEarlierKey : List TextRow → TextRow → Type 0
  HasEarlierKey earlier row =
      (k : K) × key row k × ((v : X) × value row v) × Any (λ other. key other k) earlier
