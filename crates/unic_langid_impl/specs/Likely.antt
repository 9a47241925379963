-- Likely subtags (UTS 35): the tables, and the maximal and minimal forms of a language, script and
-- region.
use Rattle.std.specs.Prelude.{ℕ, Bool, ◌&&◌, if◌then◌else◌, ◌≡◌, ◌≢◌, ◌+◌, ◌<◌, List, [], ◌∷◌, ◌++◌}
use Rattle.std.specs.Prelude.{Option, Some, None, is_some, find, option_and_then}
use Rattle.std.specs.BTreeMap.{is_at}
use Rattle.std.specs.Map.{lookup}
use Rattle.std.specs.Option.{option_cmp, option_eq, option_map, option_or}
use Rattle.std.specs.Ordering.{ordering_then}
use Rattle.std.specs.declared.cmp.Ordering.{Ordering}
use Rattle.unic_langid_impl.specs.Identifier.{Identifier, text_cmp}
use Rattle.unic_langid_impl.specs.Order.{same_text}

-- language, script and region
abbrev pub Triple : Type 0
Triple = Option (List ℕ) × Option (List ℕ) × Option (List ℕ)

-- the identifier of these, without variants
abbrev pub identifier_of : Triple → Identifier
identifier_of t = record { language = t.0; script = t.1; region = t.2; variants = [] }

abbrev pub triple_of : Identifier → Triple
triple_of i = (i.language, i.script, i.region)

-- an identifier with these in the place of its own
abbrev pub with_triple : Identifier → Triple → Identifier
with_triple i t = record i { language = t.0; script = t.1; region = t.2 }

abbrev pub triple_eq : Triple → Triple → Bool
triple_eq t u = (option_eq same_text t.0 u.0 && option_eq same_text t.1 u.1)
    && option_eq same_text t.2 u.2

-- A table from keys to triples, as its rows in the order of their keys, each key once.
abbrev pub Table : Type 0 → Type 0
Table K = List (K × Triple)

-- the row of a key
abbrev pub row : {K : Type 0} → (K → K → Ordering) → Table K → K → Option Triple
row cmp table key = lookup (is_at (cmp key)) table

-- the keys, a language and script or region in the order of both
abbrev pub language_cmp : Option (List ℕ) → Option (List ℕ) → Ordering
language_cmp = option_cmp text_cmp

abbrev pub language_pair_cmp : Option (List ℕ) × List ℕ → Option (List ℕ) × List ℕ → Ordering
language_pair_cmp a b = ordering_then (language_cmp a.0 b.0) (text_cmp a.1 b.1)

abbrev pub pair_cmp : List ℕ × List ℕ → List ℕ × List ℕ → Ordering
pair_cmp a b = ordering_then (text_cmp a.0 b.0) (text_cmp a.1 b.1)

-- the tables that are looked at with a language: of the language, with a region, with a script
pub record LanguageTables : Type 0 where
  pub lang_only : Table (Option (List ℕ))
  pub lang_region : Table (Option (List ℕ) × List ℕ)
  pub lang_script : Table (Option (List ℕ) × List ℕ)

-- those that are looked at without one: of a script and a region, of a script, of a region
pub record ScriptTables : Type 0 where
  pub script_region : Table (List ℕ × List ℕ)
  pub script_only : Table (List ℕ)
  pub region_only : Table (List ℕ)

-- the six tables
pub record Tables : Type 0 where
  pub languages : LanguageTables
  pub scripts : ScriptTables

-- a row's triple, with the script and region that are given kept
abbrev pub keeping : Option (List ℕ) → Option (List ℕ) → Triple → Triple
keeping script region t = (t.0, option_or script t.1, option_or region t.2)

-- the first of these that is there
abbrev pub first_there : List (Option Triple) → Option Triple
first_there [] = None
first_there (o ∷ os) = option_or o (first_there os)

-- all three parts are there
abbrev pub is_whole : Triple → Bool
is_whole t = is_some t.0 && (is_some t.1 && is_some t.2)

-- with a language: the row of language and region; of language and script; of the language, script
-- and region kept
abbrev pub with_language : LanguageTables → Triple → Option Triple
with_language F t =
    first_there (
    option_and_then (λ region. row language_pair_cmp F.lang_region (t.0, region)) t.2
    ∷ option_and_then (λ script. row language_pair_cmp F.lang_script (t.0, script)) t.1
    ∷ option_map (keeping t.1 t.2) (row language_cmp F.lang_only t.0)
    ∷ [])

-- without one: the row of script and region; of the script, the region kept; where no script is
-- given, of the region
abbrev pub without_language : ScriptTables → Triple → Option Triple
without_language F t =
    first_there (
    option_and_then
    (λ script. option_and_then (λ region. row pair_cmp F.script_region (script, region)) t.2)
    t.1
    ∷ option_and_then
    (λ script. option_map (keeping None t.2) (row text_cmp F.script_only script)) t.1
    ∷ (if is_some t.1 then None else option_and_then
    (λ region. row text_cmp F.region_only region) t.2)
    ∷ [])

-- the language alone, with the region, with the script; a trial whose part is missing isn't made
abbrev pub trials : Triple → List Triple
trials m =
    (m.0, None, None)
    ∷ ((if is_some m.2 then ((m.0, None, m.2) ∷ []) else [])
    ++ (if is_some m.1 then ((m.0, m.1, None) ∷ []) else []))

module _ (F : Tables) where
  -- none for a triple that has all three parts
  abbrev pub maximal : Triple → Option Triple
  maximal t =
      if is_whole t then None else
      (if is_some t.0 then with_language F.languages t else without_language F.scripts t)

  -- the form that a smaller one is sought for: the maximal one, or the triple itself where it has
  -- all three parts
  abbrev pub full : Triple → Option Triple
  full t = if is_whole t then Some t else maximal t

  -- whether this is the maximal form
  abbrev pub maximises_to : Triple → Triple → Bool
  maximises_to m trial = option_eq triple_eq (maximal trial) (Some m)

  -- the first trial whose maximal form is the one that it started from
  abbrev pub minimal : Triple → Option Triple
  minimal t = option_and_then (λ m. find (maximises_to m) (trials m)) (full t)

-- how many subtags there are
abbrev pub count : Option (List ℕ) → ℕ
count None = 0
count (Some subtag) = 1

abbrev pub subtag_count : Triple → ℕ
subtag_count t = count t.0 + count t.1 + count t.2

-- The minimal form maximises to the form it was sought for, and nothing of that form's language
-- with fewer subtags does.
pub record IsLeast (F : Tables) (t least : Triple) : Type 0 where
  pub form : Triple
  pub form_is : full F t ≡ Some form
  pub maximises : maximal F least ≡ Some form
  pub least_is : (other : Triple) → other.0 ≡ form.0 → subtag_count other < subtag_count least
      → maximal F other ≢ Some form
