-- Rows make one set of tables at most, and where none is faulty there is no fault.
use Rattle.std.proofs.Common.{◌≡◌, ℕ, zero, suc, ◌<◌, List, [], ◌∷◌, length, map, Option, Some}
use Rattle.std.proofs.Common.{None, Ordering, refl, sym, ap, ◌∙◌, subst, arith}
use Rattle.std.specs.FinMap as finite
use Rattle.std.specs.List.{AllZip, slice_get}
use Rattle.std.proofs.lemmas.Option.{slice_get_read}
use Rattle.std.proofs.Common.{length-take, get_or-take}
use Rattle.icu_locale_core.specs.ReadingLaws.{print-determines}
use Rattle.writeable_core.specs.declared.text.TextRow.{TextRow}
use Rattle.icu_locale_fallback.specs.declared.rows.FallbackRows.{FallbackRows}
use Rattle.icu_locale_fallback.specs.declared.rows.TableError.{TableError}
use Rattle.icu_locale_fallback.specs.declared.rows.TableError.TheVariants.{DuplicateKey, BadKey}
use Rattle.icu_locale_fallback.specs.declared.rows.TableError.TheVariants.{BadValue, NoMemory}
use Rattle.icu_locale_fallback.specs.Cells.{PrintsAs, locale_of}
use Rattle.icu_locale_fallback.specs.Faults.{IsFaultOf, IsLikelyFault, in_language}
use Rattle.icu_locale_fallback.specs.Faults.{in_language_script, in_language_region, IsFirstFault}
use Rattle.icu_locale_fallback.specs.Faults.{in_likely, in_parents, AreLikelyOf, AreLikelySound}
use Rattle.icu_locale_fallback.specs.Faults.{AreRowsSound, AreTablesOf}
use Rattle.icu_locale_fallback.specs.Rows.{Misses, AreDistinct, AreSound, IsTableOf, LanguageKey}
use Rattle.icu_locale_fallback.specs.Rows.{LikelyValue, LanguageScriptKey, RegionValue}
use Rattle.icu_locale_fallback.specs.Rows.{LanguageRegionKey, ScriptValue, ChildKey, ParentValue}
use Rattle.icu_locale_fallback.specs.Tables.{Likely, LikelySubtags, Tables}
use Rattle.icu_locale_fallback.specs.Triple.{Triple, triple_of}

module _ {K X : Type 0} where
  -- a key that no entry has is not that of the entry at a place
  misses_at : (es : List (K × X)) (x : K) (i : ℕ) (e : K × X)
      → Misses (map (λ y. y.0) es) x → slice_get es i ≡ Some e → x ≡ e.0 → ⊥
  misses_at [] x i e h at same = cc
  misses_at (y ∷ es) x zero e h at same = h.0 (same ∙ ap (λ o. key_or x o) (sym at))
    where
      key_or : K → Option (K × X) → K
      key_or d None = d
      key_or d (Some p) = p.0
  misses_at (y ∷ es) x (suc i) e h at same = misses_at es x i e h.1 at same

  -- the entries at two places have two keys
  distinct_at : (es : List (K × X)) (i j : ℕ) (e f : K × X)
      → AreDistinct (map (λ y. y.0) es) → j < i → slice_get es i ≡ Some e
      → slice_get es j ≡ Some f → f.0 ≡ e.0 → ⊥
  distinct_at [] i j e f h below at_i at_j same = cc
  distinct_at (y ∷ es) zero j e f h below at_i at_j same = omega arith
  distinct_at (y ∷ es) (suc i) zero e f h below at_i at_j same =
      let is : y ≡ f = cc in
      misses_at es y.0 i e h.0 at_i (ap (λ p. p.0) is ∙ same)
  distinct_at (y ∷ es) (suc i) (suc j) e f h below at_i at_j same =
      distinct_at es i j e f h.1 (omega arith) at_i at_j same

module _ {K X : Type 0} (key : TextRow → K → Type 0) (value : TextRow → X → Type 0) where
  -- a row says an entry
  abbrev Says : TextRow → K × X → Type 0
  Says row entry = key row entry.0 × value row entry.1

  -- what the row at a place says stands at that place
  said_at : (rows : List TextRow) (es : List (K × X)) (i : ℕ) (row : TextRow)
      → AllZip Says rows es → slice_get rows i ≡ Some row
      → (e : K × X) × (slice_get es i ≡ Some e) × Says row e
  said_at [] es i row said at = cc
  said_at (r ∷ rows) [] i row said at = absurd said
  said_at (r ∷ rows) (e ∷ es) zero row said at = let is : r ≡ row = cc in
      (e, refl, subst (λ x. Says x e) is said.0)
  said_at (r ∷ rows) (e ∷ es) (suc i) row said at = said_at rows es i row said.1 at

module _ {K X : Type 0} (key : TextRow → K → Type 0) (value : TextRow → X → Type 0)
    (one_key : (row : TextRow) (j k : K) → key row j → key row k → j ≡ k)
    (one_value : (row : TextRow) (v w : X) → value row v → value row w → v ≡ w) where
  -- rows say one list of entries
  same_entries : (rows : List TextRow) (es fs : List (K × X))
      → AllZip (Says key value) rows es → AllZip (Says key value) rows fs → es ≡ fs
  same_entries [] [] [] h g = refl
  same_entries [] [] (f ∷ fs) h g = absurd g
  same_entries [] (e ∷ es) fs h g = absurd h
  same_entries (row ∷ rows) [] fs h g = absurd h
  same_entries (row ∷ rows) (e ∷ es) [] h g = absurd g
  same_entries (row ∷ rows) (e ∷ es) (f ∷ fs) h g =
      let k = one_key row e.0 f.0 h.0.0 g.0.0 in
      let v = one_value row e.1 f.1 h.0.1 g.0.1 in
      let rest = same_entries rows es fs h.1 g.1 in
      λ i. (k i, v i) ∷ rest i

  -- and make one table
  pub same_table : {R : K → K → Ordering} (rows : List TextRow) (one other : finite.FinMap R X)
      → IsTableOf key value rows one → IsTableOf key value rows other → one ≡ other
  same_table rows one other h g =
      h.table_is
      ∙ ap finite.from_entries (same_entries rows h.entries g.entries h.say.said g.say.said)
      ∙ sym g.table_is

  -- sound rows have no fault
  pub no_fault : (number : ℕ) (rows : List TextRow) → AreSound key value rows → (e : TableError)
      → IsFaultOf key value number rows e → e ≡ NoMemory
  no_fault number rows (es, say) (BadKey table i) (is, fault) =
      let (e, at, said) = said_at key value rows es i fault.row say.said fault.row_is in
      absurd (fault.fault_is e.0 said.0)
  no_fault number rows (es, say) (BadValue table i) (is, fault) =
      let (e, at, said) = said_at key value rows es i fault.row say.said fault.row_is in
      absurd (fault.fault_is.1 e.1 said.1)
  no_fault number rows (es, say) (DuplicateKey table i) (is, fault) =
      let (k, key_is, some_value, (j, other, below, at_other, other_key)) = fault.fault_is in
      let bound = length-take i rows in
      let earlier : j < i = omega arith in
      let inside : j < length rows = omega arith in
      let other_is : slice_get rows j ≡ Some other =
      slice_get_read rows (length rows) j other refl inside
      (sym (sym (get_or-take i rows j other earlier) ∙ at_other)) in
      let (e, at, said) = said_at key value rows es i fault.row say.said fault.row_is in
      let (f, at_f, said_f) = said_at key value rows es j other say.said other_is in
      absurd (distinct_at es i j e f say.distinct earlier at at_f
      (one_key other f.0 k said_f.0 other_key ∙ one_key fault.row k e.0 key_is said.0))
  no_fault number rows sound NoMemory fault = refl

-- ---- a row says one key and one value at most

-- table 0: its key
pub language_key : (row : TextRow) (j k : List ℕ) → LanguageKey row j → LanguageKey row k → j ≡ k
language_key row j k a b = a.1 ∙ sym b.1

-- its value
pub likely_value : (row : TextRow) (v w : Likely) → LikelyValue row v → LikelyValue row w → v ≡ w
likely_value row v w a b = a.2 ∙ sym b.2

-- table 1: its key
pub language_script_key : (row : TextRow) (j k : List ℕ × List ℕ) → LanguageScriptKey row j
    → LanguageScriptKey row k → j ≡ k
language_script_key row j k a b = a.2 ∙ sym b.2

-- its value
pub region_value : (row : TextRow) (v w : List ℕ) → RegionValue row v → RegionValue row w → v ≡ w
region_value row v w a b = a.1 ∙ sym b.1

-- table 2: its key
pub language_region_key : (row : TextRow) (j k : List ℕ × List ℕ) → LanguageRegionKey row j
    → LanguageRegionKey row k → j ≡ k
language_region_key row j k a b = a.2 ∙ sym b.2

-- its value
pub script_value : (row : TextRow) (v w : List ℕ) → ScriptValue row v → ScriptValue row w → v ≡ w
script_value row v w a b = a.1 ∙ sym b.1

-- a text is the printed one of one triple at most
one_triple : (text : List ℕ) (j k : Triple) → PrintsAs text j → PrintsAs text k → j ≡ k
one_triple text j k a b =
    ap triple_of
    (print-determines (locale_of j) (locale_of k) a.shape b.shape (a.printed ∙ sym b.printed))

-- table 3: its key
pub child_key : (row : TextRow) (j k : Triple) → ChildKey row j → ChildKey row k → j ≡ k
child_key row = one_triple row.first

-- its value
pub parent_value : (row : TextRow) (v w : Triple) → ParentValue row v → ParentValue row w → v ≡ w
parent_value row = one_triple row.second

-- and one set of likely subtags
same_likely : (rows : FallbackRows) (one other : LikelySubtags) → AreLikelyOf rows one
    → AreLikelyOf rows other → one ≡ other
same_likely rows one other h g =
    let language =
    same_table LanguageKey LikelyValue language_key likely_value _ _ _ h.language g.language in
    let language_script =
    same_table LanguageScriptKey RegionValue language_script_key region_value _ _ _
    h.language_script g.language_script in
    let language_region =
    same_table LanguageRegionKey ScriptValue language_region_key script_value _ _ _
    h.language_region g.language_region in
    λ i. record {
      language = language i;
      language_script = language_script i;
      language_region = language_region i;
    }

-- rows make one fallbacker at most
pub same_tables : (rows : FallbackRows) (one other : Tables) → AreTablesOf rows one
    → AreTablesOf rows other → one ≡ other
same_tables rows one other h g =
    let likely = same_likely rows _ _ h.likely_are g.likely_are in
    let parents =
    same_table ChildKey ParentValue child_key parent_value _ _ _ h.parents_are g.parents_are in
    λ i. record { likely = likely i; parents = parents i }

-- rows of which a table is are sound
pub sound :
    {K X : Type 0} {key : TextRow → K → Type 0} {value : TextRow → X → Type 0} {R : K → K
    → Ordering} {rows : List TextRow} {table : finite.FinMap R X}
    → IsTableOf key value rows table → AreSound key value rows
sound h = (h.entries, h.say)

-- where rows make tables none is faulty
pub sound_rows : (rows : FallbackRows) (tables : Tables) → AreTablesOf rows tables
    → AreRowsSound rows
sound_rows rows tables h = record {
  likely = record {
    language = sound h.likely_are.language;
    language_script = sound h.likely_are.language_script;
    language_region = sound h.likely_are.language_region;
  };
  parents = sound h.parents_are;
}

-- sound rows of the tables 0 to 2 have no fault
pub no_likely_fault : (rows : FallbackRows) (e : TableError) → AreLikelySound rows
    → IsLikelyFault rows e → e ≡ NoMemory
no_likely_fault rows e h (in_language fault) =
    no_fault LanguageKey LikelyValue language_key likely_value 0 _ h.language e fault
no_likely_fault rows e h (in_language_script before fault) =
    no_fault LanguageScriptKey RegionValue language_script_key region_value 1 _
    h.language_script e fault
no_likely_fault rows e h (in_language_region before behind fault) =
    no_fault LanguageRegionKey ScriptValue language_region_key script_value 2 _
    h.language_region e fault

-- where no row is faulty there is no fault
pub no_first_fault : (rows : FallbackRows) (e : TableError) → AreRowsSound rows
    → IsFirstFault rows e → e ≡ NoMemory
no_first_fault rows e h (in_likely fault) = no_likely_fault rows e h.likely fault
no_first_fault rows e h (in_parents before fault) =
    no_fault ChildKey ParentValue child_key parent_value 3 _ h.parents e fault
