-- Two faults of the same rows, other than want of memory, are one.
use Rattle.std.proofs.Common.{◌≡◌, ◌≢◌, ℕ, zero, suc, ◌<◌, List, [], ◌∷◌, take, Some, refl, sym, ap}
use Rattle.std.proofs.Common.{◌∙◌, subst, inl, inr, arith}
use Rattle.std.specs.List.{slice_get}
use lib.Seq.{take-take}
use Rattle.std.proofs.lemmas.Bool.{cases_lt}
use Rattle.writeable_core.specs.declared.text.TextRow.{TextRow}
use Rattle.icu_locale_fallback.specs.declared.rows.FallbackRows.{FallbackRows}
use Rattle.icu_locale_fallback.specs.declared.rows.TableError.{TableError}
use Rattle.icu_locale_fallback.specs.declared.rows.TableError.TheVariants.{DuplicateKey, BadKey}
use Rattle.icu_locale_fallback.specs.declared.rows.TableError.TheVariants.{BadValue, NoMemory}
use Rattle.icu_locale_fallback.specs.Faults.{IsFaultOf, IsLikelyFault, in_language}
use Rattle.icu_locale_fallback.specs.Faults.{in_language_script, in_language_region, IsFirstFault}
use Rattle.icu_locale_fallback.specs.Faults.{in_likely, in_parents}
use Rattle.icu_locale_fallback.specs.Rows.{AreSound, HasEarlierKey, LanguageKey, LikelyValue}
use Rattle.icu_locale_fallback.specs.Rows.{LanguageScriptKey, RegionValue, LanguageRegionKey}
use Rattle.icu_locale_fallback.specs.Rows.{ScriptValue, ChildKey, ParentValue}
use Rattle.icu_locale_fallback.proofs.RowLaws.{no_fault, no_likely_fault, language_key}
use Rattle.icu_locale_fallback.proofs.RowLaws.{likely_value, language_script_key, region_value}
use Rattle.icu_locale_fallback.proofs.RowLaws.{language_region_key, script_value, child_key}
use Rattle.icu_locale_fallback.proofs.RowLaws.{parent_value}

-- a row of the first rows
get_less : (i n : ℕ) (rows : List TextRow) → i < n → slice_get (take n rows) i ≡ slice_get rows i
get_less i zero rows lt = absurd (omega arith)
get_less i (suc n) [] lt = refl
get_less zero (suc n) (row ∷ rows) lt = refl
get_less (suc i) (suc n) (row ∷ rows) lt = get_less i n rows (omega arith)

-- the row that a fault names
abbrev row_of : TableError → ℕ
row_of (DuplicateKey table i) = i
row_of (BadKey table i) = i
row_of (BadValue table i) = i
row_of NoMemory = 0

module _ {K X : Type 0} (key : TextRow → K → Type 0) (value : TextRow → X → Type 0)
    (number : ℕ) where
  -- a fault is one of the rows up to its own
  among : (n : ℕ) (rows : List TextRow) (e : TableError) → row_of e < n
      → IsFaultOf key value number rows e
      → IsFaultOf key value number (take n rows) e
  among n rows (BadKey table i) lt (is, fault) = (
    is,
    record {
      before = subst (AreSound key value) (sym (take-take i n rows (omega arith))) fault.before;
      row = fault.row;
      row_is = get_less i n rows lt ∙ fault.row_is;
      fault_is = fault.fault_is;
    },
  )
  among n rows (BadValue table i) lt (is, fault) = (
    is,
    record {
      before = subst (AreSound key value) (sym (take-take i n rows (omega arith))) fault.before;
      row = fault.row;
      row_is = get_less i n rows lt ∙ fault.row_is;
      fault_is = fault.fault_is;
    },
  )
  among n rows (DuplicateKey table i) lt (is, fault) =
      let same = take-take i n rows (omega arith) in (
        is,
        record {
          before = subst (AreSound key value) (sym same) fault.before;
          row = fault.row;
          row_is = get_less i n rows lt ∙ fault.row_is;
          fault_is =
              subst (λ earlier. HasEarlierKey key value earlier fault.row)
              (sym same) fault.fault_is;
        },
      )
  among n rows NoMemory lt fault = tt

  -- the rows before a faulty one are sound
  sound_before : (rows : List TextRow) (e : TableError) → e ≢ NoMemory
      → IsFaultOf key value number rows e
      → AreSound key value (take (row_of e) rows)
  sound_before rows (BadKey table i) other (is, fault) = fault.before
  sound_before rows (BadValue table i) other (is, fault) = fault.before
  sound_before rows (DuplicateKey table i) other (is, fault) = fault.before
  sound_before rows NoMemory other fault = absurd (other refl)

  -- the row at one place
  one_row : (rows : List TextRow) (i j : ℕ) (row other : TextRow) → i ≡ j
      → slice_get rows i ≡ Some row
      → slice_get rows j ≡ Some other → row ≡ other
  one_row rows i j row other same at_i at_j =
      let both : Some row ≡ Some other = sym at_i ∙ ap (slice_get rows) same ∙ at_j in cc

  -- two faults of one row are one
  same_row : (rows : List TextRow) (e f : TableError) → e ≢ NoMemory → f ≢ NoMemory
      → row_of e ≡ row_of f
      → IsFaultOf key value number rows e → IsFaultOf key value number rows f → e ≡ f
  same_row rows (BadKey t i) (BadKey u j) n m same (p, a) (q, b) =
      λ k. BadKey ((p ∙ sym q) k) (same k)
  same_row rows (BadValue t i) (BadValue u j) n m same (p, a) (q, b) =
      λ k. BadValue ((p ∙ sym q) k) (same k)
  same_row rows (DuplicateKey t i) (DuplicateKey u j) n m same (p, a) (q, b) =
      λ k. DuplicateKey ((p ∙ sym q) k) (same k)
  same_row rows (BadKey t i) (BadValue u j) n m same (p, a) (q, b) =
      let row = one_row rows j i b.row a.row (sym same) b.row_is a.row_is in
      absurd (a.fault_is b.fault_is.0.0 (subst (λ r. key r b.fault_is.0.0) row b.fault_is.0.1))
  same_row rows (BadKey t i) (DuplicateKey u j) n m same (p, a) (q, b) =
      let row = one_row rows j i b.row a.row (sym same) b.row_is a.row_is in
      absurd (a.fault_is b.fault_is.0 (subst (λ r. key r b.fault_is.0) row b.fault_is.1))
  same_row rows (BadValue t i) (BadKey u j) n m same (p, a) (q, b) =
      let row = one_row rows i j a.row b.row same a.row_is b.row_is in
      absurd (b.fault_is a.fault_is.0.0 (subst (λ r. key r a.fault_is.0.0) row a.fault_is.0.1))
  same_row rows (DuplicateKey t i) (BadKey u j) n m same (p, a) (q, b) =
      let row = one_row rows i j a.row b.row same a.row_is b.row_is in
      absurd (b.fault_is a.fault_is.0 (subst (λ r. key r a.fault_is.0) row a.fault_is.1))
  same_row rows (BadValue t i) (DuplicateKey u j) n m same (p, a) (q, b) =
      let row = one_row rows j i b.row a.row (sym same) b.row_is a.row_is in
      absurd (a.fault_is.1 b.fault_is.2.0 (subst (λ r. value r b.fault_is.2.0) row b.fault_is.2.1))
  same_row rows (DuplicateKey t i) (BadValue u j) n m same (p, a) (q, b) =
      let row = one_row rows i j a.row b.row same a.row_is b.row_is in
      absurd (b.fault_is.1 a.fault_is.2.0 (subst (λ r. value r a.fault_is.2.0) row a.fault_is.2.1))
  same_row rows NoMemory f n m same a b = absurd (n refl)
  same_row rows (BadKey t i) NoMemory n m same a b = absurd (m refl)
  same_row rows (BadValue t i) NoMemory n m same a b = absurd (m refl)
  same_row rows (DuplicateKey t i) NoMemory n m same a b = absurd (m refl)

  module _ (one_key : (row : TextRow) (j k : K) → key row j → key row k → j ≡ k)
      (one_value : (row : TextRow) (v w : X) → value row v → value row w → v ≡ w) where
    -- no faulty row stands before the first one
    not_before : (rows : List TextRow) (e f : TableError) → e ≢ NoMemory → f ≢ NoMemory
        → row_of e < row_of f
        → IsFaultOf key value number rows e → IsFaultOf key value number rows f → ⊥
    not_before rows e f n m lt a b =
        n
        (no_fault key value one_key one_value number (take (row_of f) rows)
        (sound_before rows f m b) e
        (among (row_of f) rows e lt a))

    -- two faults of a table are one
    one_fault : (rows : List TextRow) (e f : TableError) → e ≢ NoMemory → f ≢ NoMemory
        → IsFaultOf key value number rows e → IsFaultOf key value number rows f → e ≡ f
    one_fault rows e f n m a b =
        elim (cases_lt (row_of e) (row_of f)) [
          | inl less ↦ absurd (not_before rows e f n m less a b)
          | inr le ↦ elim (cases_lt (row_of f) (row_of e)) [
            | inl less ↦ absurd (not_before rows f e m n less b a)
            | inr ge ↦ same_row rows e f n m (omega arith) a b
          ]
        ]

module _ (rows : FallbackRows) (e f : TableError) (n : e ≢ NoMemory) (m : f ≢ NoMemory) where
  -- two faults of the tables 0 to 2 are one
  one_likely_fault : IsLikelyFault rows e → IsLikelyFault rows f → e ≡ f
  one_likely_fault (in_language a) (in_language b) =
      one_fault LanguageKey LikelyValue 0 language_key likely_value _ e f n m a b
  one_likely_fault (in_language a) (in_language_script before b) =
      absurd (n (no_fault LanguageKey LikelyValue language_key likely_value 0 _ before e a))
  one_likely_fault (in_language a) (in_language_region before behind b) =
      absurd (n (no_fault LanguageKey LikelyValue language_key likely_value 0 _ before e a))
  one_likely_fault (in_language_script before a) (in_language b) =
      absurd (m (no_fault LanguageKey LikelyValue language_key likely_value 0 _ before f b))
  one_likely_fault (in_language_script sound a) (in_language_script before b) =
      one_fault LanguageScriptKey RegionValue 1 language_script_key region_value _ e f n m a b
  one_likely_fault (in_language_script sound a) (in_language_region before behind b) =
      absurd
      (n
      (no_fault LanguageScriptKey RegionValue language_script_key region_value 1
      _ behind e a))
  one_likely_fault (in_language_region before behind a) (in_language b) =
      absurd (m (no_fault LanguageKey LikelyValue language_key likely_value 0 _ before f b))
  one_likely_fault (in_language_region before behind a) (in_language_script sound b) =
      absurd
      (m
      (no_fault LanguageScriptKey RegionValue language_script_key region_value 1
      _ behind f b))
  one_likely_fault (in_language_region sound too a) (in_language_region before behind b) =
      one_fault LanguageRegionKey ScriptValue 2 language_region_key script_value _ e f n m a b

  -- two first faults of all are one
  pub one_first_fault : IsFirstFault rows e → IsFirstFault rows f → e ≡ f
  one_first_fault (in_likely a) (in_likely b) = one_likely_fault a b
  one_first_fault (in_likely a) (in_parents before b) = absurd (n (no_likely_fault rows e before a))
  one_first_fault (in_parents before a) (in_likely b) = absurd (m (no_likely_fault rows f before b))
  one_first_fault (in_parents sound a) (in_parents before b) =
      one_fault ChildKey ParentValue 3 child_key parent_value _ e f n m a b
