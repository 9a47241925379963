-- Two faults of the same rows, other than want of memory, are one.
use Rattle.std.proofs.Common.{◌≡◌, ◌≢◌, ℕ, zero, suc, ◌<◌, List, [], ◌∷◌, take, Some, refl, sym, ap}
use Rattle.std.proofs.Common.{◌∙◌, subst, inl, inr, arith}
use Rattle.std.specs.List.{slice_get}
use lib.Seq.{take-take}
use Rattle.std.proofs.lemmas.Bool.{cases_lt}
use Rattle.writeable_core.specs.declared.text.TextRow.{TextRow}
use Rattle.language_tags_registry.specs.Faults.{IsFaultOf, IsFirstFault}
use Rattle.language_tags_registry.specs.Kinds.{kind_of}
use Rattle.language_tags_registry.specs.Rows.{AreSound, HasEarlierKey, HasKey, HasValue, rows_of}
use Rattle.language_tags_registry.specs.declared.error.RegistryError.{RegistryError}
use Rattle.language_tags_registry.specs.declared.error.RegistryError.TheVariants.{DuplicateKey}
use Rattle.language_tags_registry.specs.declared.error.RegistryError.TheVariants.{BadKey, BadValue}
use Rattle.language_tags_registry.specs.declared.error.RegistryError.TheVariants.{NoMemory}
use Rattle.language_tags_registry.specs.declared.kind.Kind.{Kind}
use Rattle.language_tags_registry.specs.declared.kind.RegistryTable.{RegistryTable}
use Rattle.language_tags_registry.specs.declared.rows.RegistryRows.{RegistryRows}
use Rattle.language_tags_registry.proofs.RowLaws.{no_fault}
use Rattle.language_tags_registry.proofs.TableNumbers.{same_number}

-- a row of the first rows
get_less : (i n : ℕ) (rows : List TextRow) → i < n → slice_get (take n rows) i ≡ slice_get rows i
get_less i zero rows lt = absurd (omega arith)
get_less i (suc n) [] lt = refl
get_less zero (suc n) (row ∷ rows) lt = refl
get_less (suc i) (suc n) (row ∷ rows) lt = get_less i n rows (omega arith)

-- the row that a fault names
abbrev row_of : RegistryError → ℕ
row_of (DuplicateKey table i) = i
row_of (BadKey table i) = i
row_of (BadValue table i) = i
row_of NoMemory = 0

-- the row at one place
one_row : (rows : List TextRow) (i j : ℕ) (row other : TextRow) → i ≡ j
    → slice_get rows i ≡ Some row
    → slice_get rows j ≡ Some other → row ≡ other
one_row rows i j row other same at_i at_j =
    let both : Some row ≡ Some other = sym at_i ∙ ap (slice_get rows) same ∙ at_j in cc

module _ (kind : Kind) where
  -- what stands before a row among the first rows
  sound_among : (i n : ℕ) (rows : List TextRow) → i < n → AreSound kind (take i rows)
      → AreSound kind (take i (take n rows))
  sound_among i n rows lt h = subst (AreSound kind) (sym (take-take i n rows (omega arith))) h

  -- a fault is one of the rows up to its own
  among : (n : ℕ) (rows : List TextRow) (e : RegistryError) → row_of e < n → IsFaultOf kind rows e
      → IsFaultOf kind (take n rows) e
  among n rows (BadKey table i) lt (is, fault) = (
    is,
    record {
      before = sound_among i n rows lt fault.before;
      row = fault.row;
      row_is = get_less i n rows lt ∙ fault.row_is;
      fault_is = fault.fault_is;
    },
  )
  among n rows (BadValue table i) lt (is, fault) = (
    is,
    record {
      before = sound_among i n rows lt fault.before;
      row = fault.row;
      row_is = get_less i n rows lt ∙ fault.row_is;
      fault_is = fault.fault_is;
    },
  )
  among n rows (DuplicateKey table i) lt (is, fault) = (
    is,
    record {
      before = sound_among i n rows lt fault.before;
      row = fault.row;
      row_is = get_less i n rows lt ∙ fault.row_is;
      fault_is = subst (λ earlier. HasEarlierKey kind earlier fault.row)
          (sym (take-take i n rows (omega arith))) fault.fault_is;
    },
  )
  among n rows NoMemory lt fault = tt

  -- the rows before a faulty one are sound
  sound_before : (rows : List TextRow) (e : RegistryError) → e ≢ NoMemory → IsFaultOf kind rows e
      → AreSound kind (take (row_of e) rows)
  sound_before rows (BadKey table i) other (is, fault) = fault.before
  sound_before rows (BadValue table i) other (is, fault) = fault.before
  sound_before rows (DuplicateKey table i) other (is, fault) = fault.before
  sound_before rows NoMemory other fault = absurd (other refl)

  -- two faults of one row are one
  same_row : (rows : List TextRow) (e f : RegistryError) → e ≢ NoMemory → f ≢ NoMemory
      → row_of e ≡ row_of f
      → IsFaultOf kind rows e → IsFaultOf kind rows f → e ≡ f
  same_row rows (BadKey t i) (BadKey u j) n m same (p, a) (q, b) =
      λ k. BadKey ((p ∙ sym q) k) (same k)
  same_row rows (BadValue t i) (BadValue u j) n m same (p, a) (q, b) =
      λ k. BadValue ((p ∙ sym q) k) (same k)
  same_row rows (DuplicateKey t i) (DuplicateKey u j) n m same (p, a) (q, b) =
      λ k. DuplicateKey ((p ∙ sym q) k) (same k)
  same_row rows (BadKey t i) (BadValue u j) n m same (p, a) (q, b) =
      absurd (a.fault_is (subst (HasKey kind) (one_row rows j i b.row a.row (sym same) b.row_is
      a.row_is) b.fault_is.0))
  same_row rows (BadKey t i) (DuplicateKey u j) n m same (p, a) (q, b) =
      absurd (a.fault_is (subst (HasKey kind) (one_row rows j i b.row a.row (sym same) b.row_is
      a.row_is) b.fault_is.0))
  same_row rows (BadValue t i) (BadKey u j) n m same (p, a) (q, b) =
      absurd (b.fault_is (subst (HasKey kind) (one_row rows i j a.row b.row same a.row_is b.row_is)
      a.fault_is.0))
  same_row rows (DuplicateKey t i) (BadKey u j) n m same (p, a) (q, b) =
      absurd (b.fault_is (subst (HasKey kind) (one_row rows i j a.row b.row same a.row_is b.row_is)
      a.fault_is.0))
  same_row rows (BadValue t i) (DuplicateKey u j) n m same (p, a) (q, b) =
      absurd (a.fault_is.1 (subst (HasValue kind) (one_row rows j i b.row a.row (sym same) b.row_is
      a.row_is) b.fault_is.1))
  same_row rows (DuplicateKey t i) (BadValue u j) n m same (p, a) (q, b) =
      absurd (b.fault_is.1 (subst (HasValue kind) (one_row rows i j a.row b.row same a.row_is
      b.row_is) a.fault_is.1))
  same_row rows NoMemory f n m same a b = absurd (n refl)
  same_row rows (BadKey t i) NoMemory n m same a b = absurd (m refl)
  same_row rows (BadValue t i) NoMemory n m same a b = absurd (m refl)
  same_row rows (DuplicateKey t i) NoMemory n m same a b = absurd (m refl)

  -- no faulty row stands before the first one
  not_before : (rows : List TextRow) (e f : RegistryError) → e ≢ NoMemory → f ≢ NoMemory
      → row_of e < row_of f
      → IsFaultOf kind rows e → IsFaultOf kind rows f → ⊥
  not_before rows e f n m lt a b =
      n (no_fault kind (take (row_of f) rows) (sound_before rows f m b) e
      (among (row_of f) rows e lt a))

  -- two faults of a table are one
  one_fault : (rows : List TextRow) (e f : RegistryError) → e ≢ NoMemory → f ≢ NoMemory
      → IsFaultOf kind rows e → IsFaultOf kind rows f → e ≡ f
  one_fault rows e f n m a b =
      elim (cases_lt (row_of e) (row_of f)) [
        | inl less ↦ absurd (not_before rows e f n m less a b)
        | inr le ↦ elim (cases_lt (row_of f) (row_of e)) [
          | inl less ↦ absurd (not_before rows f e m n less b a)
          | inr ge ↦ same_row rows e f n m (omega arith) a b
        ]
      ]

module _ (rows : RegistryRows) where
  -- no table with a fault stands before the first one
  table_not_before : (e f : RegistryError) → e ≢ NoMemory
      → (a : IsFirstFault rows e) (b : IsFirstFault rows f)
      → (kind_of a.table).number < (kind_of b.table).number → ⊥
  table_not_before e f n a b lt =
      n (no_fault (kind_of a.table) (rows_of a.table rows) (b.before a.table lt) e a.fault)

  -- faults of one table are one
  same_table : (e f : RegistryError) → e ≢ NoMemory → f ≢ NoMemory → (s t : RegistryTable) → s ≡ t
      → IsFaultOf (kind_of s) (rows_of s rows) e → IsFaultOf (kind_of t) (rows_of t rows) f → e ≡ f
  same_table e f n m s t same a b =
      one_fault (kind_of t) (rows_of t rows) e f n m
      (subst (λ table. IsFaultOf (kind_of table) (rows_of table rows) e) same a) b

  -- two first faults of all are one
  pub one_first_fault : (e f : RegistryError) → e ≢ NoMemory → f ≢ NoMemory → IsFirstFault rows e
      → IsFirstFault rows f
      → e ≡ f
  one_first_fault e f n m a b =
      elim (cases_lt (kind_of a.table).number (kind_of b.table).number) [
        | inl less ↦ absurd (table_not_before e f n a b less)
        | inr le ↦ elim (cases_lt (kind_of b.table).number (kind_of a.table).number) [
          | inl less ↦ absurd (table_not_before f e m b a less)
          | inr ge ↦ same_table e f n m a.table b.table (same_number a.table b.table (omega arith))
              a.fault b.fault
        ]
      ]
