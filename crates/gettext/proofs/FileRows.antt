-- The rows of a file, read one after the other: row 0, its metadata, and the others.
use Rattle.std.proofs.Common.{◌≡◌, ℕ, suc, ◌-◌, List, [], ◌∷◌, ◌++◌, Some, None, refl, sym, ap, ◌∙◌}
use Rattle.std.proofs.Common.{arith, ◌⊎◌}
use Rattle.std.specs.Option.{unwrap_or}
use Rattle.std.specs.List.{AllByRecursion}
use Rattle.writeable_core.specs.FirstFailure.{first_failure}
use Rattle.writeable_core.specs.FirstFailureLaws.{failed_first, passed_first}
use Rattle.gettext.specs.declared.error.Error.{Error}
use Rattle.gettext.specs.declared.error.Error.TheVariants.{NoMemory}
use Rattle.gettext.specs.declared.encoding.Encoding.{Encoding}
use Rattle.gettext.specs.declared.parser.settings.Settings.{Settings}
use Rattle.gettext.specs.declared.spans.Row.{Row}
use Rattle.gettext.specs.Options.{Options}
use Rattle.gettext.specs.Mo.{first_encoding, later_encoding, fields_in_file}
use Rattle.gettext.specs.Faults.{row_conditions, rows_conditions, all_rows_conditions}
use Rattle.gettext.specs.Checks.{metadata_checks, all_rows_checks}
use Rattle.gettext.specs.Reader.{row_of, rows_from, IsReadRow, IsRowIn, Pushed}
use Rattle.gettext.specs.Decoding.{AreRowsIn}
use Rattle.gettext.specs.Settings.{IsSettings}
use Rattle.gettext.specs.Files.{found_fields, AreFileRows}
use Rattle.gettext.proofs.Memory.{or_memory}

-- a file without rows is read, and nothing is forced by metadata
pub no_rows : (b : List ℕ) (o : Options) (n : ℕ) (rows : List Row) (s : Settings) → n ≡ 0
    → rows ≡ [] → IsSettings o [] s
    → AreFileRows b o n rows s × (first_failure (all_rows_checks b o n) ≡ None)
unfolding all_rows_conditions rows_from found_fields
no_rows b o n rows s z r h = rw (z, r) (record { are = refl; fit = tt; settings = h }, refl)

-- rows in one encoding are so from the first on
same_fit : (b : List ℕ) (e : Encoding) (rows : List Row) → AllByRecursion (IsRowIn b e) rows
    → AreRowsIn b e e rows
same_fit b e [] all = tt
same_fit b e (r ∷ rows) all = (all.0, same_fit b e rows all.1)

module _ (b : List ℕ) (o : Options) (n : ℕ) (some : n ≡ 0 → ⊥) where
  -- a file with rows has a first one
  more : n ≡ suc (n - 1)
  more = omega (arith, some)

  -- the conditions of all rows: those of the first, of the metadata, and of the others
  conditions : first_failure (all_rows_checks b o n)
      ≡ first_failure
      (row_conditions b (first_encoding o)
      0 ++ (metadata_checks o (fields_in_file b o) ++ rows_conditions b (later_encoding b o) 1
      (n - 1)))
  unfolding all_rows_conditions
  conditions = ap (λ (k : ℕ). first_failure (all_rows_checks b o k)) more

  -- where the first row fails, so do all
  pub first_fails : (e : Error) → first_failure (row_conditions b (first_encoding o) 0) ≡ Some e
      → first_failure (all_rows_checks b o n) ≡ Some e
  first_fails e h = conditions ∙ failed_first (row_conditions b (first_encoding o) 0) _ e h

  module _ (first : first_failure (row_conditions b (first_encoding o) 0) ≡ None) where
    -- where it passes, what is left is the metadata and the other rows
    behind_first : first_failure (all_rows_checks b o n)
        ≡ first_failure
        (metadata_checks o (fields_in_file b o) ++ rows_conditions b (later_encoding b o) 1 (n - 1))
    behind_first = conditions ∙ passed_first (row_conditions b (first_encoding o) 0) _ first

    -- where the metadata fail, so do all
    pub metadata_fail : (e : Error)
        → (e ≡ NoMemory) ⊎ (first_failure (metadata_checks o (fields_in_file b o)) ≡ Some e)
        → (e ≡ NoMemory) ⊎ (first_failure (all_rows_checks b o n) ≡ Some e)
    metadata_fail e h = or_memory h
        (λ g. behind_first ∙ failed_first (metadata_checks o (fields_in_file b o)) _ e g)

    module _ (s : Settings) (settles : IsSettings o (unwrap_or (fields_in_file b o) []) s)
        (metadata : first_failure (metadata_checks o (fields_in_file b o)) ≡ None) where
      -- the other rows are in the encoding that is settled
      later_is : later_encoding b o ≡ s.encoding
      unfolding later_encoding
      later_is = rw settles.encoding refl

      -- where the metadata pass too, what is left is the other rows
      behind_metadata : first_failure (all_rows_checks b o n)
          ≡ first_failure (rows_conditions b s.encoding 1 (n - 1))
      behind_metadata = behind_first ∙ passed_first (metadata_checks o (fields_in_file b o))
          _ metadata ∙ ap (λ (e : Encoding). first_failure (rows_conditions b e 1 (n - 1))) later_is

      -- where these fail, so do all
      pub others_fail : (e : Error)
          → (e ≡ NoMemory) ⊎ (first_failure (rows_conditions b s.encoding 1 (n - 1)) ≡ Some e)
          → (e ≡ NoMemory) ⊎ (first_failure (all_rows_checks b o n) ≡ Some e)
      others_fail e h = or_memory h (λ g. behind_metadata ∙ g)

      -- where these pass, the rows are those of the file
      pub all_read : (row : Row) (old new : List Row) → IsReadRow b (first_encoding o) 0 row
          → old ≡ row ∷ [] → Pushed old new b s.encoding 1 (n - 1)
          → first_failure (rows_conditions b s.encoding 1 (n - 1)) ≡ None
          → AreFileRows b o n new s × (first_failure (all_rows_checks b o n) ≡ None)
      unfolding rows_from found_fields
      all_read row old new read one pushed rest =
          let whole : rows_from b 0 n ≡ row_of b 0 ∷ rows_from b 1 (n - 1) =
          ap (rows_from b 0) more in
          let fields : found_fields b o n ≡ fields_in_file b o = ap (found_fields b o) more in
          let fits : IsRowIn b (first_encoding o) (row_of b 0) = rw (← read.is) read.fits in
          let all : new ≡ row_of b 0 ∷ rows_from b 1 (n - 1) = pushed.rows
          ∙ ap (λ (rs : List Row). rs ++ rows_from b 1 (n - 1))
          (one ∙ ap (λ (r : Row). r ∷ []) read.is) in (
            record {
              are = all ∙ sym whole;
              fit = rw whole (fits, same_fit b s.encoding (rows_from b 1 (n - 1)) pushed.fit);
              settings = rw fields settles;
            },
            behind_metadata ∙ rest,
          )
