-- Rows make one registry at most, and where none is faulty there is no fault.
use Rattle.std.proofs.Common.{◌≡◌, ℕ, ◌<◌, List, get_or, length, length-take, get_or-take, Some}
use Rattle.std.proofs.Common.{refl, sym, ap, ◌∙◌, subst, arith}
use Rattle.std.specs.List.{slice_get}
use Rattle.std.proofs.lemmas.Option.{get_or_from_slice_get, slice_get_within}
use Rattle.writeable_core.specs.declared.text.TextRow.{TextRow}
use Rattle.language_tags_registry.specs.Faults.{AreRowsSound, AreTablesOf, IsFaultOf, IsFirstFault}
use Rattle.language_tags_registry.specs.Kinds.{kind_of}
use Rattle.language_tags_registry.specs.Registry.{Tables, table_of, value_of}
use Rattle.language_tags_registry.specs.Rows.{AreSound, HasKey, HasValue, row_key, rows_of}
use Rattle.language_tags_registry.specs.declared.error.RegistryError.{RegistryError}
use Rattle.language_tags_registry.specs.declared.error.RegistryError.TheVariants.{DuplicateKey}
use Rattle.language_tags_registry.specs.declared.error.RegistryError.TheVariants.{BadKey, BadValue}
use Rattle.language_tags_registry.specs.declared.error.RegistryError.TheVariants.{NoMemory}
use Rattle.language_tags_registry.specs.declared.kind.Kind.{Kind}
use Rattle.language_tags_registry.specs.declared.kind.RegistryTable.{RegistryTable}
use Rattle.language_tags_registry.specs.declared.rows.RegistryRows.{RegistryRows}

-- registries of the same rows answer alike
pub same_answers : (rows : RegistryRows) (F G : Tables) → AreTablesOf rows F → AreTablesOf rows G
    → (table : RegistryTable) (key : List ℕ) → value_of (table_of table F) key
    ≡ value_of (table_of table G) key
same_answers rows F G h g table key = (h table).same key ∙ sym ((g table).same key)

-- rows of which a registry is are sound
pub sound_rows : (rows : RegistryRows) (F : Tables) → AreTablesOf rows F → AreRowsSound rows
sound_rows rows F h table = (h table).sound

module _ (kind : Kind) (rows : List TextRow) (h : AreSound kind rows) where
  -- the row at a place of sound rows
  key_at : (i : ℕ) (row : TextRow) → slice_get rows i ≡ Some row → HasKey kind row
  key_at i row at =
      subst (HasKey kind) (get_or_from_slice_get rows i row row at)
      (h.keys i row (slice_get_within rows i row at))

  value_at : (i : ℕ) (row : TextRow) → slice_get rows i ≡ Some row → HasValue kind row
  value_at i row at =
      subst (HasValue kind) (get_or_from_slice_get rows i row row at)
      (h.values i row (slice_get_within rows i row at))

  -- sound rows have no fault
  pub no_fault : (e : RegistryError) → IsFaultOf kind rows e → e ≡ NoMemory
  no_fault (BadKey table i) (is, fault) = absurd (fault.fault_is (key_at i fault.row fault.row_is))
  no_fault (BadValue table i) (is, fault) =
      absurd (fault.fault_is.1 (value_at i fault.row fault.row_is))
  no_fault (DuplicateKey table i) (is, fault) =
      let (j, other, below, at, same) = fault.fault_is.2 in
      let within : i < length rows = slice_get_within rows i fault.row fault.row_is in
      let earlier : j < i = omega (arith, below, length-take i rows) in
      let other_is : get_or rows j other ≡ other = sym (get_or-take i rows j other earlier) ∙ at in
      let row_is : get_or rows i other ≡ fault.row =
      get_or_from_slice_get rows i fault.row other fault.row_is in
      absurd (h.distinct j i other earlier within (ap row_key other_is ∙ same
      ∙ ap row_key (sym row_is)))
  no_fault NoMemory fault = refl

-- where no row is faulty there is no fault
pub no_first_fault : (rows : RegistryRows) (e : RegistryError) → AreRowsSound rows
    → IsFirstFault rows e → e ≡ NoMemory
no_first_fault rows e h first =
    no_fault (kind_of first.table) (rows_of first.table rows) (h first.table) e first.fault
