-- The faults of a file are seven.
use Rattle.std.proofs.Common.{◌≡◌, ℕ, zero, suc, Bool, true, false, cond, List, [], ◌∷◌, ◌++◌}
use Rattle.std.proofs.Common.{Some, subst}
use Rattle.std.specs.List.{AllByRecursion}
use Rattle.writeable_core.specs.FirstFailure.{Condition, first_failure}
use Rattle.gettext.specs.declared.error.Error.{Error}
use Rattle.gettext.specs.declared.encoding.Encoding.{Encoding}
use Rattle.gettext.specs.Options.{Options}
use Rattle.gettext.specs.Layout.{count_of}
use Rattle.gettext.specs.Mo.{later_encoding}
use Rattle.gettext.specs.Faults.{IsMoFault, header_conditions, text_conditions, head_conditions}
use Rattle.gettext.specs.Faults.{forms_conditions, original_conditions, translation_conditions}
use Rattle.gettext.specs.Faults.{row_conditions, rows_conditions, metadata_conditions}
use Rattle.gettext.specs.Faults.{all_rows_conditions, first_fault, mo_fault}

-- the fault of each condition is one of the seven
abbrev AreFaults : List (Condition Error) → Type 0
AreFaults = AllByRecursion (λ c. IsMoFault c.1)

-- so is that of the first that fails
is_one : (cs : List (Condition Error)) (e : Error) → AreFaults cs → first_failure cs ≡ Some e
    → IsMoFault e
is_one [] e all h = absurd cc
is_one (c ∷ cs) e all h = by_test c.0 (λ g. is_one cs e all.1 g) h where
  by_test : (t : Bool) → (first_failure cs ≡ Some e → IsMoFault e)
      → cond t (first_failure cs) (Some c.1) ≡ Some e → IsMoFault e
  by_test true rest g = rest g
  by_test false rest g = let same : c.1 ≡ e = cc in subst IsMoFault same all.0

-- those of rows
rows : (b : List ℕ) (e : Encoding) (i n : ℕ) → AreFaults (rows_conditions b e i n)
unfolding rows_conditions row_conditions original_conditions translation_conditions text_conditions
    head_conditions forms_conditions
rows b e i zero = tt
rows b e i (suc n) = (tt, (tt, (tt, (tt, (tt, (tt, (tt, (tt, rows b e (suc i) n))))))))

-- those of the first row, of the metadata, and of the others
all_rows : (b : List ℕ) (o : Options) (ruled : Bool) (n : ℕ)
    → AreFaults (all_rows_conditions b o ruled n)
unfolding all_rows_conditions metadata_conditions row_conditions original_conditions
    translation_conditions text_conditions head_conditions forms_conditions
all_rows b o ruled zero = tt
all_rows b o ruled (suc n) =
    let others = rows b (later_encoding b o) 1 n in
    (tt, (tt, (tt, (tt, (tt, (tt, (tt, (tt, (tt, (tt, (tt, others)))))))))))

-- what is wrong with a file is one of the seven faults
pub is_mo_fault : (b : List ℕ) (o : Options) (e : Error) → mo_fault b o (Some e) → IsMoFault e
unfolding first_fault header_conditions
is_mo_fault b o e h =
    is_one (header_conditions b ++ all_rows_conditions b o h.ruled (count_of b)) e
    (tt, (tt, (tt, (tt, all_rows b o h.ruled (count_of b))))) h.first
