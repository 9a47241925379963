-- Rows that are read one after the other.
use Rattle.std.proofs.Common.{◌≡◌, ℕ, zero, suc, ◌+◌, ◌-◌, ◌≤◌, ◌<◌, List, [], ◌∷◌, ◌++◌, Some}
use Rattle.std.proofs.Common.{None, refl, ap, ◌∙◌, arith, append_assoc}
use Rattle.std.proofs.lemmas.List.{append-nil}
use Rattle.writeable_core.specs.FirstFailure.{first_failure}
use Rattle.writeable_core.specs.FirstFailureLaws.{failed_first, passed_first}
use Rattle.gettext.specs.declared.error.Error.{Error}
use Rattle.gettext.specs.declared.encoding.Encoding.{Encoding}
use Rattle.gettext.specs.declared.spans.Row.{Row}
use Rattle.gettext.specs.Faults.{row_conditions, rows_conditions}
use Rattle.gettext.proofs.Lists.{AllByRecursion-push}
use Rattle.gettext.specs.Reader.{row_of, rows_from, IsReadRow, IsRowIn, Pushed}

-- one row more stands behind the others
rows_from-push : (b : List ℕ) (i n : ℕ)
    → rows_from b i (suc n) ≡ rows_from b i n ++ row_of b (i + n) ∷ []
unfolding rows_from
rows_from-push b i zero = let k : i + 0 ≡ i = omega arith in rw k refl
rows_from-push b i (suc n) = let k : i + suc n ≡ suc i + n = omega arith in
    rw k (ap (λ (rs : List Row). row_of b i ∷ rs) (rows_from-push b (suc i) n))

-- the rows before index are pushed, and the conditions from first on go as those from index on
pub record IsPushing (old now : List Row) (b : List ℕ) (e : Encoding) (first count index : ℕ) : Type
    0 where
  pub started : first ≤ index
  pub inside : index ≤ count
  pub pushed : Pushed old now b e first (index - first)
  pub conditions : first_failure (rows_conditions b e first (count - first))
      ≡ first_failure (rows_conditions b e index (count - index))

-- before the first row nothing is pushed
pub none_pushed : (old : List Row) (b : List ℕ) (e : Encoding) (first count : ℕ) → first ≤ count
    → IsPushing old old b e first count first
unfolding rows_from
none_pushed old b e first count le =
    let k : first - first ≡ 0 = omega arith in
    record {
      started = omega arith;
      inside = le;
      pushed = rw k (record { rows = rw append-nil refl; fit = tt });
      conditions = refl;
    }

module _ (old now : List Row) (b : List ℕ) (e : Encoding) (first count index : ℕ)
    (h : IsPushing old now b e first count index) where
  module _ (lt : index < count) where
    -- a row is left
    left : count - index ≡ suc (count - (index + 1))
    left = omega arith

    -- where that row fails, so do the rows
    pub fails_at : (fault : Error) → first_failure (row_conditions b e index) ≡ Some fault
        → first_failure (rows_conditions b e first (count - first)) ≡ Some fault
    unfolding rows_conditions
    fails_at fault f = h.conditions ∙ rw left
        (failed_first (row_conditions b e index)
        (rows_conditions b e (suc index) (count - (index + 1))) fault f)

    -- where it passes, it is pushed
    pub pushes_row : (r : Row) → IsReadRow b e index r
        → first_failure (row_conditions b e index) ≡ None
        → IsPushing old (now ++ r ∷ []) b e first count (index + 1)
    unfolding rows_conditions
    pushes_row r read passed =
        let j : index + 1 ≡ suc index = omega arith in
        let more : index + 1 - first ≡ suc (index - first) = omega (arith, h.started) in
        let place : first + (index - first) ≡ index = omega (arith, h.started) in
        let last : rows_from b first (index + 1 - first)
        ≡ rows_from b first (index - first) ++ r ∷ [] =
        rw (more, rows_from-push b first (index - first), place, read.is) refl in
        record {
          started = omega (arith, h.started);
          inside = omega (arith, lt);
          pushed = record {
            rows = rw last
                (ap (λ (rs : List Row). rs ++ r ∷ []) h.pushed.rows
                ∙ append_assoc old (rows_from b first (index - first)) (r ∷ []));
            fit = rw last
                (AllByRecursion-push (IsRowIn b e) (rows_from b first (index - first)) r
                h.pushed.fit read.fits);
          };
          conditions = h.conditions ∙ rw (left, j)
              (passed_first (row_conditions b e index)
              (rows_conditions b e (suc index) (count - suc index)) passed);
        }

  -- behind the last row all are, and none failed
  pub all_pushed : (index < count → ⊥)
      → Pushed old now b e first (count - first)
      × (first_failure (rows_conditions b e first (count - first)) ≡ None)
  unfolding rows_conditions
  all_pushed ended =
      let same : index ≡ count = omega (arith, ended, h.inside) in
      let none : count - index ≡ 0 = omega (arith, same) in
      (rw (← same) h.pushed, h.conditions ∙ rw none refl)
