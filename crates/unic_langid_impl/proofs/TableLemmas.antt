-- A table that is filled row by row.
use Rattle.std.proofs.Common.{◌≡◌, ◌≢◌, zero, suc, Bool, true, false, cond, List, [], ◌∷◌, ◌++◌}
use Rattle.std.proofs.Common.{map, Option, Some, None, is_some, Ordering, refl, sym, ap, ◌∙◌, subst}
use Rattle.std.proofs.Common.{arith}
use Rattle.std.specs.BTreeMap.{is_at}
use Rattle.std.specs.Cmp.{IsTotalOrder, eq_by_cmp_equiv, Equal-is, tied_itself}
use Rattle.std.specs.List.{AllZip, Any}
use Rattle.std.specs.Ordering.{eq_by_cmp, is_eq}
use Rattle.std.specs.declared.cmp.Ordering.TheVariants.{Equal}
use Rattle.std.proofs.lemmas.Bool.{false≢true}
use Rattle.std.proofs.lemmas.Slice.Zip.{all_zipped_more}
use Rattle.writeable_core.specs.declared.text.TextRow.{TextRow}
use Rattle.unic_langid_impl.specs.Likely.{Triple, row}
use Rattle.unic_langid_impl.specs.LikelyRows.{AreDistinct, IsTableOf, Misses, PrintsTriple}

module _ {K : Type 0} (R : K → K → Ordering) (o : IsTotalOrder R)
    (ties : (a b : K) → R a b ≡ Equal → a ≡ b) where
  abbrev keys_of : List (K × Triple) → List K
  keys_of es = map (λ e. e.0) es

  ties_itself : (a b : K) → a ≡ b → eq_by_cmp R a b ≡ true
  ties_itself a b e = subst (λ x. eq_by_cmp R a x ≡ true) e (ap is_eq (tied_itself o a))

  equal_of_tie : (a b : K) → eq_by_cmp R a b ≡ true → a ≡ b
  equal_of_tie a b tie = ties a b ((Equal-is (R a b)).0 tie)

  misses-push : (es : List (K × Triple)) (e : K × Triple) (x : K) → Misses (keys_of es) x → x ≢ e.0
      → Misses (keys_of (es ++ e ∷ [])) x
  misses-push [] e x h other = (other, tt)
  misses-push (y ∷ es) e x h other = (h.0, misses-push es e x h.1 other)

  -- a look-up that finds nothing passed the first entry
  passed : (b : Bool) (x : Triple) (p : Option Triple) → cond b (Some x) p ≡ None
      → (b ≡ false) × (p ≡ None)
  passed true x p h = cc
  passed false x p h = (refl, h)

  distinct-push : (es : List (K × Triple)) (e : K × Triple) → row R es e.0 ≡ None
      → AreDistinct (keys_of es)
      → AreDistinct (keys_of (es ++ e ∷ []))
  distinct-push [] e none h = (tt, tt)
  distinct-push (y ∷ es) e none h =
      let past = passed (eq_by_cmp R e.0 y.0) y.1 (row R es e.0) none in
      let other : y.0 ≢ e.0 = λ same. false≢true (sym past.0 ∙ ties_itself e.0 y.0 (sym same)) in
      (misses-push es e y.0 h.0 other, distinct-push es e past.1 h.1)

  push-new : (es : List (K × Triple)) (k q : K) (t : Triple) → row R es q ≡ None
      → row R (es ++ (k, t) ∷ []) q ≡ cond (eq_by_cmp R q k) (Some t) None
  push-new [] k q t none = refl
  push-new (e ∷ es) k q t none =
      let past = passed (eq_by_cmp R q e.0) e.1 (row R es q) none in
      rw past.0 (push-new es k q t past.1)

  push-other : (es : List (K × Triple)) (k q : K) (t : Triple) → eq_by_cmp R q k ≡ false
      → row R (es ++ (k, t) ∷ []) q ≡ row R es q
  push-other [] k q t other = rw other refl
  push-other (e ∷ es) k q t other =
      ap (cond (eq_by_cmp R q e.0) (Some e.1)) (push-other es k q t other)

  module _ (key : TextRow → K → Type 0) where
    pub no_rows : IsTableOf key R [] []
    no_rows = record { entries = []; say = record { said = tt; distinct = tt }; same = λ q. refl }

    pub one_more : (rows : List TextRow) (old new : List (K × Triple)) (r : TextRow)
        (k : K) (t : Triple)
        → IsTableOf key R rows old → key r k → PrintsTriple r.third t → None ≡ row R old k
        → ((q : K) → row R new q ≡ cond (is_at (R k) q) (Some t) (row R old q))
        → IsTableOf key R (rows ++ r ∷ []) new
    one_more rows old new r k t h key_is value_is fresh inserted =
        let none : row R h.entries k ≡ None = sym (h.same k) ∙ sym fresh in record {
          entries = h.entries ++ (k, t) ∷ [];
          say = record {
            said =
                all_zipped_more (λ row entry. key row entry.0
                × PrintsTriple row.third entry.1) rows h.entries r (k, t)
                h.say.said (key_is, value_is);
            distinct = distinct-push h.entries (k, t) none h.say.distinct;
          };
          same = λ q. inserted q ∙ by_tie q none (eq_by_cmp R q k) refl;
        }
      where
        turned : (q : K) → is_at (R k) q ≡ eq_by_cmp R q k
        turned q = (eq_by_cmp_equiv o).symm k q

        by_tie : (q : K) → row R h.entries k ≡ None → (b : Bool) → eq_by_cmp R q k ≡ b
            → cond (is_at (R k) q) (Some t) (row R old q) ≡ row R (h.entries ++ (k, t) ∷ []) q
        by_tie q none true e =
            let same = equal_of_tie q k e in
            ap (λ b. cond b (Some t) (row R old q)) (turned q ∙ e)
            ∙ sym (push-new h.entries k q t (ap (row R h.entries) same ∙ none)
            ∙ ap (λ b. cond b (Some t) None) e)
        by_tie q none false e =
            ap (λ b. cond b (Some t) (row R old q)) (turned q ∙ e) ∙ h.same q
            ∙ sym (push-other h.entries k q t e)

    found_row : (rows : List TextRow) (entries : List (K × Triple)) (k : K)
        → AllZip (λ row entry. key row entry.0 × PrintsTriple row.third entry.1) rows entries
        → is_some (row R entries k) ≡ true → Any (λ other. key other k) rows
    found_row [] [] k said found = absurd (false≢true found)
    found_row [] (e ∷ entries) k said found = absurd said
    found_row (r ∷ rows) [] k said found = absurd said
    found_row (r ∷ rows) (e ∷ entries) k said found =
        elim (eq_by_cmp R k e.0) as
        (λ b. eq_by_cmp R k e.0 ≡ b → is_some (cond b (Some e.1) (row R entries k)) ≡ true
        → Any (λ other. key other k) (r ∷ rows)) [
          | true ↦ λ tie found.
              (zero, r, omega arith, refl, subst (key r) (sym (equal_of_tie k e.0 tie)) said.0.0)
          | false ↦ λ tie found.
              let (i, other, below, is, key_is) = found_row rows entries k said.1 found in
              (suc i, other, omega arith, is, key_is)
        ] refl found

    pub earlier_key : (rows : List TextRow) (table : List (K × Triple)) (k : K) (t : Triple)
        → IsTableOf key R rows table
        → Some t ≡ row R table k → Any (λ other. key other k) rows
    earlier_key rows table k t h found =
        found_row rows h.entries k h.say.said (ap is_some (sym (h.same k) ∙ sym found))
