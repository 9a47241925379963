-- The order of triples is total, and triples that differ do not tie.
use Rattle.std.proofs.Common.{◌≡◌, ◌≢◌, false, refl, sym, subst, ◌⊎◌, inl, inr}
use Rattle.std.specs.declared.cmp.Ordering.TheVariants.{Less, Equal, Greater}
use Rattle.std.specs.Ordering.{is_eq, eq_by_cmp}
use Rattle.std.specs.Cmp.{IsTotalOrder, then_total, on_total, tied_itself}
use Rattle.std.specs.Cmp.Lexicographic.{nat_list_cmp_total, options_total}
use Rattle.icu_locale_fallback.specs.KeyLaws.{triples_tie}
use Rattle.icu_locale_fallback.specs.Triple.{Triple, triple_cmp}

-- the order of triples is total
pub triple_cmp_total : IsTotalOrder triple_cmp
triple_cmp_total =
    then_total (on_total (λ (t : Triple). t.language) nat_list_cmp_total)
    (then_total (on_total (λ (t : Triple). t.script) (options_total nat_list_cmp_total))
    (on_total (λ (t : Triple). t.region) (options_total nat_list_cmp_total)))

-- two triples are equal or not
pub one_or_other : (a b : Triple) → (a ≡ b) ⊎ (a ≢ b)
one_or_other a b =
    elim (triple_cmp a b) as (λ r. triple_cmp a b ≡ r → (a ≡ b) ⊎ (a ≢ b)) [
      | Equal ↦ λ e. inl (triples_tie a b e)
      | Less ↦ λ e. inr (λ q. let t : triple_cmp a a ≡ Equal = tied_itself triple_cmp_total a in
          let u : triple_cmp a a ≡ Less = subst (λ x. triple_cmp a x ≡ Less) (sym q) e in cc)
      | Greater ↦ λ e. inr (λ q. let t : triple_cmp a a ≡ Equal = tied_itself triple_cmp_total a in
          let u : triple_cmp a a ≡ Greater = subst (λ x. triple_cmp a x ≡ Greater) (sym q) e in cc)
    ] refl

-- triples that differ do not tie
pub other_tie : (a b : Triple) → a ≢ b → eq_by_cmp triple_cmp a b ≡ false
other_tie a b n =
    elim (triple_cmp a b) as (λ r. triple_cmp a b ≡ r → is_eq r ≡ false) [
      | Equal ↦ λ e. absurd (n (triples_tie a b e))
      | Less ↦ λ e. refl
      | Greater ↦ λ e. refl
    ] refl
