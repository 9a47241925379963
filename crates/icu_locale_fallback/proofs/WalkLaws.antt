-- The laws of the walk that the crate promises.
use Rattle.std.proofs.Common.{◌≡◌, ℕ, zero, suc, ◌+◌, ◌-◌, ◌<◌, refl, sym, ap, ◌∙◌, inl, inr, arith}
use Rattle.std.proofs.Common.{zero-add}
use Rattle.std.proofs.Math.Numerals.{add-one}
use Rattle.std.proofs.lemmas.Bool.{false≢true, cases_lt}
use Rattle.icu_locale_core.specs.Locale.{Locale, unknown}
use Rattle.icu_locale_fallback.specs.declared.config.LocaleFallbackPriority.{LocaleFallbackPriority}
use Rattle.icu_locale_fallback.specs.declared.config.LocaleFallbackPriority.TheVariants.{Language}
use Rattle.icu_locale_fallback.specs.Tables.{Tables}
use Rattle.icu_locale_fallback.specs.Normal.{first_script}
use Rattle.icu_locale_fallback.specs.Steps.{StaysAtUnknown, reached, rule, start, step_by, step_of}
use Rattle.icu_locale_fallback.specs.Walk.{at, brings_back, EndsOrRepeats, NeverRepeats, Repeats}
use Rattle.icu_locale_fallback.specs.Walk.{RevisitsOnly, StaysUnknown}
use Rattle.icu_locale_fallback.proofs.Ends.{ends_or_repeats}
use Rattle.icu_locale_fallback.proofs.Revisits.{revisits}

-- no step
pub reached-zero : (F : Tables) (priority : LocaleFallbackPriority) (l : Locale)
    → reached F priority l 0 ≡ start F priority l
unfolding reached
reached-zero F priority l = refl

-- one step more
pub reached-suc : (F : Tables) (priority : LocaleFallbackPriority) (l : Locale) (k : ℕ)
    → reached F priority l (k + 1)
    ≡ step_of priority F (first_script F.likely priority l) (reached F priority l k)
unfolding reached
reached-suc F priority l k = rw add-one refl

-- the walk ends or repeats
pub EndsOrRepeats-holds : (F : Tables) (l : Locale) → EndsOrRepeats F l
EndsOrRepeats-holds F l =
    let (k, bound, stop) = ends_or_repeats F l in
    record {
      steps = k;
      bound = bound;
      ends = elim stop [
        | inl ended ↦ inl ended
        | inr (back, (i, below, same)) ↦ inr
            (record { step = back; earlier = i; below = below; same = same })
      ];
    }

-- behind a repeat nothing new comes
pub RevisitsOnly-holds : (F : Tables) (l : Locale) → RevisitsOnly F l
RevisitsOnly-holds F l k n r later = revisits F l k n (r.step, (r.earlier, r.below, r.same))

-- ---- at the unknown locale

module _ (F : Tables) (priority : LocaleFallbackPriority) (l : Locale) where
  -- the next step stays
  next_stays : (k : ℕ) → (reached F priority l k).locale ≡ unknown
      → reached F priority l (k + 1) ≡ reached F priority l k
  next_stays k e =
      let first = first_script F.likely priority l in
      let r = reached F priority l k in
      reached-suc F priority l k ∙ ap (λ x. step_by x F first r) (ap (rule priority F) e)

  -- and so do n more
  stays_for : (k n : ℕ) → (reached F priority l k).locale ≡ unknown
      → reached F priority l (n + k) ≡ reached F priority l k
  stays_for k zero e = rw zero-add refl
  stays_for k (suc n) e =
      let before = stays_for k n e in
      let more : suc n + k ≡ (n + k) + 1 = omega arith in
      ap (reached F priority l) more ∙ next_stays (n + k) (ap (λ r. r.locale) before ∙ e) ∙ before

  -- so it stays for good
  pub StaysAtUnknown-holds : StaysAtUnknown F priority l
  StaysAtUnknown-holds k n e le =
      let whole : n ≡ (n - k) + k = omega arith in
      ap (reached F priority l) whole ∙ stays_for k (n - k) e

module _ (F : Tables) (l : Locale) where
  -- in the language priority
  pub StaysUnknown-holds : StaysUnknown F l
  StaysUnknown-holds k n e le =
      ap (λ r. r.locale) (StaysAtUnknown-holds F Language l k n e le) ∙ e

  -- a step that repeats is not behind the unknown locale
  never_behind : (k j : ℕ) → Repeats F l k → j < k → at F l j ≡ unknown → ⊥
  never_behind k j r below e =
      let there = StaysUnknown-holds j (k - 1) e (omega arith) in
      false≢true (sym (ap (λ x. brings_back (rule Language F x)) there) ∙ r.step)

  -- a repeat leads back behind the unknown locale or comes before it
  pub NeverRepeats-holds : NeverRepeats F l
  NeverRepeats-holds n k e r =
      elim (cases_lt n k) [
        | inl less ↦ never_behind k n r less e
        | inr le ↦
            let (j, below, same) = RevisitsOnly-holds F l k n r le in
            never_behind k j r below (sym same ∙ e)
      ]
