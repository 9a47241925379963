-- A walk has one outcome.
use Rattle.std.proofs.Common.{◌≡◌, ◌≢◌, ℕ, ◌<◌, ◌≤◌, List, Option, Some, None, refl, sym, ap, ap₂}
use Rattle.std.proofs.Common.{◌∙◌, subst, arith, inl, inr}
use Rattle.std.proofs.lemmas.Bool.{cases_lt}
use Rattle.icu_list.specs.Patterns.{Patterns}
use Rattle.icu_locale_core.specs.Locale.{Locale, unknown}
use Rattle.icu_locale_fallback.specs.Tables.{Tables}
use Rattle.icu_locale_fallback.specs.Walk.{at, NeverRepeats, Repeats}
use Rattle.localise.specs.Chosen.{Answer, Answers, Outcome, Chosen, Own, Loops, IsOutcome}
use Rattle.localise.specs.Chosen.{Translation, answer_of, here}
use Rattle.localise.specs.Meaning.{Meaning}
use Rattle.localise_texts.specs.declared.request.Request.{Request}

module _ (F : Tables) (bs : List Meaning) (l : Locale) (q : Request)
    (never : NeverRepeats F l) where
  -- two locales that translate, each the first, are one
  chosen_one : (j k : ℕ) (t u : Translation) → IsOutcome F bs l q (Chosen j t)
      → IsOutcome F bs l q (Chosen k u) → j ≡ k
  chosen_one j k t u h g =
      elim (cases_lt j k) [
        | inl less ↦ absurd (let none = g.1 j less in let some = h.0 in cc)
        | inr more ↦ elim (cases_lt k j) [
          | inl less ↦ absurd (let none = h.1 k less in let some = g.0 in cc)
          | inr other ↦ omega (arith, more, other)
        ]
      ]

  -- a walk that comes round doesn't translate before
  chosen_or_loops : (k : ℕ) (t : Translation) → IsOutcome F bs l q (Chosen k t)
      → IsOutcome F bs l q Loops → ⊥
  chosen_or_loops k t h g =
      elim (cases_lt k g.0) [
        | inl less ↦ let none = g.2 k less in let some = h.0 in cc
        | inr more ↦ h.2 g.0 more g.1
      ]

  -- two first places of the unknown locale are one
  own_one : (j k : ℕ) → IsOutcome F bs l q (Own j) → IsOutcome F bs l q (Own k) → j ≡ k
  own_one j k h g =
      elim (cases_lt j k) [
        | inl less ↦ absurd (g.2 j less h.0)
        | inr more ↦ elim (cases_lt k j) [
          | inl less ↦ absurd (h.2 k less g.0)
          | inr other ↦ omega (arith, more, other)
        ]
      ]

  -- the translation of one place
  same_translation : (j k : ℕ) (t u : Translation) → j ≡ k → here F bs l q j ≡ Some t
      → here F bs l q k ≡ Some u → t ≡ u
  same_translation j k t u same h g = let there : here F bs l q k ≡ Some t =
      subst (λ i. here F bs l q i ≡ Some t) same h in cc

  pub outcome_one : (o r : Outcome) → IsOutcome F bs l q o → IsOutcome F bs l q r → o ≡ r
  outcome_one (Chosen j t) (Chosen k u) h g =
      let same = chosen_one j k t u h g in ap₂ Chosen same (same_translation j k t u same h.0 g.0)
  outcome_one (Chosen j t) (Own k) h g = absurd (let none = g.1 j in let some = h.0 in cc)
  outcome_one (Chosen j t) Loops h g = absurd (chosen_or_loops j t h g)
  outcome_one (Own j) (Chosen k u) h g = absurd (let none = h.1 k in let some = g.0 in cc)
  outcome_one (Own j) (Own k) h g = ap Own (own_one j k h g)
  outcome_one (Own j) Loops h g = absurd (never j g.0 h.0 g.1)
  outcome_one Loops (Chosen k u) h g = absurd (chosen_or_loops k u g h)
  outcome_one Loops (Own k) h g = absurd (never k h.0 g.0 h.1)
  outcome_one Loops Loops h g = refl

  -- no answer where the walk comes round
  pub round_none : (root : Patterns) (a : Answer) → Answers F bs root l q a
      → IsOutcome F bs l q Loops → ⊥
  round_none root a answers round =
      let same : answers.outcome ≡ Loops = outcome_one answers.outcome Loops answers.is round in
      let gives : None ≡ Some a = ap (answer_of F root l q) (sym same) ∙ answers.gives in
      cc
