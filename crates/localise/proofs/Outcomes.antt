-- The outcome of a walk over bundles.
use Rattle.std.proofs.Common.{◌≡◌, ◌≢◌, ℕ, ◌+◌, ◌*◌, ◌<◌, ◌≤◌, List, Option, Some, None, refl, sym}
use Rattle.std.proofs.Common.{ap, ◌∙◌, subst, inl, inr, arith}
use Rattle.std.proofs.lemmas.Bool.{cases_lt}
use Rattle.std.specs.FinMap as map
use Rattle.icu_list.specs.Patterns.{Patterns}
use Rattle.icu_locale_core.specs.Locale.{Locale, unknown}
use Rattle.icu_locale_fallback.specs.Tables.{Tables}
use Rattle.icu_locale_fallback.specs.Walk.{at, EndsOrRepeats, Repeats, RevisitsOnly, StaysUnknown}
use Rattle.localise.specs.Chosen.{Outcome, Chosen, Own, Loops, IsOutcome, NoneBelow, Translation}
use Rattle.localise.specs.Chosen.{here, translated, translation, untranslated}
use Rattle.localise.specs.Given.{IsGivenBy, given}
use Rattle.localise.specs.Kept.{AreAlike}
use Rattle.localise.specs.Meaning.{Meaning}
use Rattle.std.specs.Prelude.{IfSome, IfNone}
use Rattle.localise.specs.Stops.{IsStop, answer_at, outcome_at, outcome_of}
use Rattle.localise.specs.declared.walk.Stop.{Stop}
use Rattle.localise_texts.specs.declared.request.Request.{Request}

module _ (F : Tables) (bs : List Meaning) (l : Locale) (q : Request) where
  -- none of the first k locales is the unknown one
  abbrev pub KnownBelow : ℕ → Type 0
  KnownBelow k = (j : ℕ) → j < k → at F l j ≢ unknown

  -- a locale that translates behind locales that don't is new, so that nothing repeats before it
  chosen_is_new : RevisitsOnly F l → (k : ℕ) (t : Translation) → here F bs l q k ≡ Some t
      → NoneBelow F bs l q k
      → (j : ℕ) → j ≤ k → Repeats F l j → ⊥
  chosen_is_new revisits k t is below j le repeats =
      let back = revisits j k repeats le in
      let low = back.1 in
      let none : here F bs l q back.0 ≡ None = below back.0 (omega arith) in
      let same : here F bs l q k ≡ here F bs l q back.0 = ap (translation bs q) back.2 in
      cc

  -- where the unknown locale is reached and none before translates, none translates
  none_at_all : StaysUnknown F l → (k : ℕ) → here F bs l q k ≡ None → NoneBelow F bs l q k
      → at F l k ≡ unknown
      → (j : ℕ) → here F bs l q j ≡ None
  none_at_all stays k none below end j =
      elim (cases_lt j k) [
        | inl less ↦ below j less
        | inr more ↦ ap (translation bs q) (stays k j end more ∙ sym end) ∙ none
      ]

  -- the outcome of a walk that stops
  pub stop_outcome : RevisitsOnly F l → StaysUnknown F l → (k : ℕ) (t : Option Translation)
      → t ≡ here F bs l q k → (t ≡ None → at F l k ≡ unknown) → NoneBelow F bs l q k → KnownBelow k
      → IsOutcome F bs l q (outcome_at k t)
  stop_outcome revisits stays k (Some t) is ends below known =
      (sym is, below, λ j le repeats. chosen_is_new revisits k t (sym is) below j le repeats)
  stop_outcome revisits stays k None is ends below known =
      (ends refl, none_at_all stays k (sym is) below (ends refl), known)

  -- the outcome of a walk that doesn't stop within so many steps
  pub loop_outcome : (most : ℕ) → most ≡ 4 * map.len F.parents + 5 → EndsOrRepeats F l
      → NoneBelow F bs l q most → KnownBelow most → at F l most ≢ unknown → IsOutcome F bs l q Loops
  loop_outcome most whole stop below known last =
      let bound = stop.bound in
      elim stop.ends [
        | inr repeats ↦ (stop.steps, repeats, λ j less. below j (omega arith))
        | inl end ↦ elim (cases_lt stop.steps most) [
          | inl less ↦ absurd (known stop.steps less end)
          | inr more ↦
              let same : stop.steps ≡ most = omega arith in
              absurd (last (subst (λ k. at F l k ≡ unknown) same end))
        ]
      ]

-- bundles that are alike have the same outcome
pub outcome-alike : (F : Tables) (kept bs : List Meaning) (l : Locale) (q : Request) (o : Outcome)
    → AreAlike kept bs
    → IsOutcome F kept l q o → IsOutcome F bs l q o
outcome-alike F kept bs l q (Chosen k t) alike h =
    (sym (alike q (at F l k)) ∙ h.0, λ j less. sym (alike q (at F l j)) ∙ h.1 j less, h.2)
outcome-alike F kept bs l q (Own k) alike h = (h.0, λ j. sym (alike q (at F l j)) ∙ h.1 j, h.2)
outcome-alike F kept bs l q Loops alike h =
    (h.0, h.1, λ j less. sym (alike q (at F l j)) ∙ h.2 j less)

-- what is found where a walk stops is the answer
pub given_at : (F : Tables) (kept bs : List Meaning) (root : Patterns) (l : Locale) (q : Request)
    (m : Locale) (k : ℕ) (t : Option Translation)
    → AreAlike kept bs → IsOutcome F kept l q (outcome_at k t) → m ≡ at F l k
    → IsGivenBy F bs root l q (given q (answer_at root q m k t))
given_at F kept bs root l q m k None alike is there = record {
  answer = untranslated root q m k;
  answers = record {
    outcome = Own k;
    is = outcome-alike F kept bs l q (Own k) alike is;
    gives = ap (λ x. Some (untranslated root q x k)) (sym there);
  };
  found_is = refl;
}
given_at F kept bs root l q m k (Some t) alike is there = record {
  answer = translated m k t;
  answers = record {
    outcome = Chosen k t;
    is = outcome-alike F kept bs l q (Chosen k t) alike is;
    gives = ap (λ x. Some (translated x k t)) (sym there);
  };
  found_is = refl;
}

-- how far a stop is
pub visited_at : (root : Patterns) (q : Request) (m : Locale) (k : ℕ) (t : Option Translation)
    → (answer_at root q m k t).visited ≡ k + 1
visited_at root q m k None = refl
visited_at root q m k (Some t) = refl

-- the outcome of a walk that stops, as the code has it
pub stop_here : (F : Tables) (bs : List Meaning) (l : Locale) (q : Request) (k : ℕ) (m : Locale)
    (stop : Stop) → IsStop bs q k m stop
    → m ≡ at F l k → RevisitsOnly F l → StaysUnknown F l → NoneBelow F bs l q k
    → KnownBelow F bs l q k
    → IsOutcome F bs l q (outcome_of (Some stop))
stop_here F bs l q k m stop is there revisits stays below known =
    subst (λ n. IsOutcome F bs l q (outcome_at n stop.translation)) (sym is.steps)
    (stop_outcome F bs l q revisits stays k stop.translation
    (is.translation_is ∙ ap (translation bs q) there)
    (λ none. sym there ∙ is.ends none) below known)

-- the outcome at the last locale that is looked at
pub last_outcome : (F : Tables) (bs : List Meaning) (l : Locale) (q : Request) (k : ℕ) (m : Locale)
    (o : Option Stop)
    → k ≡ 4 * map.len F.parents + 5 → IfSome o (IsStop bs q k m)
    → IfNone o ((translation bs q m ≡ None) × (m ≢ unknown))
    → m ≡ at F l k → EndsOrRepeats F l → RevisitsOnly F l → StaysUnknown F l → NoneBelow F bs l q k
    → KnownBelow F bs l q k
    → IsOutcome F bs l q (outcome_of o)
last_outcome F bs l q k m (Some stop) whole is none there ends revisits stays below known =
    stop_here F bs l q k m stop is there revisits stays below known
last_outcome F bs l q k m None whole is none there ends revisits stays below known =
    loop_outcome F bs l q k whole ends below known (λ end. none.1 (there ∙ end))
