-- Where a walk stops: at a locale that translates, or else at the unknown locale.
use Rattle.std.specs.Prelude.{◌≡◌, ℕ, List, Option, Some, None}
use Rattle.icu_locale_core.specs.Locale.{Locale, unknown}
use Rattle.localise.specs.Chosen.{Outcome, Chosen, Own, Loops, Translation, translation, Answer}
use Rattle.localise.specs.Chosen.{translated, untranslated}
use Rattle.icu_list.specs.Patterns.{Patterns}
use Rattle.localise.specs.Meaning.{Meaning}
use Rattle.localise.specs.declared.walk.Stop.{Stop}
use Rattle.localise_texts.specs.declared.request.Request.{Request}

-- the outcome of a walk that stops behind so many steps
abbrev pub outcome_at : ℕ → Option Translation → Outcome
outcome_at k None = Own k
outcome_at k (Some t) = Chosen k t

-- the outcome of a walk that stops, or that doesn't
abbrev pub outcome_of : Option Stop → Outcome
outcome_of None = Loops
outcome_of (Some stop) = outcome_at stop.steps stop.translation

-- the stop behind so many steps at a locale, which translates or is the unknown one
pub record IsStop (bundles : List Meaning) (q : Request) (k : ℕ) (l : Locale) (stop : Stop) :
    Type 0 where
  pub steps : stop.steps ≡ k
  pub locale : stop.locale ≡ l
  pub translation_is : stop.translation ≡ translation bundles q l
  pub ends : stop.translation ≡ None → l ≡ unknown

-- the answer where a walk stops
abbrev pub answer_at : Patterns → Request → Locale → ℕ → Option Translation → Answer
answer_at root q l k None = untranslated root q l k
answer_at root q l k (Some t) = translated l k t
