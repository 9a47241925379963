-- What is found for a request makes its line.
use Rattle.std.proofs.Common.{◌≡◌, ℕ, List, refl, ap, ◌∙◌, subst}
use Rattle.icu_list.specs.Patterns.{Patterns}
use Rattle.icu_locale_core.specs.Locale.{Locale}
use Rattle.localise.specs.Chosen.{Answers, ComesRound}
use Rattle.localise.specs.Given.{Given, IsGivenBy, text_given}
use Rattle.localise.specs.Meaning.{Meaning}
use Rattle.localise_run.specs.Generating.{Visits}
use Rattle.localise_run.specs.Rendering.{IsLine, IsLineFault, in_walk}
use Rattle.localise_run.specs.Requests.{line_of}
use Rattle.localise_run.specs.Wanting.{Wants}
use Rattle.localise_status.specs.declared.status.RequestCause.TheVariants.{ChainLoops}
use Rattle.localise_texts.specs.declared.request.Request.{Request}
use Rattle.wanted_locale.specs.declared.tables.Tables.{Tables}

module _ (T U : Tables) (same : U ≡ T) (bundles : List Meaning) (root : Patterns) (l : Locale)
    (q : Request) (wants : Wants T q l) where
  pub found_line : (g : Given) → IsGivenBy U.fallbacker bundles root l q g
      → IsLine T bundles root q (line_of (text_given g))
  found_line g by = record {
    locale = l;
    wants = wants;
    text = text_given g;
    localised = record {
      answer = by.answer;
      answers =
          subst (λ (V : Tables). Answers V.fallbacker bundles root l q by.answer) same by.answers;
      text_is = ap text_given by.found_is;
    };
    line_is = refl;
  }

  pub round_fault : ComesRound U.fallbacker bundles l q → IsLineFault T bundles root q ChainLoops
  round_fault round =
      in_walk wants (subst (λ (V : Tables). ComesRound V.fallbacker bundles l q) same round) refl

  -- and so many locales are visited for it
  pub found_visits : (g : Given) → IsGivenBy U.fallbacker bundles root l q g → (n : ℕ)
      → n ≡ g.answer.visited → Visits T bundles root q n
  found_visits g by n is = record {
    locale = l;
    wants = wants;
    answer = by.answer;
    answers =
        subst (λ (V : Tables). Answers V.fallbacker bundles root l q by.answer) same by.answers;
    count_is = is ∙ ap (λ (x : Given). x.answer.visited) by.found_is;
  }
