-- Which text a request gets: the walk over locales (UTS 35, locale inheritance), and the first that
-- translates.
use Rattle.std.specs.Prelude.{◌≡◌, ◌≢◌, ◌≤◌, ◌<◌, ℕ, ◌+◌, List, [], ◌∷◌, Option, Some, None}
use Rattle.std.specs.Prelude.{if◌then◌else◌}
use Rattle.std.specs.Option.{option_map}
use Rattle.gettext.specs.Messages.{form, key_of, own_words}
use Rattle.icu_list.specs.Joined.{joined}
use Rattle.icu_list.specs.Patterns.{Patterns}
use Rattle.icu_locale_core.specs.Equality.{same_locale}
use Rattle.icu_locale_core.specs.Locale.{Locale, unknown}
use Rattle.icu_locale_fallback.specs.Tables.{Tables}
use Rattle.icu_locale_fallback.specs.Walk.{at, Repeats}
use Rattle.writeable_replace.specs.Replaced.{replaced}
use Rattle.localise.specs.Meaning.{Meaning}
use Rattle.localise_texts.specs.declared.request.Request.{Request}

-- a form that a bundle gives: the numbers of the bundle and of the form, from 0, the form's text,
-- and the bundle's patterns
pub record Translation : Type 0 where
  pub bundle : ℕ
  pub number : ℕ
  pub text : List ℕ
  pub patterns : Patterns

-- the form that messages give a request (GNU gettext manual, section 10.3)
abbrev pub form_for : Meaning → Request → Option (ℕ × List ℕ)
form_for b q = form b.messages None (key_of q.context q.singular) q.count

-- a form of bundle i
abbrev pub numbered : ℕ → Meaning → Option (ℕ × List ℕ) → Option Translation
numbered i b f =
    option_map (λ f. record { bundle = i; number = f.0; text = f.1; patterns = b.patterns }) f

-- what the bundle of a locale gives, the bundles being numbered from i; no two bundles are for one
-- locale
abbrev pub translation_from : ℕ → List Meaning → Request → Locale → Option Translation
translation_from i [] q locale = None
translation_from i (b ∷ bs) q locale =
    if same_locale b.locale locale then numbered i b (form_for b q) else translation_from
    (i + 1) bs q locale

-- the translation of a request in a locale
abbrev pub translation : List Meaning → Request → Locale → Option Translation
translation = translation_from 0

-- how a walk ends: a locale translates, behind so many steps; none does, and the unknown locale is
-- reached; or the walk comes round
pub data Outcome : Type 0 where
  Chosen : ℕ → Translation → Outcome
  Own : ℕ → Outcome
  Loops : Outcome

module _ (F : Tables) (bundles : List Meaning) (l : Locale) (q : Request) where
  -- the translation in the locale behind k steps
  abbrev pub here : ℕ → Option Translation
  here k = translation bundles q (at F l k)

  -- none of the first k locales translates
  abbrev pub NoneBelow : ℕ → Type 0
  NoneBelow k = (j : ℕ) → j < k → here j ≡ None

  -- the outcome of the walk from l
  abbrev pub IsOutcome : Outcome → Type 0
  IsOutcome (Chosen k t) = (here k ≡ Some t) × NoneBelow k × ((j : ℕ) → j ≤ k → ¬ (Repeats F l j))
  IsOutcome (Own k) =
      (at F l k ≡ unknown) × ((j : ℕ) → here j ≡ None) × ((j : ℕ) → j < k → at F l j ≢ unknown)
  IsOutcome Loops = (k : ℕ) × Repeats F l k × NoneBelow k

-- the words that a request gets before its placeholder is replaced, how its items are joined, and
-- where the words are from
pub record Answer : Type 0 where
  pub words : List ℕ
  pub patterns : Patterns
  pub bundle : Option ℕ
  pub form_number : Option ℕ
  pub locale : Locale
  pub visited : ℕ

-- a form in its bundle's patterns, in a locale behind so many steps
abbrev pub translated : Locale → ℕ → Translation → Answer
translated l k t =
    record {
      words = t.text;
      patterns = t.patterns;
      bundle = Some t.bundle;
      form_number = Some t.number;
      locale = l;
      visited = k + 1;
    }

-- the request's own words in the root's patterns
abbrev pub untranslated : Patterns → Request → Locale → ℕ → Answer
untranslated root q l k =
    record {
      words = own_words q.count q.singular q.plural;
      patterns = root;
      bundle = None;
      form_number = None;
      locale = l;
      visited = k + 1;
    }

-- the answer by an outcome; none where the walk comes round
abbrev pub answer_of : Tables → Patterns → Locale → Request → Outcome → Option Answer
answer_of F root l q (Chosen k t) = Some (translated (at F l k) k t)
answer_of F root l q (Own k) = Some (untranslated root q (at F l k) k)
answer_of F root l q Loops = None

-- the answer to a request for a wanted locale
pub record Answers (F : Tables) (bundles : List Meaning) (root : Patterns) (l : Locale)
    (q : Request) (a : Answer) : Type 0 where
  pub outcome : Outcome
  pub is : IsOutcome F bundles l q outcome
  pub gives : answer_of F root l q outcome ≡ Some a

-- the walk of a request comes round before a locale translates
abbrev pub ComesRound : Tables → List Meaning → Locale → Request → Type 0
ComesRound F bundles l q = IsOutcome F bundles l q Loops

-- the localised text: each placeholder in the words replaced by the items joined
abbrev pub text_of : Request → Answer → List ℕ
text_of q a = replaced a.words q.placeholder (joined a.patterns q.items)

-- the text that a request gets for a wanted locale
pub record IsLocalised (F : Tables) (bundles : List Meaning) (root : Patterns) (l : Locale)
    (q : Request) (text : List ℕ) : Type 0 where
  pub answer : Answer
  pub answers : Answers F bundles root l q answer
  pub text_is : text ≡ text_of q answer
