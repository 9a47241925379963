-- What is found for a request: the answer, and what its placeholder is replaced by.
use Rattle.std.specs.Prelude.{◌≡◌, ℕ, List, map}
use Rattle.icu_list.specs.Joined.{joined}
use Rattle.icu_list.specs.ListHint.{list_hint}
use Rattle.icu_list.specs.Patterns.{Patterns}
use Rattle.icu_locale_core.specs.Locale.{Locale}
use Rattle.icu_locale_fallback.specs.Tables.{Tables}
use Rattle.localise.specs.Chosen.{Answer, Answers, ComesRound}
use Rattle.localise.specs.Kept.{AreAlike}
use Rattle.localise.specs.Meaning.{Meaning}
use Rattle.localise_texts.specs.declared.request.Request.{Request}
use Rattle.writeable_core.specs.Hint.{byte_length, text_hint}
use Rattle.writeable_core.specs.declared.length_hint.LengthHint.{LengthHint}
use Rattle.writeable_replace.specs.Replaced.{replaced}
use Rattle.writeable_replace.specs.ReplacedHint.{hint_rule}

-- an answer with the placeholder and the items of the request
pub record Given : Type 0 where
  pub answer : Answer
  pub placeholder : List ℕ
  pub items : List (List ℕ)

-- an answer to a request
abbrev pub given : Request → Answer → Given
given q a = record { answer = a; placeholder = q.placeholder; items = q.items }

-- the localised text: each placeholder in the words replaced by the items joined
abbrev pub text_given : Given → List ℕ
text_given g = replaced g.answer.words g.placeholder (joined g.answer.patterns g.items)

-- what is known of its length before it is written
abbrev pub hint_given : Given → LengthHint
hint_given g =
    hint_rule (text_hint g.answer.words) (byte_length g.placeholder)
    (list_hint g.answer.patterns (map text_hint g.items))

-- what is found is the answer that these bundles give
pub record IsGivenBy (F : Tables) (bundles : List Meaning) (root : Patterns) (l : Locale)
    (q : Request) (found : Given) : Type 0 where
  pub answer : Answer
  pub answers : Answers F bundles root l q answer
  pub found_is : found ≡ given q answer

-- it is the answer that all bundles give which the kept ones are alike to
abbrev pub IsFound : Tables → List Meaning → Patterns → Locale → Request → Given → Type 0
IsFound F kept root l q found =
    (bundles : List Meaning) → AreAlike kept bundles → IsGivenBy F bundles root l q found

-- over all bundles that the kept ones are alike to the walk comes round
abbrev pub IsNotFound : Tables → List Meaning → Locale → Request → Type 0
IsNotFound F kept l q = (bundles : List Meaning) → AreAlike kept bundles → ComesRound F bundles l q
