-- Rendering one request: what each way out means.
use Rattle.std.proofs.Common.{◌≡◌, ◌≢◌, ℕ, List, refl, ap, ◌∙◌, subst, ◌⊎◌, inl, inr}
use Rattle.std.specs.Prelude.{Err, IfErr, IfOk, IsErrOf, Ok, OnErr, OnOk, Result, encode_utf8_all}
use Rattle.icu_list.specs.Patterns.{Patterns}
use Rattle.icu_locale_core.specs.Locale.{Locale}
use Rattle.localise.specs.Bundles.{IsRefusal}
use Rattle.localise.specs.Chosen.{Answer, ComesRound}
use Rattle.localise.specs.Given.{Given, IsFound, IsNotFound, text_given}
use Rattle.localise.specs.Kept.{Localises}
use Rattle.localise.specs.Laws.{NeverBoth, NoAnswerRound, OneMeaning}
use Rattle.localise.specs.Meaning.{Meaning}
use Rattle.localise.specs.Render.{HasAnswer, IsRefused, IsRendered, TookNoMore, front, in_request}
use Rattle.localise.specs.Render.{in_tag, in_walk, told_of}
use Rattle.localise.specs.declared.error.RenderError.{RenderError}
use Rattle.localise.specs.declared.error.RenderError.TheVariants as refusals
use Rattle.localise.specs.declared.rendered.Rendered.{Rendered}
use Rattle.localise_texts.specs.declared.bundle.BundleText.{BundleText}
use Rattle.localise_texts.specs.declared.patterns.PatternTexts.{PatternTexts}
use Rattle.localise_texts.specs.declared.request.Request.{Request}
use Rattle.wanted_locale.specs.Laws.{NeverBoth as NeverBothWanted, OneWanted}
use Rattle.wanted_locale.specs.Wanted.{IsTagCause, IsWantedOf}
use Rattle.wanted_locale.specs.declared.error.TagCause.{TagCause}
use Rattle.wanted_locale.specs.declared.error.TagCause.TheVariants as tag
use Rattle.wanted_locale.specs.declared.tables.Tables.{Tables}
use Rattle.writeable_core.specs.Sink.{Rose, TookPrefix}

module _ (T : Tables) (texts : List BundleText) (root : PatternTexts) (q : Request)
    (kept : List Meaning) (patterns : Patterns)
    (localises : Localises T texts root kept patterns) where
  module _ (wanted : Locale) (wants : IsWantedOf T.registry (encode_utf8_all q.tag) wanted) where
    -- what is found is the answer to the request
    has_found : (g : Given) (found : IsFound T.fallbacker kept patterns wanted q g)
        → HasAnswer T texts root q (found localises.bundles localises.alike).answer
    has_found g found = record {
      bundles = localises.bundles;
      patterns = patterns;
      accepted = localises.accepted;
      answered =
          record {
            wanted = wanted;
            wants = wants;
            answers = (found localises.bundles localises.alike).answers;
          };
    }

    module _ {S : Type 0} (took : S → List ℕ → S → Type 0) (old new : S) where
      -- it was written
      pub found_written : (g : Given) → IsFound T.fallbacker kept patterns wanted q g
          → (r : Result Rendered RenderError)
          → IfOk r (λ x. x ≡ told_of g) → OnOk r (took old (text_given g) new)
          → IfOk r (IsRendered T texts root q took old new)
      found_written g found (Err e) told taken = tt
      found_written g found (Ok x) told taken =
          let it = found localises.bundles localises.alike in
          record {
            answer = it.answer;
            has = has_found g found;
            told = told ∙ ap told_of it.found_is;
            taken = subst (λ (h : Given). took old (text_given h) new) it.found_is taken;
          }

      -- or a front of it
      pub found_front : (g : Given) → IsFound T.fallbacker kept patterns wanted q g
          → (r : Result Rendered RenderError)
          → OnErr r (TookPrefix took old (text_given g) new)
          → OnErr r (TookNoMore T texts root q took old new)
      found_front g found (Ok x) taken = tt
      found_front g found (Err e) taken =
          let it = found localises.bundles localises.alike in
          front (has_found g found)
          (subst (λ (h : Given). TookPrefix took old (text_given h) new) it.found_is taken)

    -- its walk comes round
    pub refused_round : IsNotFound T.fallbacker kept wanted q
        → IsRefused T texts root q refusals.ChainLoops
    refused_round round =
        in_request localises.accepted (in_walk wants (round localises.bundles localises.alike) refl)

    -- and then it has no answer
    pub no_answer_round : NoAnswerRound → OneMeaning → OneWanted
        → IsNotFound T.fallbacker kept wanted q → (a : Answer)
        → HasAnswer T texts root q a → ⊥
    no_answer_round none one one_wanted round a has =
        let same : localises.bundles ≡ has.bundles =
        (one T texts root localises.bundles has.bundles patterns has.patterns localises.accepted
        has.accepted).0 in
        let asked : wanted ≡ has.answered.wanted =
        one_wanted T.registry
        (encode_utf8_all q.tag) wanted has.answered.wanted wants has.answered.wants in
        none T.fallbacker has.bundles has.patterns has.answered.wanted q a has.answered.answers
        (subst (λ (l : Locale). ComesRound T.fallbacker has.bundles l q) asked
        (subst (λ (bs : List Meaning). ComesRound T.fallbacker bs wanted q) same
        (round localises.bundles localises.alike)))

  -- its tag asks for no locale
  pub refused_tag : (cause : TagCause) (e : RenderError)
      → (cause ≢ tag.NoMemory → IsTagCause T.registry (encode_utf8_all q.tag) cause)
      → (cause ≡ tag.NoMemory → e ≡ refusals.NoMemory)
      → (cause ≢ tag.NoMemory → e ≡ refusals.Tag cause)
      → e ≢ refusals.NoMemory → IsRefused T texts root q e
  refused_tag cause e is memory own not_memory =
      let ne : cause ≢ tag.NoMemory = λ same. not_memory (memory same) in
      in_request localises.accepted (in_tag (is ne) (own ne))

-- a tag that asks for no locale has no answer, unless memory ran out
pub no_answer_tag : (T : Tables) (texts : List BundleText) (root : PatternTexts) (q : Request)
    (cause : TagCause) (a : Answer)
    → NeverBothWanted → IsTagCause T.registry (encode_utf8_all q.tag) cause
    → HasAnswer T texts root q a → ⊥
no_answer_tag T texts root q cause a never is has =
    never T.registry (encode_utf8_all q.tag) has.answered.wanted cause has.answered.wants is

-- bundles or root that are refused give no answer
pub no_answer_refused : (T : Tables) (texts : List BundleText) (root : PatternTexts) (q : Request)
    (e : RenderError) (a : Answer)
    → NeverBoth → IsRefusal T texts root e → HasAnswer T texts root q a → ⊥
no_answer_refused T texts root q e a never refusal has =
    never T texts root has.bundles has.patterns e has.accepted refusal

-- an error without a rise of the count is want of memory
pub calm_error : (before now : ℕ) (r : Result Rendered RenderError)
    → IfErr r (λ e. (e ≡ refusals.Sink) ⊎ (e ≡ refusals.NoMemory))
    → (IsErrOf r refusals.Sink → Rose before now) → (Rose before now → ⊥)
    → IfErr r (λ e. e ≡ refusals.NoMemory)
calm_error before now (Ok x) either cause calm = tt
calm_error before now (Err e) (inl sink) cause calm = absurd (calm (cause (ap Err sink)))
calm_error before now (Err e) (inr none) cause calm = none

-- and is no refusal
pub sink_error : (P : RenderError → Type 0) (r : Result Rendered RenderError)
    → IfErr r (λ e. (e ≡ refusals.Sink) ⊎ (e ≡ refusals.NoMemory))
    → IfErr r (λ e. e ≢ refusals.Sink → e ≢ refusals.NoMemory → P e)
sink_error P (Ok x) either = tt
sink_error P (Err e) (inl sink) = λ no_sink no_memory. absurd (no_sink sink)
sink_error P (Err e) (inr none) = λ no_sink no_memory. absurd (no_memory none)

-- an error that can be no other is want of memory
pub memory_or : (e : RenderError) → (e ≢ refusals.NoMemory → ⊥) → e ≡ refusals.NoMemory
memory_or (refusals.Bundle i cause) h = absurd (h (λ same. cc))
memory_or (refusals.DuplicateLocale i) h = absurd (h (λ same. cc))
memory_or (refusals.Root error) h = absurd (h (λ same. cc))
memory_or (refusals.Tag cause) h = absurd (h (λ same. cc))
memory_or refusals.ChainLoops h = absurd (h (λ same. cc))
memory_or refusals.Sink h = absurd (h (λ same. cc))
memory_or refusals.NoMemory h = refl
