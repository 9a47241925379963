-- What a command makes of requests is one thing, and goes by what tables answer.
use Rattle.std.proofs.Common.{◌≡◌, ℕ, ◌+◌, List, [], ◌∷◌, Some, None, refl, sym, ap, ap₂, ◌∙◌}
use Rattle.std.proofs.Common.{subst}
use Rattle.std.specs.Prelude.{encode_utf8_all}
use Rattle.fallback_chain.specs.Chain.{EndsAt, chain_text}
use Rattle.icu_list.specs.Patterns.{Patterns}
use Rattle.icu_locale_core.specs.Locale.{Locale}
use Rattle.icu_locale_fallback.specs.Tables as fallback
use Rattle.icu_locale_fallback.specs.Walk.{Repeats}
use Rattle.language_tags.specs.Laws as tags
use Rattle.localise.specs.Chosen.{Answer, Answers, ComesRound, IsLocalised, Loops, answer_of}
use Rattle.localise.specs.Chosen.{text_of}
use Rattle.localise.specs.Laws as localise
use Rattle.localise.specs.Meaning.{Meaning}
use Rattle.localise_run.proofs.Lines.{answered_along, lines_along, one_answered, one_lines}
use Rattle.localise_run.specs.Generating.{AreGenerated, AreNumbers, AreVisited, Visits, all}
use Rattle.localise_run.specs.Generating.{at_most_64_bits, refused, three_lines}
use Rattle.localise_run.specs.Rendering.{AreRendered, IsLine, IsLineFault, in_tag, in_walk}
use Rattle.localise_run.specs.Requests.{line_of}
use Rattle.localise_run.specs.Requests as requests
use Rattle.localise_run.specs.Walking.{AreWalked, IsWalkFault, IsWalkLine}
use Rattle.localise_run.specs.Walking as walking
use Rattle.localise_run.specs.Wanting.{HasTagCause, Wants}
use Rattle.localise_status.specs.declared.status.RequestCause.{RequestCause}
use Rattle.localise_status.specs.declared.status.RequestCause.TheVariants.{Tag}
use Rattle.localise_status.specs.declared.status.Status.{Status}
use Rattle.localise_status.specs.declared.status.Status.TheVariants.{Done}
use Rattle.localise_texts.specs.declared.request.Request.{Request}
use Rattle.wanted_locale.specs.Laws as wanted
use Rattle.wanted_locale.specs.declared.tables.Tables.{Tables}
use Rattle.writeable_core.specs.Hint.{byte_length}

-- the laws of the layers below
pub record Laws : Type 0 where
  pub one_wanted : wanted.OneWanted
  pub one_cause : wanted.OneCause
  pub never_both : wanted.NeverBoth
  pub wanted_along : wanted.WantedGoesByAnswers
  pub cause_along : wanted.CauseGoesByAnswers
  pub one_outcome : localise.OneOutcome
  pub one_end : (F : fallback.Tables) (l : Locale) (j k : ℕ) → EndsAt F l j → EndsAt F l k → j ≡ k
  pub never_repeats : (F : fallback.Tables) (l : Locale) (k n : ℕ) → EndsAt F l k
      → ¬ (Repeats F l n)

module _ (laws : Laws) (T : Tables) where
  -- a request wants one locale
  locale_one : (q : Request) (l m : Locale) → Wants T q l → Wants T q m → l ≡ m
  locale_one q l m = laws.one_wanted T.registry (encode_utf8_all q.tag) l m

  module _ (bundles : List Meaning) (root : Patterns) where
    -- ---- rendering

    -- a request has one answer for a locale
    answer_one : (l : Locale) (q : Request) (a b : Answer) → Answers T.fallbacker bundles root l q a
        → Answers T.fallbacker bundles root l q b → a ≡ b
    answer_one l q a b h g =
        let same = laws.one_outcome T.fallbacker bundles l q h.outcome g.outcome h.is g.is in
        let both : Some a ≡ Some b =
        sym h.gives ∙ ap (answer_of T.fallbacker root l q) same ∙ g.gives in cc

    -- and one localised text
    text_one : (l : Locale) (q : Request) (s t : List ℕ)
        → IsLocalised T.fallbacker bundles root l q s
        → IsLocalised T.fallbacker bundles root l q t → s ≡ t
    text_one l q s t h g =
        h.text_is ∙ ap (text_of q) (answer_one l q h.answer g.answer h.answers g.answers)
        ∙ sym g.text_is

    -- and one line
    line_one : (q : Request) (s t : List ℕ) → IsLine T bundles root q s
        → IsLine T bundles root q t → s ≡ t
    line_one q s t h g =
        let l = locale_one q g.locale h.locale g.wants h.wants in
        h.line_is
        ∙ ap line_of (text_one h.locale q h.text g.text h.localised
        (subst (λ m. IsLocalised T.fallbacker bundles root m q g.text) l g.localised))
        ∙ sym g.line_is

    -- it has one fault
    fault_one : (q : Request) (c d : RequestCause) → IsLineFault T bundles root q c
        → IsLineFault T bundles root q d → c ≡ d
    fault_one q c d (in_tag h) (in_tag g) =
        h.2 ∙ ap Tag (laws.one_cause T.registry (encode_utf8_all q.tag) h.0 g.0 h.1 g.1) ∙ sym g.2
    fault_one q c d (in_tag h) (in_walk {l = l} w r so) =
        absurd (laws.never_both T.registry (encode_utf8_all q.tag) l h.0 w h.1)
    fault_one q c d (in_walk {l = l} w r is) (in_tag g) =
        absurd (laws.never_both T.registry (encode_utf8_all q.tag) l g.0 w g.1)
    fault_one q c d (in_walk w r is) (in_walk v s so) = is ∙ sym so

    -- an answer isn't that of a walk that comes round
    answer_or_loops : (l : Locale) (q : Request) (a : Answer)
        → Answers T.fallbacker bundles root l q a
        → ComesRound T.fallbacker bundles l q → ⊥
    answer_or_loops l q a h round =
        let same = laws.one_outcome T.fallbacker bundles l q h.outcome Loops h.is round in
        let none : None ≡ Some a = sym (ap (answer_of T.fallbacker root l q) same) ∙ h.gives in cc

    -- and no line and a fault
    line_or_fault : (q : Request) (s : List ℕ) (c : RequestCause) → IsLine T bundles root q s
        → IsLineFault T bundles root q c → ⊥
    line_or_fault q s c h (in_tag g) =
        laws.never_both T.registry (encode_utf8_all q.tag) h.locale g.0 h.wants g.1
    line_or_fault q s c h (in_walk {l = l} w r is) =
        let same = locale_one q h.locale l h.wants w in
        answer_or_loops l q h.localised.answer
        (subst (λ m. Answers T.fallbacker bundles root m q h.localised.answer) same
        h.localised.answers) r

    -- requests are rendered as one thing
    pub rendered_one : (qs : List Request) (a b : Status) (s t : List ℕ)
        → AreRendered T bundles root qs a s → AreRendered T bundles root qs b t
        → (a ≡ b) × (s ≡ t)
    rendered_one =
        one_answered (IsLine T bundles root)
        (IsLineFault T bundles root) line_one fault_one line_or_fault

    -- ---- generating

    -- the walk of a request visits one number of locales
    visits_one : (q : Request) (m n : ℕ) → Visits T bundles root q m
        → Visits T bundles root q n → m ≡ n
    visits_one q m n h g =
        let l = locale_one q g.locale h.locale g.wants h.wants in
        let a =
        answer_one h.locale q h.answer g.answer h.answers
        (subst (λ k. Answers T.fallbacker bundles root k q g.answer) l g.answers) in
        h.count_is ∙ ap (λ a. a.visited) a ∙ sym g.count_is

    -- and those of requests in all
    visited_one : (qs : List Request) (m n : ℕ) → AreVisited T bundles root qs m
        → AreVisited T bundles root qs n → m ≡ n
    visited_one [] m n h g = h ∙ sym g
    visited_one (q ∷ qs) m n h g =
        h.4 ∙ ap₂ (λ x y. x + y) (visits_one q h.0 g.0 h.2 g.2) (visited_one qs h.1 g.1 h.3 g.3)
        ∙ sym g.4

    -- requests have one text of numbers
    numbers_one : (qs : List Request) (s t : List ℕ) → AreNumbers T bundles root qs s
        → AreNumbers T bundles root qs t → s ≡ t
    numbers_one qs s t h g =
        let lines =
        one_lines (IsLine T bundles root)
        (IsLineFault T bundles root) line_one fault_one line_or_fault qs h.are.lines g.are.lines
        h.are.are_lines g.are.are_lines in
        h.text_is
        ∙ ap (λ n. three_lines n h.counted.bytes h.counted.visited)
        (h.are.requests_are ∙ sym g.are.requests_are)
        ∙ ap (λ n. three_lines g.counted.requests n h.counted.visited)
        (h.are.bytes_are ∙ ap (λ l. at_most_64_bits (byte_length l)) lines ∙ sym g.are.bytes_are)
        ∙ ap (three_lines g.counted.requests g.counted.bytes)
        (visited_one qs h.counted.visited g.counted.visited h.are.visited_are g.are.visited_are)
        ∙ sym g.text_is

    -- requests that have numbers are rendered
    numbers_rendered : (qs : List Request) (s : List ℕ) (h : AreNumbers T bundles root qs s)
        → AreRendered T bundles root qs Done h.are.lines
    numbers_rendered qs s h = requests.all h.are.are_lines refl

    pub generated_one : (qs : List Request) (a b : Status) (s t : List ℕ)
        → AreGenerated T bundles root qs a s → AreGenerated T bundles root qs b t
        → (a ≡ b) × (s ≡ t)
    generated_one qs a b s t (all h is) (all g so) = (is ∙ sym so, numbers_one qs s t h g)
    generated_one qs a b s t (all h is) (refused {lines = l} r not so) =
        absurd (not (sym (rendered_one qs Done b h.are.lines l (numbers_rendered qs s h) r).0))
    generated_one qs a b s t (refused {lines = l} r not is) (all g so) =
        absurd (not (sym (rendered_one qs Done a g.are.lines l (numbers_rendered qs t g) r).0))
    generated_one qs a b s t (refused {lines = l} r not is) (refused {lines = m} q other so) =
        ((rendered_one qs a b l m r q).0, is ∙ sym so)

  -- ---- walking

  walk_line_one : (q : Request) (s t : List ℕ) → IsWalkLine T q s → IsWalkLine T q t → s ≡ t
  walk_line_one q s t h g =
      let l = locale_one q g.locale h.locale g.wants h.wants in
      let k =
      laws.one_end T.fallbacker h.locale h.steps g.steps h.ends
      (subst (λ m. EndsAt T.fallbacker m g.steps) l g.ends) in
      h.line_is ∙ ap₂ (λ m n. line_of (chain_text T.fallbacker m n)) (sym l) k ∙ sym g.line_is

  walk_fault_one : (q : Request) (c d : RequestCause) → IsWalkFault T q c
      → IsWalkFault T q d → c ≡ d
  walk_fault_one q c d (walking.in_tag h) (walking.in_tag g) =
      h.2 ∙ ap Tag (laws.one_cause T.registry (encode_utf8_all q.tag) h.0 g.0 h.1 g.1) ∙ sym g.2
  walk_fault_one q c d (walking.in_tag h) (walking.in_walk {l = l} w r so) =
      absurd (laws.never_both T.registry (encode_utf8_all q.tag) l h.0 w h.1)
  walk_fault_one q c d (walking.in_walk {l = l} w r is) (walking.in_tag g) =
      absurd (laws.never_both T.registry (encode_utf8_all q.tag) l g.0 w g.1)
  walk_fault_one q c d (walking.in_walk w r is) (walking.in_walk v s so) = is ∙ sym so

  walk_line_or_fault : (q : Request) (s : List ℕ) (c : RequestCause) → IsWalkLine T q s
      → IsWalkFault T q c → ⊥
  walk_line_or_fault q s c h (walking.in_tag g) =
      laws.never_both T.registry (encode_utf8_all q.tag) h.locale g.0 h.wants g.1
  walk_line_or_fault q s c h (walking.in_walk {l = l} {k = k} w r is) =
      let same = locale_one q l h.locale w h.wants in
      laws.never_repeats T.fallbacker h.locale h.steps k h.ends
      (subst (λ m. Repeats T.fallbacker m k) same r)

  -- requests are walked as one thing
  pub walked_one : (qs : List Request) (a b : Status) (s t : List ℕ) → AreWalked T qs a s
      → AreWalked T qs b t → (a ≡ b) × (s ≡ t)
  walked_one =
      one_answered (IsWalkLine T) (IsWalkFault T) walk_line_one walk_fault_one walk_line_or_fault

-- ---- over tables that answer alike

module _ (laws : Laws) (T U : Tables) (alike : tags.AnswerAlike T.registry U.registry)
    (same : T.fallbacker ≡ U.fallbacker) where
  wants_along : (q : Request) (l : Locale) → Wants T q l → Wants U q l
  wants_along q l = laws.wanted_along T.registry U.registry (encode_utf8_all q.tag) l alike

  tag_along : (q : Request) (c : RequestCause) → HasTagCause T q c → HasTagCause U q c
  tag_along q c h =
      (h.0, laws.cause_along T.registry U.registry (encode_utf8_all q.tag) h.0 alike h.1, h.2)

  module _ (bundles : List Meaning) (root : Patterns) where
    line_along : (q : Request) (s : List ℕ) → IsLine T bundles root q s → IsLine U bundles root q s
    line_along q s h = record {
      locale = h.locale;
      wants = wants_along q h.locale h.wants;
      text = h.text;
      localised = subst (λ F. IsLocalised F bundles root h.locale q h.text) same h.localised;
      line_is = h.line_is;
    }

    fault_along : (q : Request) (c : RequestCause) → IsLineFault T bundles root q c
        → IsLineFault U bundles root q c
    fault_along q c (in_tag h) = in_tag (tag_along q c h)
    fault_along q c (in_walk {l = l} w r is) =
        in_walk (wants_along q l w) (subst (λ F. ComesRound F bundles l q) same r) is

    pub rendered_along : (qs : List Request) (status : Status) (s : List ℕ)
        → AreRendered T bundles root qs status s → AreRendered U bundles root qs status s
    rendered_along =
        answered_along (IsLine T bundles root) (IsLine U bundles root) (IsLineFault T bundles root)
        (IsLineFault U bundles root) line_along fault_along

    visits_along : (q : Request) (n : ℕ) → Visits T bundles root q n → Visits U bundles root q n
    visits_along q n h = record {
      locale = h.locale;
      wants = wants_along q h.locale h.wants;
      answer = h.answer;
      answers = subst (λ F. Answers F bundles root h.locale q h.answer) same h.answers;
      count_is = h.count_is;
    }

    visited_along : (qs : List Request) (n : ℕ) → AreVisited T bundles root qs n
        → AreVisited U bundles root qs n
    visited_along [] n h = h
    visited_along (q ∷ qs) n h = (h.0, h.1, visits_along q h.0 h.2, visited_along qs h.1 h.3, h.4)

    pub numbers_along : (qs : List Request) (s : List ℕ) → AreNumbers T bundles root qs s
        → AreNumbers U bundles root qs s
    numbers_along qs s h = record {
      counted = h.counted;
      are = record {
        lines = h.are.lines;
        are_lines =
            lines_along (IsLine T bundles root) (IsLine U bundles root) (IsLineFault T bundles root)
            (IsLineFault U bundles root) line_along fault_along qs h.are.lines h.are.are_lines;
        requests_are = h.are.requests_are;
        bytes_are = h.are.bytes_are;
        visited_are = visited_along qs h.counted.visited h.are.visited_are;
      };
      text_is = h.text_is;
    }

    pub generated_along : (qs : List Request) (status : Status) (s : List ℕ)
        → AreGenerated T bundles root qs status s → AreGenerated U bundles root qs status s
    generated_along qs status s (all h is) = all (numbers_along qs s h) is
    generated_along qs status s (refused {lines = l} r not is) =
        refused (rendered_along qs status l r) not is

  walk_line_along : (q : Request) (s : List ℕ) → IsWalkLine T q s → IsWalkLine U q s
  walk_line_along q s h = record {
    locale = h.locale;
    wants = wants_along q h.locale h.wants;
    steps = h.steps;
    ends = subst (λ F. EndsAt F h.locale h.steps) same h.ends;
    line_is = h.line_is ∙ ap (λ F. line_of (chain_text F h.locale h.steps)) same;
  }

  walk_fault_along : (q : Request) (c : RequestCause) → IsWalkFault T q c → IsWalkFault U q c
  walk_fault_along q c (walking.in_tag h) = walking.in_tag (tag_along q c h)
  walk_fault_along q c (walking.in_walk {l = l} {k = k} w r is) =
      walking.in_walk (wants_along q l w) (subst (λ F. Repeats F l k) same r) is

  pub walked_along : (qs : List Request) (status : Status) (s : List ℕ) → AreWalked T qs status s
      → AreWalked U qs status s
  walked_along =
      answered_along (IsWalkLine T) (IsWalkLine U) (IsWalkFault T)
      (IsWalkFault U) walk_line_along walk_fault_along
