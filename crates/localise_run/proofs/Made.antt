-- Made requests: which stands at a place, the requests that they are made from, and how many
-- locales are visited for them.
use Rattle.std.proofs.Common.{◌≡◌, ℕ, zero, suc, ◌+◌, ◌<◌, ◌≤◌, ◌%◌, min, List, [], ◌∷◌, ◌++◌, Some}
use Rattle.std.proofs.Common.{length, take, get_or, set, refl, sym, ap, ◌∙◌, subst, arith, ltb, inl}
use Rattle.std.proofs.Common.{inr, add-zero, zero-add, length-set, get_or-set_same}
use Rattle.std.proofs.Common.{get_or-set_other}
use Rattle.std.specs.Prelude.{slice_get}
use Rattle.std.proofs.Math.Nat.{mod-eq_of_lt, mod-le, mod-lt}
use Rattle.std.proofs.lemmas.Bool.{cases_eq, cases_lt, cond-true, cond-false, lt-ltb, le-ltb}
use Rattle.std.proofs.lemmas.Option.{get_or_from_slice_get, slice_get_within}
use Rattle.std.proofs.lemmas.List.{get_or_default, get_or_push, get_or_append_left, length_push}
use Rattle.std.proofs.lemmas.List.{take_more}
use Rattle.icu_list.specs.Patterns.{Patterns}
use Rattle.icu_locale_core.specs.Locale.{Locale}
use Rattle.localise.specs.Meaning.{Meaning}
use Rattle.localise_run.proofs.Lines.{got}
use Rattle.localise_run.specs.Generating.{AreVisited, Visits, known, made, made_from}
use Rattle.localise_run.specs.Wanting.{Wants}
use Rattle.localise_texts.specs.declared.request.Request.{Request}
use Rattle.wanted_locale.specs.declared.tables.Tables.{Tables}

-- ---- which requests are made

-- made request i is one of the document's, with the count and the items of i
pub made_at : (qs : List Request) (n i j : ℕ) (q : Request) → 0 < length qs → i < n
    → get_or (made qs j n) i q ≡ made_from (j + i) (get_or qs ((j + i) % length qs) q)
made_at [] n i j q some within = absurd (omega (arith, some))
made_at (p ∷ ps) zero i j q some within = absurd (omega (arith, within))
made_at (p ∷ ps) (suc n) zero j q some within =
    ap (λ k. made_from k (get_or (p ∷ ps) (k % length (p ∷ ps)) p)) (sym (add-zero j))
    ∙ ap (made_from (j + 0))
    (get_or_default (p ∷ ps) ((j + 0) % length (p ∷ ps)) p q (mod-lt (j + 0) some))
made_at (p ∷ ps) (suc n) (suc i) j q some within =
    let moved : suc j + i ≡ j + suc i = omega arith in
    made_at (p ∷ ps) n i (suc j) q some (omega (arith, within))
    ∙ ap (λ k. made_from k (get_or (p ∷ ps) (k % length (p ∷ ps)) q)) moved

-- so many are made
pub made_length : (qs : List Request) (n j : ℕ) → 0 < length qs → length (made qs j n) ≡ n
made_length [] n j some = absurd (omega (arith, some))
made_length (p ∷ ps) zero j some = refl
made_length (p ∷ ps) (suc n) j some = ap suc (made_length (p ∷ ps) n (suc j) some)

-- and none from no requests
pub made_none : (n j : ℕ) → made [] j n ≡ []
made_none zero j = refl
made_none (suc n) j = refl

-- ---- the requests that they are made from

-- requests that differ from the document's only in what each made request has of its own
pub record AreRemade (old now : List Request) : Type 0 where
  pub same_length : length now ≡ length old
  pub same_made : (j k : ℕ) (q : Request)
      → made_from j (get_or now k q) ≡ made_from j (get_or old k q)

pub remade_none : (old : List Request) → AreRemade old old
remade_none old = record { same_length = refl; same_made = λ j k q. refl }

-- one of them is remade
pub remade_more : (old now : List Request) (place number : ℕ) (r : Request) → AreRemade old now
    → place < length now
    → r ≡ get_or now place r → AreRemade old (set now place (made_from number r))
remade_more old now place number r h within is = record {
  same_length = length-set now place (made_from number r) ∙ h.same_length;
  same_made = λ (j : ℕ) (k : ℕ) (q : Request).
      elim (cases_eq k place) [
        | inl same ↦
            ap (λ (i : ℕ). made_from j (get_or (set now place (made_from number r)) i q)) same
            ∙ ap (made_from j) (get_or-set_same now place (made_from number r) q within)
            ∙ ap (made_from j) (is ∙ get_or_default now place r q within)
            ∙ ap (λ (i : ℕ). made_from j (get_or now i q)) (sym same)
            ∙ h.same_made j k q
        | inr other ↦ ap (made_from j) (get_or-set_other now place k (made_from number r) q other)
            ∙ h.same_made j k q
      ];
}

-- what it is remade to is the made request
pub remade_is : (old now : List Request) (n number : ℕ) (r q : Request) → AreRemade old now
    → 0 < length old → number < n
    → r ≡ get_or now (number % length now) r → made_from number r ≡ get_or (made old 0 n) number q
remade_is old now n number r q h some within is =
    let there : number % length now < length now =
    mod-lt number (omega (arith, some, h.same_length)) in
    ap (made_from number) (is ∙ get_or_default now (number % length now) r q there)
    ∙ h.same_made number (number % length now) q
    ∙ ap (λ (m : ℕ). made_from number (get_or old (number % m) q)) h.same_length
    ∙ ap (λ (k : ℕ). made_from k (get_or old (k % length old) q)) (sym (zero-add number))
    ∙ sym (made_at old n number 0 q some within)

module _ (old now : List Request) (h : AreRemade old now) (some : 0 < length old) (n count : ℕ)
    (within : n < count)
    (r made_request : Request) (is : r ≡ get_or now (n % length now) r)
    (is_made : made_request ≡ made_from n r) where
  pub place_within : n % length now < length now
  place_within = mod-lt n (omega (arith, some, h.same_length))

  -- the request at the place, once it is remade
  pub read_back : (q : Request)
      → get_or (set now (n % length now) made_request) (n % length now) q ≡ made_request
  read_back q = get_or-set_same now (n % length now) made_request q place_within

  -- it is the next made request
  pub in_made : n < length (made old 0 count)
  in_made = omega (arith, within, made_length old count 0 some)

  pub stands : made_request ≡ get_or (made old 0 count) n made_request
  stands = is_made ∙ remade_is old now count n r made_request h some within is

  pub got_made : slice_get (made old 0 count) n ≡ Some made_request
  got_made = got (made old 0 count) n made_request in_made stands

  -- and the requests are still made from the document's
  pub remade_next : AreRemade old (set now (n % length now) made_request)
  remade_next =
      subst (λ (q : Request). AreRemade old (set now (n % length now) q)) (sym is_made)
      (remade_more old now (n % length now) n r h place_within is)

-- ---- the locales that they ask for

-- the locale of each request in front is known
pub record AreKnown (T : Tables) (qs : List Request) (locales : List Locale) (number : ℕ) :
    Type 0 where
  pub count : length locales ≡ min number (length qs)
  pub known_at : (k : ℕ) (q : Request) (l : Locale) → k < length locales
      → Wants T (get_or qs k q) (get_or locales k l)

-- a request in place of another that asks for the same tag
same_tag : (T : Tables) (q r : Request) (j : ℕ) (l : Locale) → made_from j q ≡ made_from j r
    → Wants T q l → Wants T r l
same_tag T q r j l same = subst (λ (p : Request). Wants T p l) same

module _ (T : Tables) (old now : List Request) (h : AreRemade old now) where
  -- a locale that is known is the request's
  pub known_is : (locales : List Locale) (number place : ℕ) (r : Request) (l : Locale)
      → AreKnown T old locales number
      → place < length now → r ≡ get_or now place r → slice_get locales place ≡ Some l → Wants T r l
  known_is locales number place r l knows within is at =
      let there = slice_get_within locales place l at in
      let same : made_from 0 (get_or old place r) ≡ made_from 0 r =
      sym (h.same_made 0 place r) ∙ ap (made_from 0) (sym is) in
      subst (λ (m : Locale). Wants T r m) (get_or_from_slice_get locales place l l at)
      (same_tag T (get_or old place r) r 0 (get_or locales place l) same
      (knows.known_at place r l there))

  -- what the next locale is behind
  next_is : (locales : List Locale) (number : ℕ) → 0 < length old → AreKnown T old locales number
      → length locales ≤ number % length now
      → (number < length old) × (number % length now ≡ number) × (length locales ≡ number)
  next_is locales number some knows more =
      let below : number % length now < length now =
      mod-lt number (omega (arith, some, h.same_length)) in
      let within : number < length old =
      omega (arith, more, below, knows.count, h.same_length, mod-le number (length now)) in
      let here : number % length now ≡ number =
      mod-eq_of_lt (omega (arith, within, h.same_length)) in
      (within, here, omega (arith, more, here, within, knows.count))

  -- and with that of the next request they are known
  pub known_more : (locales : List Locale) (number : ℕ) (r : Request) (l : Locale) → 0 < length old
      → AreKnown T old locales number
      → r ≡ get_or now (number % length now) r → Wants T r l
      → AreKnown T old (known locales (number % length now) l) (number + 1)
  known_more locales number r l some knows is wants =
      elim (cases_lt place (length locales)) [
        | inl less ↦ subst (λ (ls : List Locale). AreKnown T old ls (number + 1))
            (sym (cond-true (ltb place (length locales)) _ _ (lt-ltb place (length locales) less)))
            (among less)
        | inr more ↦ subst (λ (ls : List Locale). AreKnown T old ls (number + 1))
            (sym (cond-false (ltb place (length locales)) _ _ (le-ltb place (length locales) more)))
            (behind more)
      ]
    where
      place : ℕ
      place = number % length now

      among : number % length now < length locales → AreKnown T old locales (number + 1)
      among less = record {
        count =
            elim (cases_lt number (length old)) [
              | inl within ↦
                  let here : number % length now ≡ number =
                  mod-eq_of_lt (omega (arith, within, h.same_length)) in
                  absurd (omega (arith, less, here, within, knows.count))
              | inr past ↦ omega (arith, past, knows.count)
            ];
        known_at = knows.known_at;
      }

      behind : length locales ≤ number % length now
          → AreKnown T old (locales ++ l ∷ []) (number + 1)
      behind more =
          let at = next_is locales number some knows more in
          record {
            count = omega (arith, length_push locales l, at.0, at.2);
            known_at = λ (k : ℕ) (q : Request) (m : Locale) below.
                elim (cases_lt k (length locales)) [
                  | inl less ↦ subst (λ (n : Locale). Wants T (get_or old k q) n)
                      (sym (get_or_append_left locales (l ∷ []) m k less))
                      (knows.known_at k q m less)
                  | inr past ↦
                      let here : k ≡ number % length now =
                      omega (arith, below, past, length_push locales l, at.1, at.2) in
                      let ends : length locales ≡ k = omega (arith, here, at.1, at.2) in
                      let within : k < length now =
                      omega (arith, here, at.0, at.1, h.same_length) in
                      let same : made_from 0 r ≡ made_from 0 (get_or old k q) =
                      ap (made_from 0) (is ∙ ap (λ (i : ℕ). get_or now i r) (sym here)
                      ∙ get_or_default now k r q within) ∙ h.same_made 0 k q in
                      subst (λ (n : Locale). Wants T (get_or old k q) n)
                      (sym (get_or_push locales l m k ends))
                      (same_tag T r (get_or old k q) 0 l same wants)
                ];
          }

-- ---- how many locales are visited for them

module _ (T : Tables) (bundles : List Meaning) (root : Patterns) where
  -- one request behind others
  visits_behind : (qs : List Request) (q : Request) (total count : ℕ)
      → AreVisited T bundles root qs total → Visits T bundles root q count
      → AreVisited T bundles root (qs ++ q ∷ []) (total + count)
  visits_behind [] q total count h v = (count, 0, v, refl, omega (arith, h))
  visits_behind (p ∷ ps) q total count h v =
      (h.0, h.1 + count, h.2, visits_behind ps q h.1 count h.3 v, omega (arith, h.4))

  -- one request more
  pub visits_more : (qs : List Request) (i : ℕ) (q : Request) (total count : ℕ) → i < length qs
      → q ≡ get_or qs i q
      → AreVisited T bundles root (take i qs) total → Visits T bundles root q count
      → AreVisited T bundles root (take (i + 1) qs) (total + count)
  visits_more qs i q total count within is h v =
      subst (λ (ps : List Request). AreVisited T bundles root ps (total + count))
      (sym (take_more qs i q within ∙ ap (λ (p : Request). take i qs ++ p ∷ []) (sym is)))
      (visits_behind (take i qs) q total count h v)
