-- Bundles and a root mean one thing, or have one refusal, never both.
use Rattle.std.proofs.Common.{◌≡◌, ◌≢◌, ◌↔◌, ℕ, zero, suc, ◌<◌, ◌≤◌, Bool, true, false, List, []}
use Rattle.std.proofs.Common.{◌∷◌, Option, Some, None, Ok, length, take, refl, sym, ap, ap₂, ◌∙◌}
use Rattle.std.proofs.Common.{subst, arith, inl, inr}
use Rattle.std.specs.Prelude.{Any, AllPairs, encode_utf8_all, slice_get}
use Rattle.std.specs.List.{slice_index_or}
use Rattle.std.proofs.lemmas.Bool.{cases_lt}
use Rattle.gettext.specs.Faults.{mo_fault}
use Rattle.gettext.specs.Messages.{Messages}
use Rattle.gettext.specs.Mo.{entries}
use Rattle.gettext.specs.Options.{plain_options}
use Rattle.gettext.specs.declared.error.Error.{Error}
use Rattle.icu_list.specs.ListFault.{ArePatternsOf, ListTexts, SpecialTexts, list_fault}
use Rattle.icu_list.specs.Pattern.{Pattern}
use Rattle.icu_list.specs.Patterns.{Patterns, closing_of, opening_of}
use Rattle.icu_list.specs.ListFault as texts_of
use Rattle.icu_list.specs.Specials.{with_end, with_pair}
use Rattle.icu_locale_core.specs.Locale.{Locale}
use Rattle.icu_locale_fallback.specs.Normal.{normal}
use Rattle.icu_locale_fallback.specs.declared.config.LocaleFallbackPriority.TheVariants.{Language}
use Rattle.localise.specs.Bundles.{AllMean, AreAccepted, AreBundles, IsBundleFault, IsFaultBehind}
use Rattle.localise.specs.Bundles.{IsRefusal, Means, in_bundles, in_catalog, in_list, in_locale}
use Rattle.localise.specs.Bundles.{in_root, in_tag}
use Rattle.localise.specs.Lists.{ArePatterns, EndsWith, PairsWith, list_texts}
use Rattle.localise.specs.Meaning.{Meaning}
use Rattle.localise.specs.declared.error.BundleCause.TheVariants.{Tag, Mo, List as ListCause}
use Rattle.localise.specs.declared.error.RenderError.{RenderError}
use Rattle.localise.specs.declared.error.RenderError.TheVariants as refusals
use Rattle.localise_texts.specs.declared.bundle.BundleText.{BundleText}
use Rattle.localise_texts.specs.declared.patterns.PatternTexts.{PatternTexts}
use Rattle.wanted_locale.specs.Laws as wanted
use Rattle.wanted_locale.specs.Normalised.{IsLocaleOf}
use Rattle.wanted_locale.specs.declared.tables.Tables.{Tables}
use Rattle.writeable_core.specs.Texts.{same_text}

-- ---- patterns

-- a special end is put at one pattern
ends_one : (t : Option SpecialTexts) (a b p r : Patterns) → a ≡ b → EndsWith t a p
    → EndsWith t b r → p ≡ r
ends_one None a b p r same h g = h ∙ same ∙ sym g
ends_one (Some t) a b p r same h g =
    let pattern : h.0 ≡ g.0 = let x = h.1 in let y = g.1 in cc in
    h.2
    ∙ ap₂ (λ c s. with_end c (record { condition = t.condition; pattern = closing_of s })) same
    pattern ∙ sym g.2

-- so is a special pair
pairs_one : (t : Option SpecialTexts) (a b p r : Patterns) → a ≡ b → PairsWith t a p
    → PairsWith t b r → p ≡ r
pairs_one None a b p r same h g = h ∙ same ∙ sym g
pairs_one (Some t) a b p r same h g =
    let pattern : h.0 ≡ g.0 = let x = h.1 in let y = g.1 in cc in
    h.2 ∙ ap₂ (λ c s. with_pair c (record { condition = t.condition; pattern = s })) same pattern
    ∙ sym g.2

-- four texts are one set of patterns
four_one : (s m e two : List ℕ) (p r : Patterns) → ArePatternsOf s m e two p
    → ArePatternsOf s m e two r → p ≡ r
four_one s m e two p r h g =
    let start : h.start ≡ g.start = let x = h.start_is in let y = g.start_is in cc in
    let middle : p.middle ≡ r.middle = let x = h.middle_is in let y = g.middle_is in cc in
    let end : h.end ≡ g.end = let x = h.end_is in let y = g.end_is in cc in
    let pair : h.pair ≡ g.pair = let x = h.pair_is in let y = g.pair_is in cc in
    λ i. record {
      start = (h.kept_start ∙ ap opening_of start ∙ sym g.kept_start) i;
      middle = middle i;
      end =
          (h.kept_end ∙ ap (λ x. record { default = closing_of x; special = None }) end
          ∙ sym g.kept_end) i;
      pair = (h.kept_pair ∙ ap (texts_of.pair_for (same_text two e)) pair ∙ sym g.kept_pair) i;
    }

-- the texts of a list are one set of patterns
patterns_one : (t : ListTexts) (p r : Patterns) → ArePatterns t p → ArePatterns t r → p ≡ r
patterns_one t p r h g =
    let plain = four_one t.start t.middle t.end t.pair h.plain g.plain h.four g.four in
    let ended = ends_one t.end_special h.plain g.plain h.ended g.ended plain h.end g.end in
    pairs_one t.pair_special h.ended g.ended p r ended h.pair g.pair

-- ---- places in lists

module _ {A : Type 0} where
  -- what stands at a place of a front stands there in the whole
  take_at : (xs : List A) (i k : ℕ) (d : A) → k < length (take i xs)
      → (k < i) × (slice_index_or xs k d ≡ slice_index_or (take i xs) k d)
  take_at [] zero k d within = absurd (omega (arith, within))
  take_at [] (suc i) k d within = absurd (omega (arith, within))
  take_at (x ∷ xs) zero k d within = absurd (omega (arith, within))
  take_at (x ∷ xs) (suc i) zero d within = (omega arith, refl)
  take_at (x ∷ xs) (suc i) (suc k) d within =
      let r = take_at xs i k d (omega (arith, within)) in (omega (arith, r.0), r.1)

  -- a place at which something stands lies in the list
  got : (xs : List A) (i : ℕ) (x d : A) → slice_get xs i ≡ Some x
      → (i < length xs) × (slice_index_or xs i d ≡ x)
  got [] i x d e = cc
  got (y ∷ xs) zero x d e = (omega arith, let same : y ≡ x = cc in same)
  got (y ∷ xs) (suc i) x d e = let r = got xs i x d e in (omega (arith, r.0), r.1)

-- ---- the laws of the layers below

-- a file means one thing, and then it has no fault
abbrev pub OneFile : Type 0
OneFile = (b : List ℕ) (c d : Messages) → entries b plain_options c
    → entries b plain_options d → c ≡ d

abbrev pub Faultless : Type 0
Faultless = (b : List ℕ) → mo_fault b plain_options None
    ↔ ((c : Messages) × entries b plain_options c)

-- a file has one fault, or none
abbrev pub OneFault : Type 0
OneFault = (b : List ℕ) (e f : Option Error) → mo_fault b plain_options e
    → mo_fault b plain_options f → e ≡ f

module _ (one : wanted.OneWanted) (one_cause : wanted.OneCause) (never : wanted.NeverBoth)
    (one_file : OneFile) (faultless : Faultless) (one_fault : OneFault) (T : Tables) where
  -- a tag is that of one locale
  locale_one : (text : List ℕ) (l m : Locale) → IsLocaleOf T text l → IsLocaleOf T text m → l ≡ m
  locale_one text l m h g =
      h.normalised ∙ ap (normal T.fallbacker.likely Language)
      (one T.registry text h.wanted g.wanted h.wants g.wants) ∙ sym g.normalised

  -- a bundle means one thing
  means_one : (text : BundleText) (b c : Meaning) → Means T text b → Means T text c → b ≡ c
  means_one text b c h g = λ i. record {
    locale = locale_one (encode_utf8_all text.tag) b.locale c.locale h.locale g.locale i;
    messages = one_file text.mo b.messages c.messages h.messages g.messages i;
    patterns = patterns_one (list_texts text.list) b.patterns c.patterns h.patterns g.patterns i;
  }

  -- so do bundles
  all_one : (texts : List BundleText) (bs cs : List Meaning) → AllMean T texts bs
      → AllMean T texts cs → bs ≡ cs
  all_one [] [] [] h g = refl
  all_one [] [] (c ∷ cs) h g = absurd g
  all_one [] (b ∷ bs) cs h g = absurd h
  all_one (t ∷ ts) [] cs h g = absurd h
  all_one (t ∷ ts) (b ∷ bs) [] h g = absurd g
  all_one (t ∷ ts) (b ∷ bs) (c ∷ cs) h g =
      ap₂ (λ x xs. x ∷ xs) (means_one t b c h.0 g.0) (all_one ts bs cs h.1 g.1)

  -- a catalog that means something has no fault
  file_no_fault : (text : BundleText) (b : Meaning) → Means T text b
      → mo_fault text.mo plain_options None
  file_no_fault text b h = (faultless text.mo).1 (b.messages, h.messages)

  -- a bundle that means something, and whose locale is no earlier bundle's, isn't faulty
  sound_no_fault : (earlier : List Meaning) (i : ℕ) (text : BundleText) (b : Meaning)
      (e : RenderError) → Means T text b
      → (Any (λ other. other.locale ≡ b.locale) earlier → ⊥) → IsFaultBehind T earlier i text e → ⊥
  sound_no_fault earlier i text b e h new (in_tag {cause = cause} c is) =
      never T.registry (encode_utf8_all text.tag) h.locale.wanted cause h.locale.wants c
  sound_no_fault earlier i text b e h new (in_catalog l f is) = let none =
      one_fault text.mo _ None f (file_no_fault text b h) in cc
  sound_no_fault earlier i text b e h new (in_list l n f is) = let none = h.patterns.faultless in cc
  sound_no_fault earlier i text b e h new (in_locale {b = c} m any is) =
      new
      (subst (λ (x : Meaning). Any (λ other. other.locale ≡ x.locale) earlier)
      (means_one text c b m h) any)

  -- a bundle has one fault
  fault_one : (earlier : List Meaning) (i : ℕ) (text : BundleText) (e f : RenderError)
      → IsFaultBehind T earlier i text e → IsFaultBehind T earlier i text f → e ≡ f
  fault_one earlier i text e f (in_tag {cause = c} h is) (in_tag {cause = d} g so) =
      is ∙ ap (λ x. refusals.Bundle i (Tag x))
      (one_cause T.registry (encode_utf8_all text.tag) c d h g) ∙ sym so
  fault_one earlier i text e f (in_tag {cause = c} h is) (in_catalog l g so) =
      absurd (never T.registry (encode_utf8_all text.tag) l.wanted c l.wants h)
  fault_one earlier i text e f (in_tag {cause = c} h is) (in_list l n g so) =
      absurd (never T.registry (encode_utf8_all text.tag) l.wanted c l.wants h)
  fault_one earlier i text e f (in_tag {cause = c} h is) (in_locale m any so) =
      absurd (never T.registry (encode_utf8_all text.tag) m.locale.wanted c m.locale.wants h)
  fault_one earlier i text e f (in_catalog l h is) (in_tag {cause = d} g so) =
      absurd (never T.registry (encode_utf8_all text.tag) l.wanted d l.wants g)
  fault_one earlier i text e f (in_catalog {fault = x} l h is) (in_catalog {fault = y} m g so) =
      let faults = one_fault text.mo (Some x) (Some y) h g in
      let same : x ≡ y = cc in is ∙ ap (λ z. refusals.Bundle i (Mo z)) same ∙ sym so
  fault_one earlier i text e f (in_catalog l h is) (in_list m n g so) =
      absurd (let clash = one_fault text.mo _ None h n in cc)
  fault_one earlier i text e f (in_catalog l h is) (in_locale {b = b} m any so) =
      absurd (let clash = one_fault text.mo _ None h (file_no_fault text b m) in cc)
  fault_one earlier i text e f (in_list l n h is) (in_tag {cause = d} g so) =
      absurd (never T.registry (encode_utf8_all text.tag) l.wanted d l.wants g)
  fault_one earlier i text e f (in_list l n h is) (in_catalog m g so) =
      absurd (let clash = one_fault text.mo _ None g n in cc)
  fault_one earlier i text e f (in_list {fault = x} l n h is) (in_list {fault = y} m o g so) =
      let same : x ≡ y = cc in is ∙ ap (λ z. refusals.Bundle i (ListCause z)) same ∙ sym so
  fault_one earlier i text e f (in_list l n h is) (in_locale m any so) =
      absurd (let clash = sym h ∙ m.patterns.faultless in cc)
  fault_one earlier i text e f (in_locale m any is) (in_tag {cause = d} g so) =
      absurd (never T.registry (encode_utf8_all text.tag) m.locale.wanted d m.locale.wants g)
  fault_one earlier i text e f (in_locale {b = b} m any is) (in_catalog l g so) =
      absurd (let clash = one_fault text.mo _ None g (file_no_fault text b m) in cc)
  fault_one earlier i text e f (in_locale m any is) (in_list l n g so) =
      absurd (let clash = sym g ∙ m.patterns.faultless in cc)
  fault_one earlier i text e f (in_locale m any is) (in_locale n other so) = is ∙ sym so

  -- ---- the first faulty bundle

  -- a bundle among some in front that mean something, and those before it
  record Among (texts : List BundleText) (i : ℕ) (text : BundleText) (bs : List Meaning) :
      Type 0 where
    here : Meaning
    here_is : slice_get bs i ≡ Some here
    means : Means T text here
    before : AllMean T (take i texts) (take i bs)

  among : (texts : List BundleText) (i j : ℕ) (text : BundleText) (bs : List Meaning) → i < j
      → slice_get texts i ≡ Some text
      → AllMean T (take j texts) bs → Among texts i text bs
  among [] i j text bs less e h = cc
  among (t ∷ ts) i zero text bs less e h = absurd (omega (arith, less))
  among (t ∷ ts) zero (suc j) text [] less e h = absurd h
  among (t ∷ ts) zero (suc j) text (b ∷ bs) less e h =
      let same : t ≡ text = cc in
      record {
        here = b;
        here_is = refl;
        means = subst (λ x. Means T x b) same h.0;
        before = tt;
      }
  among (t ∷ ts) (suc i) (suc j) text [] less e h = absurd h
  among (t ∷ ts) (suc i) (suc j) text (b ∷ bs) less e h =
      let r = among ts i j text bs (omega (arith, less)) e h.1 in
      record { here = r.here; here_is = r.here_is; means = r.means; before = (h.0, r.before) }

  -- the same among all of them
  among_all : (texts : List BundleText) (i : ℕ) (text : BundleText) (bs : List Meaning)
      → slice_get texts i ≡ Some text
      → AllMean T texts bs → Among texts i text bs
  among_all [] i text bs e h = cc
  among_all (t ∷ ts) zero text [] e h = absurd h
  among_all (t ∷ ts) zero text (b ∷ bs) e h =
      let same : t ≡ text = cc in
      record {
        here = b;
        here_is = refl;
        means = subst (λ x. Means T x b) same h.0;
        before = tt;
      }
  among_all (t ∷ ts) (suc i) text [] e h = absurd h
  among_all (t ∷ ts) (suc i) text (b ∷ bs) e h =
      let r = among_all ts i text bs e h.1 in
      record { here = r.here; here_is = r.here_is; means = r.means; before = (h.0, r.before) }

  -- where no two are for one locale, none of those before it has its locale
  new_among : (texts : List BundleText) (i : ℕ) (text : BundleText) (bs earlier : List Meaning)
      (a : Among texts i text bs)
      → AllPairs (λ x y. x.locale ≢ y.locale) bs → AllMean T (take i texts) earlier
      → Any (λ other. other.locale ≡ a.here.locale) earlier → ⊥
  new_among texts i text bs earlier a apart means any =
      let same : earlier ≡ take i bs = all_one (take i texts) earlier (take i bs) means a.before in
      let there =
      subst (λ (xs : List Meaning). Any (λ other. other.locale ≡ a.here.locale) xs) same any in
      let k = there.0 in
      let x = there.1 in
      let at = take_at bs i k x there.2 in
      let here = got bs i a.here x a.here_is in
      let first : slice_index_or bs k x ≡ x = at.1 ∙ there.3 in
      apart k i x at.0 here.0 (ap (λ m. m.locale) first ∙ there.4 ∙ sym (ap (λ m. m.locale) here.1))

  -- a faulty bundle doesn't stand among those that are accepted
  fault_among : (texts : List BundleText) (e : RenderError) (f : IsBundleFault T texts e)
      (bs : List Meaning)
      → AllPairs (λ x y. x.locale ≢ y.locale) bs → Among texts f.i f.text bs → ⊥
  fault_among texts e f bs apart a =
      sound_no_fault f.earlier f.i f.text a.here e a.means
      (new_among texts f.i f.text bs f.earlier a apart f.before.mean) f.fault

  -- there is one first faulty bundle
  bundle_fault_one : (texts : List BundleText) (e f : RenderError) → IsBundleFault T texts e
      → IsBundleFault T texts f → e ≡ f
  bundle_fault_one texts e f h g =
      elim (cases_lt h.i g.i) [
        | inl less ↦
            absurd (fault_among texts e h g.earlier g.before.apart
            (among texts h.i g.i h.text g.earlier less h.text_is g.before.mean))
        | inr more ↦ elim (cases_lt g.i h.i) [
          | inl less ↦
              absurd (fault_among texts f g h.earlier h.before.apart
              (among texts g.i h.i g.text h.earlier less g.text_is h.before.mean))
          | inr other ↦ at_one (omega (arith, more, other))
        ]
      ]
    where
      at_one : h.i ≡ g.i → e ≡ f
      at_one same =
          let there : slice_get texts g.i ≡ Some h.text =
          subst (λ k. slice_get texts k ≡ Some h.text) same h.text_is in
          let text : h.text ≡ g.text = let x = g.text_is in cc in
          let mean : AllMean T (take g.i texts) h.earlier =
          subst (λ k. AllMean T (take k texts) h.earlier) same h.before.mean in
          let earlier : h.earlier ≡ g.earlier =
          all_one (take g.i texts) h.earlier g.earlier mean g.before.mean in
          fault_one g.earlier g.i g.text e f
          (subst (λ x. IsFaultBehind T x g.i g.text e) earlier
          (subst (λ x. IsFaultBehind T h.earlier g.i x e) text
          (subst (λ k. IsFaultBehind T h.earlier k h.text e) same h.fault)))
          g.fault

  -- ---- bundles and root

  -- what is accepted means one thing
  pub accepted_one : (texts : List BundleText) (root : PatternTexts) (bs cs : List Meaning)
      (p r : Patterns)
      → AreAccepted T texts root bs p → AreAccepted T texts root cs r → (bs ≡ cs) × (p ≡ r)
  accepted_one texts root bs cs p r h g = (
    all_one texts bs cs h.bundles.mean g.bundles.mean,
    patterns_one (list_texts root) p r h.root_patterns g.root_patterns,
  )

  -- and isn't refused
  pub accepted_not_refused : (texts : List BundleText) (root : PatternTexts) (bs : List Meaning)
      (p : Patterns) (e : RenderError)
      → AreAccepted T texts root bs p → IsRefusal T texts root e → ⊥
  accepted_not_refused texts root bs p e h (in_bundles f) =
      fault_among texts e f bs h.bundles.apart
      (among_all texts f.i f.text bs f.text_is h.bundles.mean)
  accepted_not_refused texts root bs p e h (in_root b f is) = let none =
      h.root_patterns.faultless in cc

  -- there is one refusal
  pub refusal_one : (texts : List BundleText) (root : PatternTexts) (e f : RenderError)
      → IsRefusal T texts root e → IsRefusal T texts root f → e ≡ f
  refusal_one texts root e f (in_bundles h) (in_bundles g) = bundle_fault_one texts e f h g
  refusal_one texts root e f (in_bundles h) (in_root {bs = bs} b g so) =
      absurd (fault_among texts e h bs b.apart (among_all texts h.i h.text bs h.text_is b.mean))
  refusal_one texts root e f (in_root {bs = bs} b h is) (in_bundles g) =
      absurd (fault_among texts f g bs b.apart (among_all texts g.i g.text bs g.text_is b.mean))
  refusal_one texts root e f (in_root {fault = x} b h is) (in_root {fault = y} c g so) =
      let same : x ≡ y = cc in is ∙ ap (λ z. refusals.Root z) same ∙ sym so
