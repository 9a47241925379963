-- What is kept of bundles, one more at a time.
use Rattle.std.proofs.Common.{◌≡◌, ◌≢◌, ℕ, zero, suc, ◌+◌, ◌<◌, List, [], ◌∷◌, ◌++◌, length, Option}
use Rattle.std.proofs.Common.{Some, take, refl, sym, ap, ◌∙◌, subst, arith}
use Rattle.std.proofs.lemmas.List.Elements.{All-cons, All-nil}
use Rattle.std.proofs.lemmas.List.Quantifiers.{all_pairs_push}
use Rattle.std.proofs.lemmas.List.{length-map, length-take-le}
use Rattle.std.specs.List.{All, Any, slice_get}
use Rattle.std.specs.Prelude.{slice_index_or}
use Rattle.std.specs.Prelude.{if◌then◌else◌}
use Rattle.gettext.specs.Messages.{key_of}
use Rattle.icu_list.specs.Patterns.{Patterns}
use Rattle.icu_locale_core.specs.Equality.{same_locale}
use Rattle.icu_locale_core.specs.Locale.{Locale}
use Rattle.localise.specs.Bundles.{AllMean, IsBundleFault, IsFaultBehind, Means, in_locale}
use Rattle.localise.specs.Read.{meaning_of, meanings_of}
use Rattle.localise.specs.declared.bundle.Bundle.{Bundle}
use Rattle.localise.specs.declared.error.RenderError.{RenderError}
use Rattle.localise.specs.declared.error.RenderError.TheVariants as refusals
use Rattle.localise.specs.Chosen.{Translation, form_for, numbered, translation_from}
use Rattle.localise.specs.Kept.{AllKeep, AreAlike, AreKept, IsRead, Keeps}
use Rattle.localise.proofs.Placing.{any_later}
use Rattle.localise.specs.Meaning.{Meaning}
use Rattle.localise_texts.specs.declared.bundle.BundleText.{BundleText}
use Rattle.localise_texts.specs.declared.request.Request.{Request}
use Rattle.wanted_locale.specs.declared.tables.Tables.{Tables}

-- texts that mean bundles, and one more
mean-push : (T : Tables) (texts : List BundleText) (bs : List Meaning)
    (text : BundleText) (b : Meaning)
    → AllMean T texts bs → Means T text b → AllMean T (texts ++ text ∷ []) (bs ++ b ∷ [])
mean-push T [] [] text b h m = (m, tt)
mean-push T (x ∷ texts) (y ∷ bs) text b h m = (h.0, mean-push T texts bs text b h.1 m)
mean-push T [] (y ∷ bs) text b h m = absurd h
mean-push T (x ∷ texts) [] text b h m = absurd h

-- there are as many of one as of the other
pub mean-length : (T : Tables) (texts : List BundleText) (bs : List Meaning) → AllMean T texts bs
    → length bs ≡ length texts
mean-length T [] [] h = refl
mean-length T (x ∷ texts) (y ∷ bs) h = ap suc (mean-length T texts bs h.1)
mean-length T [] (y ∷ bs) h = absurd h
mean-length T (x ∷ texts) [] h = absurd h

-- bundles that are kept, and one more
keep-push : (kept bs : List Meaning) (k b : Meaning) → AllKeep kept bs → Keeps k b
    → AllKeep (kept ++ k ∷ []) (bs ++ b ∷ [])
keep-push [] [] k b h one = (one, tt)
keep-push (x ∷ kept) (y ∷ bs) k b h one = (h.0, keep-push kept bs k b h.1 one)
keep-push [] (y ∷ bs) k b h one = absurd h
keep-push (x ∷ kept) [] k b h one = absurd h

-- as many are kept
pub keep-length : (kept bs : List Meaning) → AllKeep kept bs → length kept ≡ length bs
keep-length [] [] h = refl
keep-length (x ∷ kept) (y ∷ bs) h = ap suc (keep-length kept bs h.1)
keep-length [] (y ∷ bs) h = absurd h
keep-length (x ∷ kept) [] h = absurd h

-- what holds of each element holds of those behind the first
all_later : {X : Type 0} (P : X → Type 0) (x : X) (xs : List X) → All P (x ∷ xs) → All P xs
all_later P x xs all = λ k d low. all (suc k) d (omega arith)

-- what holds of the locale of each bundle that is kept holds of that of each bundle
pub keep-all : (P : Locale → Type 0) (kept bs : List Meaning) → AllKeep kept bs
    → All (λ (b : Meaning). P b.locale) kept → All (λ (b : Meaning). P b.locale) bs
keep-all P [] [] h all = All-nil (λ (b : Meaning). P b.locale)
keep-all P (x ∷ kept) (y ∷ bs) h all =
    All-cons (λ (b : Meaning). P b.locale) y bs (subst P h.0.locale (all 0 x (omega arith)))
    (keep-all P kept bs h.1 (all_later (λ (b : Meaning). P b.locale) x kept all))
keep-all P [] (y ∷ bs) h all = absurd h
keep-all P (x ∷ kept) [] h all = absurd h

-- what holds of the locale of some bundle that is kept, the one with this number, holds of that of
-- some bundle
keep_any_at : (P : Locale → Type 0) (kept bs : List Meaning) (k : ℕ) (m : Meaning) → AllKeep kept bs
    → k < length kept → slice_index_or kept k m ≡ m → P m.locale
    → Any (λ (b : Meaning). P b.locale) bs
keep_any_at P [] bs k m h low is p = absurd (omega arith)
keep_any_at P (x ∷ kept) [] k m h low is p = absurd h
keep_any_at P (x ∷ kept) (y ∷ bs) zero m h low is p =
    (0, y, omega arith, refl, subst P (ap (λ (b : Meaning). b.locale) (sym is) ∙ h.0.locale) p)
keep_any_at P (x ∷ kept) (y ∷ bs) (suc k) m h low is p =
    any_later (λ (b : Meaning). P b.locale) y bs (keep_any_at P kept bs k m h.1 (omega arith) is p)

-- the same of some bundle
pub keep-any : (P : Locale → Type 0) (kept bs : List Meaning) → AllKeep kept bs
    → Any (λ (b : Meaning). P b.locale) kept → Any (λ (b : Meaning). P b.locale) bs
keep-any P kept bs h any = keep_any_at P kept bs any.0 any.1 h any.2 any.3 any.4

-- one more bundle is read, for a locale of none before it
pub read-push : (T : Tables) (texts : List BundleText) (kept : List Meaning)
    (text : BundleText) (k : Meaning)
    → AreKept T texts kept → IsRead T text k → All (λ (b : Meaning). b.locale ≢ k.locale) kept
    → AreKept T (texts ++ text ∷ []) (kept ++ k ∷ [])
read-push T texts kept text k all one fresh =
    let apart : All (λ (b : Meaning). b.locale ≢ one.meaning.locale) all.bundles =
    keep-all (λ l. l ≢ one.meaning.locale) kept all.bundles all.keep
    (subst (λ l. All (λ (b : Meaning). b.locale ≢ l) kept) one.keeps.locale fresh) in
    record {
      bundles = all.bundles ++ one.meaning ∷ [];
      are = record {
        mean = mean-push T texts all.bundles text one.meaning all.are.mean one.means;
        apart =
            all_pairs_push (λ (earlier later : Meaning). earlier.locale ≢ later.locale) all.bundles
            one.meaning all.are.apart apart;
      };
      keep = keep-push kept all.bundles k one.meaning all.keep one.keeps;
    }

-- a form of a bundle that is kept
numbered-keeps : (i : ℕ) (k b : Meaning) (q : Request) → Keeps k b
    → numbered i k (form_for k q) ≡ numbered i b (form_for b q)
numbered-keeps i k b q keeps =
    ap (λ f. numbered i k f) (keeps.forms (key_of q.context q.singular) q.count)
    ∙ ap (λ (p : Patterns). numbered i (record k { patterns = p }) (form_for b q)) keeps.patterns

-- what is kept translates alike
pub translation-alike : (i : ℕ) (kept bs : List Meaning) (q : Request) (l : Locale)
    → AllKeep kept bs
    → translation_from i kept q l ≡ translation_from i bs q l
translation-alike i [] [] q l h = refl
translation-alike i (x ∷ kept) (y ∷ bs) q l h =
    ap
    (λ (m : Locale). if same_locale m l then numbered i x (form_for x q) else translation_from
    (i + 1) kept q l) h.0.locale
    ∙ ap (λ (t : Option Translation).
    if same_locale y.locale l then t else translation_from (i + 1) kept q l)
    (numbered-keeps i x y q h.0)
    ∙ ap (λ (t : Option Translation).
    if same_locale y.locale l then numbered i y (form_for y q) else t)
    (translation-alike (i + 1) kept bs q l h.1)
translation-alike i [] (y ∷ bs) q l h = absurd h
translation-alike i (x ∷ kept) [] q l h = absurd h

-- what is kept gives each request what the bundles mean
pub alike : (kept bs : List Meaning) → AllKeep kept bs → AreAlike kept bs
alike kept bs h = λ q l. translation-alike 0 kept bs q l h

-- ---- the first fault

-- as many bundles are read as there are texts before this one
read_number : (T : Tables) (texts : List BundleText) (i : ℕ) (read : List Bundle) → i < length texts
    → AreKept T (take i texts) (meanings_of read) → length read ≡ i
read_number T texts i read low are =
    sym (length-map read meaning_of) ∙ keep-length (meanings_of read) are.bundles are.keep
    ∙ mean-length T (take i texts) are.bundles are.are.mean ∙ length-take-le i texts (omega arith)

-- a bundle that is faulty by itself is the first that is
pub fault_of_read : (T : Tables) (texts : List BundleText) (i : ℕ) (read : List Bundle) (number : ℕ)
    (e : RenderError) (text : BundleText)
    → slice_get texts i ≡ Some text → i < length texts → AreKept T (take i texts) (meanings_of read)
    → number ≡ length read
    → ((earlier : List Meaning) → IsFaultBehind T earlier number text e) → IsBundleFault T texts e
fault_of_read T texts i read number e text there low are number_is fault = record {
  i = i;
  text = text;
  text_is = there;
  earlier = are.bundles;
  before = are.are;
  fault =
      subst (λ n. IsFaultBehind T are.bundles n text e)
      (number_is ∙ read_number T texts i read low are) (fault are.bundles);
}

-- a bundle for the locale of an earlier one is the first that is faulty
pub fault_of_locale : (T : Tables) (texts : List BundleText) (i : ℕ) (read : List Bundle)
    (kept : Meaning) (e : RenderError) (text : BundleText)
    → slice_get texts i ≡ Some text → i < length texts → AreKept T (take i texts) (meanings_of read)
    → IsRead T text kept
    → (e ≡ refusals.DuplicateLocale (length read))
    × Any (λ (other : Meaning). other.locale ≡ kept.locale) (meanings_of read)
    → IsBundleFault T texts e
fault_of_locale T texts i read kept e text there low are one fault =
    let among = keep-any (λ l. l ≡ kept.locale) (meanings_of read) are.bundles are.keep fault.1 in
    record {
      i = i;
      text = text;
      text_is = there;
      earlier = are.bundles;
      before = are.are;
      fault = in_locale {b = one.meaning} one.means
          (subst (λ l. Any (λ (other : Meaning). other.locale ≡ l) are.bundles)
          one.keeps.locale among)
          (fault.0 ∙ ap refusals.DuplicateLocale (read_number T texts i read low are));
    }
