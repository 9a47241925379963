-- Where the bundle of a locale stands among bundles.
use Rattle.std.proofs.Common.{◌≡◌, ◌≢◌, ℕ, suc, ◌+◌, ◌-◌, ◌<◌, ◌≤◌, Bool, true, false, cond, List}
use Rattle.std.proofs.Common.{[], ◌∷◌, ◌++◌, length, Option, Some, None, refl, sym, ap, ◌∙◌, subst}
use Rattle.std.proofs.Common.{arith}
use Rattle.std.proofs.lemmas.Bool.{false≢true}
use Rattle.std.proofs.lemmas.List.Elements.{All-cons, All-nil}
use Rattle.std.specs.BTreeMap.{BTreeMap, Updates, get}
use Rattle.std.specs.Cmp.{IsTotalOrder, on_total, then_total, tied_itself}
use Rattle.std.specs.Cmp.Lexicographic.{nat_list_cmp_total, options_total}
use Rattle.std.specs.FinMap.{IsAntisymmetric, nat_cmp-IsAntisymmetric, slice_cmp-IsAntisymmetric}
use Rattle.std.specs.List.{All, Any, slice_get}
use Rattle.std.specs.Option.{option_cmp, option_or}
use Rattle.std.specs.Ordering.{is_eq, ordering_then}
use Rattle.std.specs.Prelude.{if◌then◌else◌}
use Rattle.std.specs.declared.cmp.Ordering.{Ordering}
use Rattle.std.specs.declared.cmp.Ordering.TheVariants.{Less, Equal, Greater}
use Rattle.icu_locale_core.specs.Equality.{same_locale}
use Rattle.icu_locale_core.specs.EqualityLaws.{same_locale-Decides}
use Rattle.icu_locale_core.specs.Locale.{Locale}
use Rattle.icu_locale_fallback.specs.Keys.{text_cmp}
use Rattle.localise.specs.Chosen.{form_for, numbered, translation_from}
use Rattle.localise.specs.Meaning.{Meaning}
use Rattle.localise.specs.Places.{ArePlaces, locale_cmp, place_from}
use Rattle.localise_texts.specs.declared.request.Request.{Request}

-- ---- the order of locales

-- what ties in two steps ties in the first
first_ties : (r s : Ordering) → ordering_then r s ≡ Equal → r ≡ Equal
first_ties Less s e = e
first_ties Equal s e = refl
first_ties Greater s e = e

-- and in the second
second_ties : (r s : Ordering) → ordering_then r s ≡ Equal → s ≡ Equal
second_ties Less s e = cc
second_ties Equal s e = e
second_ties Greater s e = cc

-- texts that tie are equal
texts_tie : IsAntisymmetric text_cmp
texts_tie = slice_cmp-IsAntisymmetric nat_cmp-IsAntisymmetric

-- and subtags, or none
subtags_tie : (p q : Option (List ℕ)) → option_cmp text_cmp p q ≡ Equal → p ≡ q
subtags_tie None None e = refl
subtags_tie None (Some y) e = cc
subtags_tie (Some x) None e = cc
subtags_tie (Some x) (Some y) e = ap Some (texts_tie x y e)

-- the same subtags make the same locale
same_subtags : (a b : Locale) → a.language ≡ b.language → a.script ≡ b.script → a.region ≡ b.region
    → a.variant ≡ b.variant → a.subdivision ≡ b.subdivision → a ≡ b
same_subtags a b l s r v d i =
    record { language = l i; script = s i; region = r i; variant = v i; subdivision = d i }

-- locales that tie are equal
locales_tie : (a b : Locale) → locale_cmp a b ≡ Equal → a ≡ b
locales_tie a b e =
    let script = second_ties (text_cmp a.language b.language) _ e in
    let region = second_ties (option_cmp text_cmp a.script b.script) _ script in
    let variant = second_ties (option_cmp text_cmp a.region b.region) _ region in
    same_subtags a b
    (texts_tie a.language b.language (first_ties _ _ e))
    (subtags_tie a.script b.script (first_ties _ _ script))
    (subtags_tie a.region b.region (first_ties _ _ region))
    (subtags_tie a.variant b.variant (first_ties _ _ variant))
    (subtags_tie a.subdivision b.subdivision
    (second_ties (option_cmp text_cmp a.variant b.variant) _ variant))

-- the order of locales is total
locale_cmp_total : IsTotalOrder locale_cmp
locale_cmp_total =
    then_total (on_total (λ (l : Locale). l.language) nat_list_cmp_total)
    (then_total (on_total (λ (l : Locale). l.script) (options_total nat_list_cmp_total))
    (then_total (on_total (λ (l : Locale). l.region) (options_total nat_list_cmp_total))
    (then_total (on_total (λ (l : Locale). l.variant) (options_total nat_list_cmp_total))
    (on_total (λ (l : Locale). l.subdivision) (options_total nat_list_cmp_total)))))

-- locales that differ do not tie
tied_by : (a b : Locale) (r : Ordering) → locale_cmp a b ≡ r → same_locale a b ≡ false
    → is_eq r ≡ false
tied_by a b Equal e other =
    absurd (false≢true (sym other ∙ (same_locale-Decides a b).1 (locales_tie a b e)))
tied_by a b Less e other = refl
tied_by a b Greater e other = refl

-- whether they tie, by whether they are the same
tied_if : (a b : Locale) (t : Bool) → same_locale a b ≡ t → is_eq (locale_cmp a b) ≡ t
tied_if a b true same =
    ap (λ x. is_eq (locale_cmp a x)) (sym ((same_locale-Decides a b).0 same))
    ∙ ap is_eq (tied_itself locale_cmp_total a)
tied_if a b false other = tied_by a b (locale_cmp a b) refl other

-- locales tie where they are the same
pub same_tie : (a b : Locale) → is_eq (locale_cmp a b) ≡ same_locale a b
same_tie a b = tied_if a b (same_locale a b) refl

-- ---- places

-- a place by whether the first bundle is the locale's
within_step : (t : Bool) (i n m : ℕ) (rest : Option ℕ)
    → (rest ≡ Some n → (i + 1 ≤ n) × (n < (i + 1) + m))
    → cond t (Some i) rest ≡ Some n → (i ≤ n) × (n < i + suc m)
within_step true i n m rest later e = let same : i ≡ n = cc in (omega arith, omega arith)
within_step false i n m rest later e = let h = later e in let low = h.0 in let high = h.1 in
    (omega arith, omega arith)

-- a place is that of a bundle
pub place-within : (i : ℕ) (bs : List Meaning) (l : Locale) (n : ℕ) → place_from i bs l ≡ Some n
    → (i ≤ n) × (n < i + length bs)
place-within i [] l n e = absurd (cc)
place-within i (b ∷ bs) l n e =
    within_step (same_locale b.locale l) i n (length bs) (place_from (i + 1) bs l)
    (place-within (i + 1) bs l n) e

-- the bundle at the place gives the translation, by whether it is the first one
found_step : (t : Bool) (i n : ℕ) (x b : Meaning) (xs : List Meaning) (q : Request) (l : Locale)
    → (place_from (i + 1) xs l ≡ Some n → slice_get xs (n - (i + 1)) ≡ Some b
    → translation_from (i + 1) xs q l ≡ numbered n b (form_for b q))
    → cond t (Some i) (place_from (i + 1) xs l) ≡ Some n → slice_get (x ∷ xs) (n - i) ≡ Some b
    → (if t then numbered i x (form_for x q) else translation_from (i + 1) xs q l)
    ≡ numbered n b (form_for b q)
found_step true i n x b xs q l later e there =
    let same : i ≡ n = cc in
    let none : n - i ≡ 0 = omega arith in
    let first : slice_get (x ∷ xs) 0 ≡ Some b =
    subst (λ k. slice_get (x ∷ xs) k ≡ Some b) none there in
    let it : x ≡ b = cc in
    ap (λ k. numbered k x (form_for x q)) same ∙ ap (λ y. numbered n y (form_for y q)) it
found_step false i n x b xs q l later e there =
    let low = (place-within (i + 1) xs l n e).0 in
    let more : n - i ≡ suc (n - (i + 1)) = omega arith in
    later e (subst (λ k. slice_get (x ∷ xs) k ≡ Some b) more there)

-- the bundle at the place of a locale gives the translation
pub translation-found : (i : ℕ) (bs : List Meaning) (q : Request) (l : Locale) (n : ℕ) (b : Meaning)
    → place_from i bs l ≡ Some n → slice_get bs (n - i) ≡ Some b
    → translation_from i bs q l ≡ numbered n b (form_for b q)
translation-found i [] q l n b e there = absurd (cc)
translation-found i (x ∷ xs) q l n b e there =
    found_step (same_locale x.locale l) i n x b xs q l
    (translation-found (i + 1) xs q l n b) e there

-- a locale without a place has no translation, by whether the first bundle is its own
missing_step : (t : Bool) (i : ℕ) (x : Meaning) (xs : List Meaning) (q : Request) (l : Locale)
    → (place_from (i + 1) xs l ≡ None → translation_from (i + 1) xs q l ≡ None)
    → cond t (Some i) (place_from (i + 1) xs l) ≡ None
    → (if t then numbered i x (form_for x q) else translation_from (i + 1) xs q l) ≡ None
missing_step true i x xs q l later e = absurd (cc)
missing_step false i x xs q l later e = later e

-- a locale without a place has no translation
pub translation-missing : (i : ℕ) (bs : List Meaning) (q : Request) (l : Locale)
    → place_from i bs l ≡ None
    → translation_from i bs q l ≡ None
translation-missing i [] q l e = refl
translation-missing i (x ∷ xs) q l e =
    missing_step (same_locale x.locale l) i x xs q l (translation-missing (i + 1) xs q l) e

-- the places among bundles and one more, by whether the first is the locale's
push_step : (t : Bool) (i : ℕ) (more rest : Option ℕ) (last : Option ℕ) → more ≡ option_or rest last
    → cond t (Some i) more ≡ option_or (cond t (Some i) rest) last
push_step true i more rest last e = refl
push_step false i more rest last e = e

-- one more bundle has the last place, unless the locale has one before
pub place-push : (i : ℕ) (bs : List Meaning) (b : Meaning) (l : Locale)
    → place_from i (bs ++ b ∷ []) l
    ≡ option_or (place_from i bs l) (cond (same_locale b.locale l) (Some (i + length bs)) None)
place-push i [] b l =
    let same : i ≡ i + 0 = omega arith in
    ap (λ n. cond (same_locale b.locale l) (Some n) None) same
place-push i (x ∷ xs) b l =
    let same : (i + 1) + length xs ≡ i + suc (length xs) = omega arith in
    push_step (same_locale x.locale l) i (place_from (i + 1) (xs ++ b ∷ []) l)
    (place_from (i + 1) xs l)
    (cond (same_locale b.locale l) (Some (i + suc (length xs))) None)
    (place-push (i + 1) xs b l
    ∙ ap
    (λ n. option_or (place_from (i + 1) xs l) (cond (same_locale b.locale l) (Some n) None))
    same)

-- ---- the bundles before one more

-- a locale without a place is no bundle's, by whether it is the first one's
apart_step : (i : ℕ) (x : Meaning) (xs : List Meaning) (l : Locale) (t : Bool)
    → same_locale x.locale l ≡ t
    → (place_from (i + 1) xs l ≡ None → All (λ (b : Meaning). b.locale ≢ l) xs)
    → cond t (Some i) (place_from (i + 1) xs l) ≡ None
    → All (λ (b : Meaning). b.locale ≢ l) (x ∷ xs)
apart_step i x xs l true is later e = absurd (cc)
apart_step i x xs l false is later e =
    All-cons (λ (b : Meaning). b.locale ≢ l) x xs
    (λ same. false≢true (sym is ∙ (same_locale-Decides x.locale l).1 same)) (later e)

-- a locale without a place is no bundle's
pub place-apart : (i : ℕ) (bs : List Meaning) (l : Locale) → place_from i bs l ≡ None
    → All (λ (b : Meaning). b.locale ≢ l) bs
place-apart i [] l e = All-nil (λ (b : Meaning). b.locale ≢ l)
place-apart i (x ∷ xs) l e =
    apart_step i x xs l (same_locale x.locale l) refl (place-apart (i + 1) xs l) e

-- what holds of a later bundle holds of some bundle
pub any_later : (P : Meaning → Type 0) (x : Meaning) (xs : List Meaning) → Any P xs → Any P (x ∷ xs)
any_later P x xs h =
    let low = h.2 in
    (suc h.0, h.1, omega arith, h.3, h.4)

-- a locale with a place is some bundle's, by whether it is the first one's
among_step : (i n : ℕ) (x : Meaning) (xs : List Meaning) (l : Locale) (t : Bool)
    → same_locale x.locale l ≡ t
    → (place_from (i + 1) xs l ≡ Some n → Any (λ (b : Meaning). b.locale ≡ l) xs)
    → cond t (Some i) (place_from (i + 1) xs l) ≡ Some n
    → Any (λ (b : Meaning). b.locale ≡ l) (x ∷ xs)
among_step i n x xs l true is later e =
    (0, x, omega arith, refl, (same_locale-Decides x.locale l).0 is)
among_step i n x xs l false is later e = any_later (λ (b : Meaning). b.locale ≡ l) x xs (later e)

-- a locale with a place is some bundle's
pub place-among : (i : ℕ) (bs : List Meaning) (l : Locale) (n : ℕ) → place_from i bs l ≡ Some n
    → Any (λ (b : Meaning). b.locale ≡ l) bs
place-among i [] l n e = absurd (cc)
place-among i (x ∷ xs) l n e =
    among_step i n x xs l (same_locale x.locale l) refl (place-among (i + 1) xs l n) e

-- ---- the map of places

-- a value, or none
or_none : {A : Type 0} (o : Option A) → option_or o None ≡ o
or_none None = refl
or_none (Some x) = refl

-- where one more bundle stands, by whether it is the locale's
placed_by : (n : ℕ) (t : Bool) (o : Option ℕ) → (t ≡ true → o ≡ None)
    → cond t (Some n) o ≡ option_or o (cond t (Some (0 + n)) None)
placed_by n true o fresh =
    let same : n ≡ 0 + n = omega arith in
    ap Some same ∙ ap (λ x. option_or x (Some (0 + n))) (sym (fresh refl))
placed_by n false o fresh = sym (or_none o)

-- the map with one more bundle, for whose locale there was none
pub places-push : (bs : List Meaning) (b : Meaning) (old new : BTreeMap Locale ℕ) → ArePlaces bs old
    → get locale_cmp old b.locale ≡ None → Updates locale_cmp old new b.locale (Some (length bs))
    → ArePlaces (bs ++ b ∷ []) new
places-push bs b old new are none put l =
    let n = length bs in
    let place = place_from 0 bs l in
    put.0 l
    ∙ ap (λ t. cond t (Some n) (get locale_cmp old l)) (same_tie b.locale l)
    ∙ ap (λ o. cond (same_locale b.locale l) (Some n) o) (are l)
    ∙ placed_by n (same_locale b.locale l) place
    (λ same. sym (are l)
    ∙ ap (get locale_cmp old) (sym ((same_locale-Decides b.locale l).0 same)) ∙ none)
    ∙ sym (place-push 0 bs b l)
