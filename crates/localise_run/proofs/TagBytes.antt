-- A request's tag in bytes, and requests whose tags were read.
use Rattle.std.proofs.Common.{◌≡◌, ◌≢◌, ◌<◌, ℕ, List, Some, refl, sym, ap, ◌∙◌, subst, length}
use Rattle.std.proofs.Common.{get_or, slice_get}
use Rattle.std.specs.Prelude.{IsUtf8, encode_utf8_all, unwrap_or}
use Rattle.std.specs.Str.{chars}
use Rattle.std.proofs.lemmas.Option.{slice_get_within}
use Rattle.std.proofs.lemmas.Str.{encodes-chars}
use Rattle.icu_locale_core.specs.Locale.{Locale}
use Rattle.localise_run.proofs.Lines.{got}
use Rattle.localise_run.specs.Known.{IsKnown}
use Rattle.localise_run.specs.Wanting.{HasTagCause, Wants}
use Rattle.localise_run.specs.declared.tags.Known.{Known}
use Rattle.localise_status.specs.declared.status.RequestCause.TheVariants.{Tag}
use Rattle.localise_texts.specs.declared.request.Request.{Request}
use Rattle.wanted_locale.specs.Wanted.{IsTagCause, IsWantedOf}
use Rattle.wanted_locale.specs.declared.error.TagCause.{TagCause}
use Rattle.wanted_locale.specs.declared.error.TagCause.TheVariants as wanted
use Rattle.wanted_locale.specs.declared.tables.Tables.{Tables}

-- the bytes of a text that is borrowed
bytes_of : (bytes text : List ℕ) → IsUtf8 bytes → chars bytes ≡ text → encode_utf8_all text ≡ bytes
bytes_of bytes text utf8 is = ap encode_utf8_all (sym is) ∙ encodes-chars bytes utf8

module _ (T : Tables) (q : Request) (bytes : List ℕ) (utf8 : IsUtf8 bytes)
    (is : chars bytes ≡ q.tag) where
  -- the locale that they ask for is the request's
  pub wants : (l : Locale) → IsWantedOf T.registry bytes l → Wants T q l
  wants l h = subst (λ b. IsWantedOf T.registry b l) (sym (bytes_of bytes q.tag utf8 is)) h

  -- and the cause
  pub has_cause : (cause : TagCause) → (cause ≢ wanted.NoMemory → IsTagCause T.registry bytes cause)
      → cause ≢ wanted.NoMemory
      → HasTagCause T q (Tag cause)
  has_cause cause h some = (
    cause,
    subst (λ b. IsTagCause T.registry b cause) (sym (bytes_of bytes q.tag utf8 is)) (h some),
    refl,
  )

-- two requests at one place are one
same : (a b : Request) → Some a ≡ Some b → a ≡ b
same a b h = ap (λ o. unwrap_or o a) h

module _ (T : Tables) (requests : List Request) where
  -- the tag of a known request asks for its locale
  pub known_wants : (known : Known) (q : Request) (bytes tag : List ℕ) → IsKnown T requests known
      → q ≡ get_or requests known.request q → IsUtf8 bytes → chars bytes ≡ q.tag → bytes ≡ tag
      → IsWantedOf T.registry tag known.locale
  known_wants known q bytes tag here is utf8 said same_bytes =
      let there =
      got requests known.request q
      (slice_get_within requests known.request here.request here.request_is) is in
      subst (λ b. IsWantedOf T.registry b known.locale)
      (bytes_of bytes q.tag utf8 said ∙ same_bytes)
      (subst (λ r. Wants T r known.locale)
      (same here.request q (sym here.request_is ∙ there)) here.wants)

  module _ (number : ℕ) (q p : Request) (bytes : List ℕ) (within : number < length requests)
      (is : q ≡ get_or requests number q) (utf8 : IsUtf8 bytes) (said : chars bytes ≡ q.tag)
      (there : slice_get requests number ≡ Some p) where
    p_is_q : q ≡ p
    p_is_q = same q p (sym (got requests number q within is) ∙ there)

    -- the request at a place wants what its tag's bytes ask for
    pub wants_there : (l : Locale) → IsWantedOf T.registry bytes l → Wants T p l
    wants_there l h = subst (λ r. Wants T r l) p_is_q (wants T q bytes utf8 said l h)

    -- and has the cause that they have
    pub has_cause_there : (cause : TagCause)
        → (cause ≢ wanted.NoMemory → IsTagCause T.registry bytes cause)
        → cause ≢ wanted.NoMemory → HasTagCause T p (Tag cause)
    has_cause_there cause h some =
        subst (λ r. HasTagCause T r (Tag cause)) p_is_q (has_cause T q bytes utf8 said cause h some)
