-- Reading one bundle: its tag, its catalog, its list.
use Rattle.std.proofs.Common.{◌≡◌, ◌≢◌, ℕ, List, Option, Some, None, refl, sym, ap, ◌∙◌, subst, ◌⊎◌}
use Rattle.std.proofs.Common.{inl, inr}
use Rattle.std.proofs.lemmas.Str.{encodes-chars}
use Rattle.std.specs.Prelude.{IsUtf8, encode_utf8_all}
use Rattle.std.specs.Str.{chars}
use Rattle.gettext.specs.Faults.{mo_fault}
use Rattle.gettext.specs.Messages.{Messages, StandsFor, form}
use Rattle.gettext.specs.Mo.{entries}
use Rattle.gettext.specs.Options.{plain_options}
use Rattle.gettext.specs.declared.error.Error.{Error}
use Rattle.gettext.specs.declared.error.Error.TheVariants as mo
use Rattle.icu_list.specs.ListFault.{IsFault, list_fault}
use Rattle.icu_list.specs.declared.error.DataError.{DataError}
use Rattle.icu_list.specs.declared.error.DataError.TheVariants as lists
use Rattle.icu_locale_core.specs.Locale.{Locale}
use Rattle.localise.specs.Bundles.{IsFaultBehind, in_tag, in_catalog, in_list}
use Rattle.localise.specs.Kept.{IsRead}
use Rattle.localise.specs.Lists.{ArePatterns, list_texts}
use Rattle.localise.specs.Meaning.{Meaning}
use Rattle.localise.specs.declared.error.BundleCause.TheVariants.{Tag, Mo, List as ListCause}
use Rattle.localise.specs.declared.error.RenderError.{RenderError}
use Rattle.localise.specs.declared.error.RenderError.TheVariants as refusals
use Rattle.localise_texts.specs.declared.bundle.BundleText.{BundleText}
use Rattle.wanted_locale.specs.Normalised.{IsLocaleOf}
use Rattle.wanted_locale.specs.Wanted.{IsTagCause}
use Rattle.wanted_locale.specs.declared.error.TagCause.{TagCause}
use Rattle.wanted_locale.specs.declared.error.TagCause.TheVariants as tag
use Rattle.wanted_locale.specs.declared.tables.Tables.{Tables}

-- the bytes of a text that is owned
pub bytes_of_text : (bytes text : List ℕ) → IsUtf8 bytes → chars bytes ≡ text
    → encode_utf8_all text ≡ bytes
bytes_of_text bytes text utf8 is = ap encode_utf8_all (sym is) ∙ encodes-chars bytes utf8

-- an error of a list that isn't want of memory is its fault
pub fault_some : (o : Option DataError) (e : DataError) → IsFault o e
    → e ≢ lists.NoMemory → o ≡ Some e
fault_some o lists.InvalidPattern h ne = h
fault_some o lists.CannotStore h ne = h
fault_some o (lists.Condition error) h ne = h
fault_some o lists.MissingLocale h ne = h
fault_some o lists.NotJsonForm h ne = h
fault_some o lists.NoMemory h ne = absurd (ne refl)

-- the tag asks for no locale
pub fault_in_tag : (T : Tables) (number : ℕ) (text : BundleText) (bytes : List ℕ) (cause : TagCause)
    (e : RenderError)
    → encode_utf8_all text.tag ≡ bytes → (cause ≢ tag.NoMemory → IsTagCause T.registry bytes cause)
    → (cause ≡ tag.NoMemory → e ≡ refusals.NoMemory)
    → (cause ≢ tag.NoMemory → e ≡ refusals.Bundle number (Tag cause))
    → e ≢ refusals.NoMemory → (earlier : List Meaning) → IsFaultBehind T earlier number text e
fault_in_tag T number text bytes cause e are is memory own not_memory earlier =
    let ne : cause ≢ tag.NoMemory = λ same. not_memory (memory same) in
    in_tag (subst (λ t. IsTagCause T.registry t cause) (sym are) (is ne)) (own ne)

-- the file is none
pub fault_in_catalog : (T : Tables) (number : ℕ) (text : BundleText) (bytes file : List ℕ)
    (l : Locale) (error : Error) (e : RenderError)
    → encode_utf8_all text.tag ≡ bytes → file ≡ text.mo → IsLocaleOf T bytes l
    → (error ≡ mo.NoMemory) ⊎ mo_fault file plain_options (Some error)
    → (error ≡ mo.NoMemory → e ≡ refusals.NoMemory)
    → (error ≢ mo.NoMemory → e ≡ refusals.Bundle number (Mo error))
    → e ≢ refusals.NoMemory → (earlier : List Meaning) → IsFaultBehind T earlier number text e
fault_in_catalog T number text bytes file l error e are same locale
    (inl none) memory own not_memory earlier = absurd (not_memory (memory none))
fault_in_catalog T number text bytes file l error e are same locale
    (inr fault) memory own not_memory earlier =
    in_catalog (subst (λ t. IsLocaleOf T t l) (sym are) locale)
    (subst (λ f. mo_fault f plain_options (Some error)) same fault)
    (own (λ is. not_memory (memory is)))

-- a text of the list is no pattern
pub fault_in_list : (T : Tables) (number : ℕ) (text : BundleText) (bytes file : List ℕ) (l : Locale)
    (error : DataError) (e : RenderError)
    → encode_utf8_all text.tag ≡ bytes → file ≡ text.mo → IsLocaleOf T bytes l
    → mo_fault file plain_options None
    → IsFault (list_fault (list_texts text.list)) error
    → (error ≡ lists.NoMemory → e ≡ refusals.NoMemory)
    → (error ≢ lists.NoMemory → e ≡ refusals.Bundle number (ListCause error))
    → e ≢ refusals.NoMemory → (earlier : List Meaning) → IsFaultBehind T earlier number text e
fault_in_list T number text bytes file l error e are same locale sound fault memory own
    not_memory earlier =
    let ne : error ≢ lists.NoMemory = λ is. not_memory (memory is) in
    in_list (subst (λ t. IsLocaleOf T t l) (sym are) locale)
    (subst (λ f. mo_fault f plain_options None) same sound)
    (fault_some (list_fault (list_texts text.list)) error fault ne) (own ne)

-- a bundle is read
pub bundle_read : (T : Tables) (text : BundleText) (bytes file : List ℕ) (kept : Meaning)
    (c : Messages)
    → StandsFor kept.messages c
    → ((given : Option ℕ) (key : List ℕ) (n : ℕ)
    → form kept.messages given key n ≡ form c given key n)
    → encode_utf8_all text.tag ≡ bytes → file ≡ text.mo → IsLocaleOf T bytes kept.locale
    → entries file plain_options c → ArePatterns (list_texts text.list) kept.patterns
    → IsRead T text kept
bundle_read T text bytes file kept c stands alike are same locale means patterns = record {
  meaning = record { locale = kept.locale; messages = c; patterns = kept.patterns };
  means = record {
    locale = subst (λ t. IsLocaleOf T t kept.locale) (sym are) locale;
    messages = subst (λ f. entries f plain_options c) same means;
    patterns = patterns;
  };
  keeps = record {
    locale = refl;
    messages = stands;
    forms = λ key n. alike None key n;
    patterns = refl;
  };
}
