-- A text asks for one locale, or has one cause, and never both.
use Rattle.std.proofs.Common.{◌≡◌, ℕ, List, [], ◌∷◌, Option, Some, None, refl, sym, ap, ◌∙◌, subst}
use Rattle.std.specs.Prelude.{◌≢◌}
use Rattle.icu_locale_core.specs.Locale.{Locale}
use Rattle.language_tags.specs.Canon.{IsCanonOf}
use Rattle.language_tags_grammar.specs.Tag.{Tag, front_of}
use Rattle.language_tags_grammar.specs.TagFault.{IsFaultOf}
use Rattle.language_tags_grammar.specs.TagOf.{IsTagOf}
use Rattle.language_tags_grammar.specs.declared.error.ParseError.{ParseError}
use Rattle.language_tags_registry.specs.Registry.{Tables}
use Rattle.unic_langid_impl.specs.Faults as identifiers
use Rattle.unic_langid_impl.specs.Identifier.{Identifier}
use Rattle.unic_langid_impl.specs.Laws.{IdDetermines}
use Rattle.unic_langid_impl.specs.Pieces.{pieces_of}
use Rattle.unic_langid_impl.specs.Reading.{BeginsWithLanguage, BeginsWithNoLanguage, id_of}
use Rattle.unic_langid_impl.specs.declared.errors.LanguageIdentifierError.{LanguageIdentifierError}
use Rattle.unic_langid_impl.specs.declared.errors.LanguageIdentifierError.TheVariants as outer
use Rattle.unic_langid_impl.specs.declared.parser.error.ParserError.TheVariants as parser
use Rattle.wanted_locale.specs.Laws.{NeverBoth, OneCause, OneWanted}
use Rattle.wanted_locale.specs.Wanted.{HasCanon, HasFront, HasIdentifier, IsShort, IsTagCause}
use Rattle.wanted_locale.specs.Wanted.{IsWantedOf, locale_of, long_language, no_canon}
use Rattle.wanted_locale.specs.Wanted.{no_identifier, no_tag}
use Rattle.wanted_locale.specs.declared.error.TagCause.{TagCause}
use Rattle.wanted_locale.specs.declared.error.TagCause.TheVariants.{Parse}
use Rattle.wanted_locale.specs.declared.error.TagCause.TheVariants.{Identifier as NoIdentifier}
use Rattle.wanted_locale.proofs.OneFront.{OneTag, canon_front, front_text}

-- ---- of an identifier

-- pieces begin with a language or with none
begins_not_both : (ps : List (List ℕ)) → BeginsWithLanguage ps → BeginsWithNoLanguage ps → ⊥
begins_not_both [] h k = h
begins_not_both (p ∷ ps) h k = k h

-- bytes that are an identifier have no fault
identifier_no_fault : (front : List ℕ) (i : Identifier) (fault : LanguageIdentifierError)
    → id_of front i
    → fault ≢ outer.NoMemory → identifiers.IsFaultOf front fault → ⊥
identifier_no_fault front i outer.Unknown is some h = h
identifier_no_fault front i outer.NoMemory is some h = some refl
identifier_no_fault front i (outer.ParserError parser.InvalidLanguage) is some h =
    subst BeginsWithNoLanguage is.pieces_are h.1 is.is_language
identifier_no_fault front i (outer.ParserError parser.InvalidSubtag) is some h = h.1.1 i is
identifier_no_fault front i (outer.ParserError parser.NoMemory) is some h = h.0 refl

-- and others one at most
identifier_fault : (front : List ℕ) (f g : LanguageIdentifierError) → f ≢ outer.NoMemory
    → g ≢ outer.NoMemory
    → identifiers.IsFaultOf front f → identifiers.IsFaultOf front g → f ≡ g
identifier_fault front outer.Unknown g m n h k = absurd h
identifier_fault front outer.NoMemory g m n h k = absurd (m refl)
identifier_fault front f outer.Unknown m n h k = absurd k
identifier_fault front f outer.NoMemory m n h k = absurd (n refl)
identifier_fault front (outer.ParserError parser.NoMemory) (outer.ParserError e) m n h k =
    absurd (h.0 refl)
identifier_fault front (outer.ParserError e) (outer.ParserError parser.NoMemory) m n h k =
    absurd (k.0 refl)
identifier_fault front (outer.ParserError parser.InvalidLanguage)
    (outer.ParserError parser.InvalidLanguage) m n h k = refl
identifier_fault front (outer.ParserError parser.InvalidSubtag)
    (outer.ParserError parser.InvalidSubtag) m n h k = refl
identifier_fault front (outer.ParserError parser.InvalidLanguage)
    (outer.ParserError parser.InvalidSubtag) m n h k =
    absurd (begins_not_both (pieces_of front) k.1.0 h.1)
identifier_fault front (outer.ParserError parser.InvalidSubtag)
    (outer.ParserError parser.InvalidLanguage) m n h k =
    absurd (begins_not_both (pieces_of front) h.1.0 k.1)

-- ---- of a text, by the laws of tags and identifiers

-- a text with a tag has no fault
abbrev pub TagOrFault : Type 0
TagOrFault = (text : List ℕ) (g : Tag) (fault : ParseError) → IsTagOf text g
    → ¬ (IsFaultOf text fault)

-- a text has one fault at most
abbrev pub OneTextFault : Type 0
OneTextFault = (text : List ℕ) (f g : ParseError) → IsFaultOf text f → IsFaultOf text g → f ≡ g

module _ (one : OneTag) (one_fault : OneTextFault) (never : TagOrFault) (ids : IdDetermines)
    (R : Tables) (text : List ℕ) where
  -- the canonical forms of a text have one front, or there is none of them
  same_canon : (r s : Option Tag) → HasCanon R text r → HasCanon R text s
      → front_text r ≡ front_text s
  same_canon r s a b =
      canon_front one R a.tag r s a.canon
      (subst (λ g. IsCanonOf R g s) (one text b.tag a.tag b.parsed a.parsed) b.canon)

  -- a text has one front at most
  same_front : (f g : List ℕ) → HasFront R text f → HasFront R text g → f ≡ g
  same_front f g a b =
      let both = same_canon (Some a.canonical) (Some b.canonical) a.has b.has in
      let same : front_of a.canonical ≡ front_of b.canonical = cc in
      a.front_is ∙ same ∙ sym b.front_is

  -- and asks for one identifier at most
  same_identifier : (i j : Identifier) → HasIdentifier R text i → HasIdentifier R text j → i ≡ j
  same_identifier i j a b =
      ids a.front i j a.is (subst (λ f. id_of f j) (same_front b.front a.front b.has a.has) b.is)

  -- a text that has a canonical form, or a tag without one, has no fault
  tag_no_fault : (fault : ParseError) (r : Option Tag) → HasCanon R text r
      → IsFaultOf text fault → ⊥
  tag_no_fault fault r a h = never text a.tag fault a.parsed h

  -- a text that has a front has a canonical form
  canon_not_none : (f : List ℕ) → HasFront R text f → HasCanon R text None → ⊥
  canon_not_none f a b = let both = same_canon (Some a.canonical) None a.has b in cc

  -- a text that asks for an identifier has no front with a fault
  identifier_not_fault : (i : Identifier) (f : List ℕ) (fault : LanguageIdentifierError)
      → HasIdentifier R text i
      → HasFront R text f → fault ≢ outer.NoMemory → identifiers.IsFaultOf f fault → ⊥
  identifier_not_fault i f fault a b some h =
      identifier_no_fault f i fault
      (subst (λ f. id_of f i) (same_front a.front f a.has b) a.is) some h

  -- a text asks for one locale at most
  wanted_one : (l m : Locale) → IsWantedOf R text l → IsWantedOf R text m → l ≡ m
  wanted_one l m a b =
      a.locale ∙ ap locale_of (same_identifier a.identifier b.identifier a.has b.has) ∙ sym b.locale

  -- and has no cause then
  wanted_no_cause : (l : Locale) (c : TagCause) → IsWantedOf R text l → IsTagCause R text c → ⊥
  wanted_no_cause l c a (no_tag {fault = fault} some h is) = tag_no_fault fault _ a.has.has.has h
  wanted_no_cause l c a (no_canon h is) = canon_not_none a.has.front a.has.has h
  wanted_no_cause l c a (no_identifier {front = front} {fault = fault} h some k is) =
      identifier_not_fault a.identifier front fault a.has h some k
  wanted_no_cause l c a (long_language {i = i} h long is) =
      long (subst IsShort (same_identifier a.identifier i a.has h) a.short)

  -- a text has one cause at most
  cause_one : (c d : TagCause) → IsTagCause R text c → IsTagCause R text d → c ≡ d
  cause_one c d (no_tag {fault = f} some h is) (no_tag {fault = g} other k so) =
      is ∙ ap Parse (one_fault text f g h k) ∙ sym so
  cause_one c d (no_tag {fault = f} some h is) (no_canon k so) = absurd (tag_no_fault f None k h)
  cause_one c d (no_tag {fault = f} some h is) (no_identifier k other w so) =
      absurd (tag_no_fault f _ k.has h)
  cause_one c d (no_tag {fault = f} some h is) (long_language k long so) =
      absurd (tag_no_fault f _ k.has.has h)
  cause_one c d (no_canon h is) (no_tag {fault = g} other k so) = absurd (tag_no_fault g None h k)
  cause_one c d (no_canon h is) (no_canon k so) = is ∙ sym so
  cause_one c d (no_canon h is) (no_identifier k other w so) = absurd (canon_not_none _ k h)
  cause_one c d (no_canon h is) (long_language k long so) = absurd (canon_not_none _ k.has h)
  cause_one c d (no_identifier h some w is) (no_tag {fault = g} other k so) =
      absurd (tag_no_fault g _ h.has k)
  cause_one c d (no_identifier h some w is) (no_canon k so) = absurd (canon_not_none _ h k)
  cause_one c d (no_identifier {front = front} {fault = f} h some w is)
      (no_identifier {front = left} {fault = g} k other v so) =
      is
      ∙ ap NoIdentifier (identifier_fault front f g some other w
      (subst (λ t. identifiers.IsFaultOf t g) (same_front left front k h) v))
      ∙ sym so
  cause_one c d (no_identifier {front = front} {fault = f} h some w is)
      (long_language {i = i} k long so) =
      absurd (identifier_not_fault i front f k h some w)
  cause_one c d (long_language h long is) (no_tag {fault = g} other k so) =
      absurd (tag_no_fault g _ h.has.has k)
  cause_one c d (long_language h long is) (no_canon k so) = absurd (canon_not_none _ h.has k)
  cause_one c d (long_language {i = i} h long is)
      (no_identifier {front = front} {fault = g} k other v so) =
      absurd (identifier_not_fault i front g h k other v)
  cause_one c d (long_language h long is) (long_language k other so) = is ∙ sym so

module _ (one : OneTag) (one_fault : OneTextFault) (never : TagOrFault) (ids : IdDetermines) where
  -- the laws, as they are stated
  pub OneWanted-holds : OneWanted
  OneWanted-holds R text = wanted_one one one_fault never ids R text

  pub OneCause-holds : OneCause
  OneCause-holds R text = cause_one one one_fault never ids R text

  pub NeverBoth-holds : NeverBoth
  NeverBoth-holds R text = wanted_no_cause one one_fault never ids R text
