-- The data locale that a tag asks for: RFC 5646, sections 2.1 and 4.5, then UTS 35, Unicode
-- language and locale identifiers.
-- That of several variants the least is kept is this project's own.
use Rattle.std.specs.Prelude.{◌≡◌, ◌≢◌, ◌≤◌, ℕ, List, [], ◌∷◌, length, Option, Some, None}
use Rattle.icu_locale_core.specs.Locale.{Locale}
use Rattle.language_tags.specs.Canon.{IsCanonOf}
use Rattle.language_tags_grammar.specs.Tag.{Tag, front_of}
use Rattle.language_tags_grammar.specs.TagFault.{IsFaultOf}
use Rattle.language_tags_grammar.specs.TagOf.{IsTagOf}
use Rattle.language_tags_grammar.specs.declared.error.ParseError.TheVariants as parse
use Rattle.language_tags_registry.specs.Registry.{Tables}
use Rattle.language_tags.specs.declared.error.ValidationError.TheVariants as validity
use Rattle.unic_langid_impl.specs.Identifier.{Identifier}
use Rattle.unic_langid_impl.specs.Reading.{id_of}
use Rattle.unic_langid_impl.specs.Subtags.{language_text}
use Rattle.unic_langid_impl.specs.declared.errors.LanguageIdentifierError.TheVariants as identifier
use Rattle.unic_langid_impl.specs.declared.parser.error.ParserError.TheVariants as parser
use Rattle.unic_langid_impl.specs.Faults as identifiers
use Rattle.wanted_locale.specs.declared.error.TagCause.{TagCause}
use Rattle.wanted_locale.specs.declared.error.TagCause.TheVariants.{Parse, Canonical}
use Rattle.wanted_locale.specs.declared.error.TagCause.TheVariants.{Identifier as NoIdentifier}

-- the text is a tag, and this is its canonical form, or it has none
pub record HasCanon (R : Tables) (text : List ℕ) (canonical : Option Tag) : Type 0 where
  pub tag : Tag
  pub parsed : IsTagOf text tag
  pub canon : IsCanonOf R tag canonical

-- what is left of the canonical form without extensions and private use
pub record HasFront (R : Tables) (text front : List ℕ) : Type 0 where
  pub canonical : Tag
  pub has : HasCanon R text (Some canonical)
  pub front_is : front ≡ front_of canonical

-- and the identifier that it is
pub record HasIdentifier (R : Tables) (text : List ℕ) (i : Identifier) : Type 0 where
  pub front : List ℕ
  pub has : HasFront R text front
  pub is : id_of front i

-- the first of some texts; of the variants of an identifier, which ascend, the least
abbrev pub least : List (List ℕ) → Option (List ℕ)
least [] = None
least (variant ∷ variants) = Some variant

-- an identifier's subtags as those of a data locale
abbrev pub locale_of : Identifier → Locale
locale_of i =
    record {
      language = language_text i.language;
      script = i.script;
      region = i.region;
      variant = least i.variants;
      subdivision = None;
    }

-- a data locale has a language of two or three letters, or `und`
abbrev pub IsShort : Identifier → Type 0
IsShort i = length (language_text i.language) ≤ 3

-- the locale that a text asks for, as a tag
pub record IsWantedOf (R : Tables) (text : List ℕ) (l : Locale) : Type 0 where
  pub identifier : Identifier
  pub has : HasIdentifier R text identifier
  pub short : IsShort identifier
  pub locale : l ≡ locale_of identifier

-- the error of a language that no data locale has
abbrev pub InvalidLanguage : TagCause
InvalidLanguage = NoIdentifier (identifier.ParserError parser.InvalidLanguage)

-- Why a text asks for no locale: it is no tag; it has two extlangs or more; what is left of its
-- canonical form is no identifier; or the language has more than three letters.
pub data IsTagCause (R : Tables) (text : List ℕ) (cause : TagCause) : Type 0 where
  no_tag : {fault : _} → fault ≢ parse.NoMemory → IsFaultOf text fault → cause ≡ Parse fault
      → IsTagCause R text cause
  no_canon : HasCanon R text None → cause ≡ Canonical validity.MultipleExtendedLanguageSubtags
      → IsTagCause R text cause
  no_identifier : {front : List ℕ} {fault : _} → HasFront R text front → fault ≢ identifier.NoMemory
      → identifiers.IsFaultOf front fault → cause ≡ NoIdentifier fault → IsTagCause R text cause
  long_language : {i : Identifier} → HasIdentifier R text i → ¬ IsShort i → cause ≡ InvalidLanguage
      → IsTagCause R text cause
