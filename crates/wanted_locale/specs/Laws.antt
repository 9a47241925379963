-- Laws of wanted locales, as statements: a text asks for one locale or has one cause, never both;
-- which variant is kept; and what texts ask for over an empty registry.
use Rattle.std.specs.Prelude.{◌≡◌, ◌≢◌, ◌↔◌, ◌≤◌, ℕ, List, [], length, Some, None}
use Rattle.std.specs.List.{Contains}
use Rattle.std.specs.declared.cmp.Ordering.TheVariants.{Less}
use Rattle.icu_locale_core.specs.Locale.{IsLocale, Locale, print}
use Rattle.language_tags.specs.declared.error.ValidationError.TheVariants.{MultipleExtendedLanguageSubtags}
use Rattle.language_tags.specs.Laws.{AnswerAlike}
use Rattle.language_tags_grammar.specs.Tag.{Parts, Plain}
use Rattle.language_tags_grammar.specs.TagOf.{IsTagOf}
use Rattle.language_tags_registry.specs.Registry.{Tables, tables_at}
use Rattle.unic_langid_impl.specs.Identifier.{Identifier, text_cmp}
use Rattle.unic_langid_impl.specs.Reading.{id_of}
use Rattle.wanted_locale.specs.Wanted.{IsWantedOf, IsTagCause, least}
use Rattle.wanted_locale.specs.declared.error.TagCause.{TagCause}
use Rattle.wanted_locale.specs.declared.error.TagCause.TheVariants.{Canonical}

-- a text asks for one locale at most
abbrev pub OneWanted : Type 0
OneWanted = (R : Tables) (text : List ℕ) (l m : Locale) → IsWantedOf R text l
    → IsWantedOf R text m → l ≡ m

-- it has one cause at most
abbrev pub OneCause : Type 0
OneCause = (R : Tables) (text : List ℕ) (c d : TagCause) → IsTagCause R text c
    → IsTagCause R text d → c ≡ d

-- and none where it asks for a locale
abbrev pub NeverBoth : Type 0
NeverBoth = (R : Tables) (text : List ℕ) (l : Locale) (c : TagCause) → IsWantedOf R text l
    → ¬ (IsTagCause R text c)

-- this text stands among some, and none of them is less
pub record IsLeastOf (texts : List (List ℕ)) (least_text : List ℕ) : Type 0 where
  pub stands : Contains texts least_text
  pub none_less : (text : List ℕ) → Contains texts text → text_cmp text least_text ≢ Less

-- of the variants of an identifier that is read, the one that is kept is the least
abbrev pub LeastIsKept : Type 0
LeastIsKept =
    (text : List ℕ) (i : Identifier) (kept : List ℕ) → id_of text i → least i.variants ≡ Some kept
    → IsLeastOf i.variants kept

-- a registry without entries
abbrev pub empty_registry : Tables
empty_registry = tables_at []

-- over it the printed text of a data locale without subdivision asks for that locale
abbrev pub PrintedIsWanted : Type 0
PrintedIsWanted = (l : Locale) → IsLocale l → l.subdivision ≡ None
    → IsWantedOf empty_registry (print l) l

-- and a tag has no canonical form exactly where it isn't whole and has two extlangs or more
abbrev pub CanonicalByExtlangs : Type 0
CanonicalByExtlangs =
    (text : List ℕ) →
    (IsTagCause empty_registry text (Canonical MultipleExtendedLanguageSubtags)
    ↔ ((p : Parts) × IsTagOf text (Plain p) × (2 ≤ length p.extlangs)))

-- over registries that answer each key alike a text asks for the same locale
abbrev pub WantedGoesByAnswers : Type 0
WantedGoesByAnswers =
    (R S : Tables) (text : List ℕ) (l : Locale) → AnswerAlike R S → IsWantedOf R text l
    → IsWantedOf S text l

-- or has the same cause
abbrev pub CauseGoesByAnswers : Type 0
CauseGoesByAnswers =
    (R S : Tables) (text : List ℕ) (cause : TagCause) → AnswerAlike R S → IsTagCause R text cause
    → IsTagCause S text cause
