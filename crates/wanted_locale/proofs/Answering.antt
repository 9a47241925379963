-- What a text asks for goes by what a registry answers.
use Rattle.std.proofs.Common.{ℕ, List, Some, None, Option}
use Rattle.icu_locale_core.specs.Locale.{Locale}
use Rattle.language_tags.specs.Laws.{AnswerAlike, GoesByAnswers}
use Rattle.language_tags_grammar.specs.Tag.{Tag}
use Rattle.language_tags_registry.specs.Registry.{Tables}
use Rattle.unic_langid_impl.specs.Identifier.{Identifier}
use Rattle.wanted_locale.specs.Wanted.{HasCanon, HasFront, HasIdentifier, IsTagCause, IsWantedOf}
use Rattle.wanted_locale.specs.Wanted.{long_language, no_canon, no_identifier, no_tag}
use Rattle.wanted_locale.specs.declared.error.TagCause.{TagCause}

module _ (law : GoesByAnswers) (R S : Tables) (text : List ℕ) (alike : AnswerAlike R S) where
  -- a canonical form, or that there is none
  canon_along : (canonical : Option Tag) → HasCanon R text canonical → HasCanon S text canonical
  canon_along canonical h =
      record { tag = h.tag; parsed = h.parsed; canon = law R S h.tag canonical alike h.canon }

  -- what is left of it
  front_along : (front : List ℕ) → HasFront R text front → HasFront S text front
  front_along front h =
      record {
        canonical = h.canonical;
        has = canon_along (Some h.canonical) h.has;
        front_is = h.front_is;
      }

  -- the identifier that this is
  identifier_along : (i : Identifier) → HasIdentifier R text i → HasIdentifier S text i
  identifier_along i h = record { front = h.front; has = front_along h.front h.has; is = h.is }

  -- the locale
  pub wanted_along : (l : Locale) → IsWantedOf R text l → IsWantedOf S text l
  wanted_along l h =
      record {
        identifier = h.identifier;
        has = identifier_along h.identifier h.has;
        short = h.short;
        locale = h.locale;
      }

  -- or why there is none
  pub cause_along : (cause : TagCause) → IsTagCause R text cause → IsTagCause S text cause
  cause_along cause (no_tag some fault is) = no_tag some fault is
  cause_along cause (no_canon h is) = no_canon (canon_along None h) is
  cause_along cause (no_identifier {front = front} h some fault is) =
      no_identifier (front_along front h) some fault is
  cause_along cause (long_language {i = i} h long is) = long_language (identifier_along i h) long is
