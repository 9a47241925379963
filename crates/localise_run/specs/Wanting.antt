-- The locale that a request's tag asks for, or why it asks for none.
use Rattle.std.specs.Prelude.{◌≡◌, encode_utf8_all}
use Rattle.icu_locale_core.specs.Locale.{Locale}
use Rattle.localise_status.specs.declared.status.RequestCause.{RequestCause}
use Rattle.localise_status.specs.declared.status.RequestCause.TheVariants.{Tag}
use Rattle.localise_texts.specs.declared.request.Request.{Request}
use Rattle.wanted_locale.specs.Wanted.{IsWantedOf, IsTagCause}
use Rattle.wanted_locale.specs.declared.error.TagCause.{TagCause}
use Rattle.wanted_locale.specs.declared.tables.Tables.{Tables}

-- a request's tag asks for a locale
abbrev pub Wants : Tables → Request → Locale → Type 0
Wants T q l = IsWantedOf T.registry (encode_utf8_all q.tag) l

-- it asks for none, for this cause
abbrev pub HasTagCause : Tables → Request → RequestCause → Type 0
HasTagCause T q cause = (c : TagCause) × IsTagCause T.registry (encode_utf8_all q.tag) c
    × (cause ≡ Tag c)
