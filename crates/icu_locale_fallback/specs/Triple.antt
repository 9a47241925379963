-- The language, script and region of a locale, by which inheritance goes (UTS 35, parent locales).
use Rattle.std.specs.Prelude.{ℕ, List, Option, refl}
use Rattle.std.specs.Coded.{Coded, code_by, coded×, coded_ℕ, coded_list, coded_option}
use Rattle.std.specs.declared.cmp.Ordering.{Ordering}
use Rattle.std.specs.Ordering.{ordering_then}
use Rattle.std.specs.Option.{option_cmp}
use Rattle.icu_locale_core.specs.Locale.{Locale}
use Rattle.icu_locale_fallback.specs.Keys.{text_cmp}

-- language, script and region
pub record Triple : Type 0 where
  pub language : List ℕ
  pub script : Option (List ℕ)
  pub region : Option (List ℕ)

-- the triple of a locale
abbrev pub triple_of : Locale → Triple
triple_of locale =
    record { language = locale.language; script = locale.script; region = locale.region }

-- triples in the order of their texts, the language first; an absent text stands first
abbrev pub triple_cmp : Triple → Triple → Ordering
triple_cmp a b =
    ordering_then (text_cmp a.language b.language)
    (ordering_then (option_cmp text_cmp a.script b.script)
    (option_cmp text_cmp a.region b.region))

-- a triple is stored as its three texts
abbrev pub triple_code : Coded Triple
triple_code =
    code_by (List ℕ × (Option (List ℕ) × Option (List ℕ)))
    (coded× (coded_list coded_ℕ)
    (coded× (coded_option (coded_list coded_ℕ)) (coded_option (coded_list coded_ℕ))))
    (λ t. (t.language, (t.script, t.region)))
    (λ p. record { language = p.0; script = p.1.0; region = p.1.1 })
    (λ _. refl)
