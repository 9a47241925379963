-- The tables of a fallbacker: likely subtags and parent locales (UTS 35).
use Rattle.std.specs.Prelude.{ℕ, List, Option, refl}
use Rattle.std.specs.Coded.{Coded, code_by, coded×, coded_ℕ, coded_list}
use Rattle.std.specs.Option.{option_map, option_or, option_and_then}
use Rattle.std.specs.FinMap as map
use Rattle.icu_locale_fallback.specs.Keys.{text_cmp, pair_cmp}
use Rattle.icu_locale_fallback.specs.Triple.{Triple, triple_cmp, triple_code}

-- the script and region that a language most likely has
pub record Likely : Type 0 where
  pub script : List ℕ
  pub region : List ℕ

-- the likely subtags: of a language, of a language and a script, of a language and a region
pub record LikelySubtags : Type 0 where
  pub language : map.FinMap text_cmp Likely
  pub language_script : map.FinMap pair_cmp (List ℕ)
  pub language_region : map.FinMap pair_cmp (List ℕ)

-- the tables of a fallbacker
pub record Tables : Type 0 where
  pub likely : LikelySubtags
  pub parents : map.FinMap triple_cmp Triple

-- the tables with no row
abbrev pub no_likely_subtags : LikelySubtags
no_likely_subtags =
    record { language = map.empty; language_script = map.empty; language_region = map.empty }

-- all tables with no row
abbrev pub no_tables : Tables
no_tables = record { likely = no_likely_subtags; parents = map.empty }

-- how a pair of texts is stored
abbrev pub pair_code : Coded (List ℕ × List ℕ)
pair_code = coded× (coded_list coded_ℕ) (coded_list coded_ℕ)

-- the row of a language
abbrev pub likely_code : Coded Likely
likely_code =
    code_by (List ℕ × List ℕ) pair_code
    (λ l. (l.script, l.region)) (λ p. record { script = p.0; region = p.1 }) (λ _. refl)

-- a table by pairs
abbrev pub by_pairs_code : Coded (map.FinMap pair_cmp (List ℕ))
by_pairs_code = map.code pair_code (coded_list coded_ℕ)

-- the three tables of likely subtags
abbrev pub likely_subtags_code : Coded LikelySubtags
likely_subtags_code =
    code_by
    (map.FinMap text_cmp Likely × (map.FinMap pair_cmp (List ℕ) × map.FinMap pair_cmp (List ℕ)))
    (coded× (map.code (coded_list coded_ℕ) likely_code) (coded× by_pairs_code by_pairs_code))
    (λ l. (l.language, (l.language_script, l.language_region)))
    (λ p. record { language = p.0; language_script = p.1.0; language_region = p.1.1 })
    (λ _. refl)

-- the tables of a fallbacker
abbrev pub tables_code : Coded Tables
tables_code =
    code_by (LikelySubtags × map.FinMap triple_cmp Triple)
    (coded× likely_subtags_code (map.code triple_code triple_code))
    (λ t. (t.likely, t.parents)) (λ p. record { likely = p.0; parents = p.1 }) (λ _. refl)

-- the row of a language
abbrev pub row_of : LikelySubtags → List ℕ → Option Likely
row_of likely language = map.get likely.language language

-- the likely script of a language
abbrev pub likely_script : LikelySubtags → List ℕ → Option (List ℕ)
likely_script likely language = option_map (λ row. row.script) (row_of likely language)

-- the likely region of a language and a script: that of their row, else that of the language's
abbrev pub likely_region : LikelySubtags → List ℕ → Option (List ℕ) → Option (List ℕ)
likely_region likely language script =
    option_or
    (option_and_then (λ s. map.get likely.language_script (language, s)) script)
    (option_map (λ row. row.region) (row_of likely language))

-- the default script of a language and a region: that of their row, else that of the language's
abbrev pub default_script : LikelySubtags → List ℕ → Option (List ℕ) → Option (List ℕ)
default_script likely language region =
    option_or
    (option_and_then (λ r. map.get likely.language_region (language, r)) region)
    (likely_script likely language)
