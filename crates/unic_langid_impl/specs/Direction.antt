-- The direction in which an identifier's language is written. A list has the numbers of subtags,
-- ascending.
use Rattle.std.specs.Prelude.{ℕ, Bool, false, ◌&&◌, not, if◌then◌else◌, nat_eq, List, [], ◌∷◌}
use Rattle.std.specs.Prelude.{Option, Some, None, option_and_then, unwrap_or}
use Rattle.std.specs.Int.{w32, w64}
use Rattle.std.specs.List.{list_any}
use Rattle.std.specs.Option.{option_map_or}
use Rattle.unic_langid_impl.specs.Likely.{Tables, Triple, maximal}
use Rattle.unic_langid_impl.specs.Subtags.{raw}
use Rattle.unic_langid_impl.specs.declared.direction.CharacterDirection.{CharacterDirection}
use Rattle.unic_langid_impl.specs.declared.direction.CharacterDirection.TheVariants.{LTR, RTL, TTB}

-- Deva, Orya, Beng, Tfng, Mtei, Vaii, Olck, Cyrl, Latn, Hmnp, Hans, Hant, Dsrt, Telu, Guru, Shaw
unfoldable pub left_to_right_scripts : List ℕ
left_to_right_scripts =
    1635149124 ∷ 1635349071 ∷ 1735288130 ∷ 1735288404 ∷ 1768256589 ∷ 1768513878 ∷ 1801677903
    ∷ 1819441475 ∷
    1853120844 ∷ 1886285128 ∷ 1936613704 ∷ 1953390920 ∷ 1953657668 ∷ 1970038100 ∷ 1970435399
    ∷ 2002872403 ∷ []

-- Arab, Rohg, Adlm, Nkoo
unfoldable pub right_to_left_scripts : List ℕ
right_to_left_scripts =
    1650553409 ∷ 1734897490 ∷ 1835820097 ∷ 1869572942 ∷ []

-- Mong
unfoldable pub top_to_bottom_scripts : List ℕ
top_to_bottom_scripts =
    1735290701 ∷ []

-- fa, ha, pa, sd, he, ff, ug, yi, bm, ar, ur, ks, ms, ps, dv, az, uz, ckb, apc, lrc, rhg, sdh, bal,
-- bgn, mzn, nqo, skr, syr, trw
unfoldable pub right_to_left_languages : List ℕ
right_to_left_languages =
    24934 ∷ 24936 ∷ 24944 ∷ 25715 ∷ 25960 ∷ 26214 ∷ 26485 ∷ 27001 ∷ 28002 ∷ 29281 ∷ 29301
    ∷ 29547 ∷ 29549 ∷
    29552 ∷ 30308 ∷ 31329 ∷ 31349 ∷ 6450019 ∷ 6516833 ∷ 6517356 ∷ 6776946 ∷ 6841459
    ∷ 7102818 ∷ 7235426 ∷
    7240301 ∷ 7303534 ∷ 7498611 ∷ 7502195 ∷ 7828084 ∷ []

abbrev pub is_in : List ℕ → ℕ → Bool
is_in list number = list_any (nat_eq number) list

-- the direction of a script that one of the lists has
abbrev pub script_direction : List ℕ → Option CharacterDirection
script_direction script =
    if is_in left_to_right_scripts (raw w32 script) then Some LTR
    else (if is_in right_to_left_scripts (raw w32 script) then Some RTL
    else (if is_in top_to_bottom_scripts (raw w32 script) then Some TTB else None))

-- the language and the region most likely stand with a script that is written from left to right
abbrev pub is_likely_left_to_right : Tables → Option (List ℕ) → Option (List ℕ) → Bool
is_likely_left_to_right F language region =
    option_map_or (λ script. is_in left_to_right_scripts (raw w32 script))
    (option_and_then (λ t. t.1) (maximal F (language, None, region))) false

abbrev pub is_right_to_left_language : Option (List ℕ) → Bool
is_right_to_left_language language =
    option_map_or (λ text. is_in right_to_left_languages (raw w64 text)) language false

-- a language of the list is RTL, unless its likely script is LTR; any other is LTR
abbrev pub language_direction : Tables → Option (List ℕ) → Option (List ℕ) → CharacterDirection
language_direction F language region =
    if is_right_to_left_language language
    && not (is_likely_left_to_right F language region) then RTL else LTR

-- the script decides, where a list has it, else the language
abbrev pub direction : Tables → Triple → CharacterDirection
direction F t = unwrap_or (option_and_then script_direction t.1) (language_direction F t.0 t.2)
