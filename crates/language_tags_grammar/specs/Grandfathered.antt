-- The grandfathered tags: RFC 5646, section 2.1, `irregular` and `regular`.
use Rattle.std.specs.Prelude.{ℕ, Bool, ◌&&◌, ◌||◌, ◌==◌, List, [], ◌∷◌, Option, codes, length}
use Rattle.std.specs.Prelude.{slice_index}
use Rattle.std.specs.Int.{is_in_range}
use Rattle.std.specs.List.{find, list_any}
use Rattle.std.specs.Str.{byte, bytes_eq}
use Rattle.language_tags_grammar.specs.Pieces.{lowercase}

abbrev pub grandfathereds : List (List ℕ)
grandfathereds =
    codes "art-lojban" ∷ codes "cel-gaulish" ∷ codes "en-GB-oed" ∷ codes "i-ami" ∷
    codes "i-bnn" ∷ codes "i-default" ∷ codes "i-enochian" ∷ codes "i-hak" ∷ codes "i-klingon" ∷
    codes "i-lux" ∷ codes "i-mingo" ∷ codes "i-navajo" ∷ codes "i-pwn" ∷ codes "i-tao" ∷
    codes "i-tay" ∷ codes "i-tsu" ∷ codes "no-bok" ∷ codes "no-nyn" ∷ codes "sgn-BE-FR" ∷
    codes "sgn-BE-NL" ∷ codes "sgn-CH-DE" ∷ codes "zh-guoyu" ∷ codes "zh-hakka" ∷
    codes "zh-min" ∷ codes "zh-min-nan" ∷ codes "zh-xiang" ∷ []

-- the grandfathered tag that a text is without its case
abbrev pub grandfathered : List ℕ → Option (List ℕ)
grandfathered text = find (λ tag. bytes_eq (lowercase tag) (lowercase text)) grandfathereds

-- a text is a grandfathered tag in its own spelling
abbrev pub is_grandfathered : List ℕ → Bool
is_grandfathered text = list_any (λ tag. bytes_eq tag text) grandfathereds

-- the length and the first letter of a grandfathered tag in lower case
abbrev pub may_be_grandfathered : List ℕ → Bool
may_be_grandfathered text =
    let first = slice_index text 0 in
    is_in_range 5 11 (length text)
    && (first == byte "a" || first == byte "c" || first == byte "e" || first == byte "i"
    || first == byte "n" || first == byte "s"
    || first == byte "z")
