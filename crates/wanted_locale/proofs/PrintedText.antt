-- The printed text of a locale without subdivision, and the pieces of it that an identifier is read
-- from.
use Rattle.std.proofs.Common.{◌≡◌, ℕ, true, false, cond, List, [], ◌∷◌, ◌++◌, Option, Some, None}
use Rattle.std.proofs.Common.{refl, sym, ap, ◌∙◌, append_assoc, append-nil, arith}
use Rattle.std.specs.Prelude.{codes}
use Rattle.std.specs.Char.{is_ascii_alphanumeric}
use Rattle.std.specs.List.{onto_first}
use Rattle.std.specs.Str.{byte}
use Rattle.std.proofs.lemmas.Bool.Decides.{nat_tests}
use Rattle.icu_locale_core.specs.Locale.{Locale, marked, print}
use Rattle.language_tags_grammar.specs.Lemmas.KeptLaws.{AreClean, IsClean, dashed-append}
use Rattle.language_tags_grammar.specs.Lemmas.KeptLaws.{joined-dashed}
use Rattle.language_tags_grammar.specs.Pieces.{dashed, joined}
use Rattle.language_tags_grammar.specs.Tag.{at_most_one}
use Rattle.unic_langid_impl.specs.Pieces.{is_separator, pieces_of}

-- the subtags behind the language, but for the subdivision
abbrev pub subtags : Locale → List (List ℕ)
subtags l = at_most_one l.script ++ (at_most_one l.region ++ at_most_one l.variant)

-- a subtag behind a dash
dashed-one : (o : Option (List ℕ)) → marked (codes "-") o ≡ dashed (at_most_one o)
dashed-one None = refl
dashed-one (Some s) = ap (λ t. byte "-" ∷ t) (sym (append-nil s))

-- the printed text of a locale without subdivision is that of its subtags with a dash between each
-- two
pub print-is : (l : Locale) → l.subdivision ≡ None → print l ≡ joined (l.language ∷ subtags l)
print-is l none =
    let each : print l
    ≡ (((l.language ++ dashed (at_most_one l.script)) ++ dashed (at_most_one l.region))
    ++ dashed (at_most_one l.variant)) ++ [] =
    λ i.
    (((l.language ++ dashed-one l.script i) ++ dashed-one l.region i) ++ dashed-one l.variant i)
    ++ marked (codes "-u-sd-") (none i) in
    let behind : dashed (subtags l) ≡ dashed (at_most_one l.script)
    ++ (dashed (at_most_one l.region) ++ dashed (at_most_one l.variant)) =
    dashed-append (at_most_one l.script) _
    ∙ ap (λ t. dashed (at_most_one l.script) ++ t) (dashed-append (at_most_one l.region) _) in
    each ∙ append-nil _
    ∙ append_assoc (l.language ++ dashed (at_most_one l.script)) (dashed (at_most_one l.region))
    (dashed (at_most_one l.variant))
    ∙ append_assoc l.language (dashed (at_most_one l.script))
    (dashed (at_most_one l.region) ++ dashed (at_most_one l.variant))
    ∙ ap (λ t. l.language ++ t) (sym behind) ∙ sym (joined-dashed l.language (subtags l))

-- ---- its pieces

-- a letter or digit separates nothing
no_separator : (c : ℕ) → is_ascii_alphanumeric c ≡ true → is_separator c ≡ false
no_separator c e = grind (arith, nat_tests)

-- letters and digits before a dash are a piece
cut_dash : (x t : List ℕ) → IsClean x → pieces_of (x ++ (byte "-" ∷ t)) ≡ x ∷ pieces_of t
cut_dash [] t e = refl
cut_dash (c ∷ x) t e =
    let head : is_ascii_alphanumeric c ≡ true = grind (arith, nat_tests) in
    let tail : IsClean x = grind (arith, nat_tests) in
    ap
    (λ b. cond b ([] ∷ pieces_of (x ++ (byte "-" ∷ t)))
    (onto_first c (pieces_of (x ++ (byte "-" ∷ t))))) (no_separator c head)
    ∙ ap (onto_first c) (cut_dash x t tail)

-- alone they are the only piece
one_piece : (x : List ℕ) → IsClean x → pieces_of x ≡ x ∷ []
one_piece [] e = refl
one_piece (c ∷ x) e =
    let head : is_ascii_alphanumeric c ≡ true = grind (arith, nat_tests) in
    let tail : IsClean x = grind (arith, nat_tests) in
    ap (λ b. cond b ([] ∷ pieces_of x) (onto_first c (pieces_of x))) (no_separator c head)
    ∙ ap (onto_first c) (one_piece x tail)

-- pieces of letters and digits are those of the text that they are joined to
pub pieces_of-joined : (x : List ℕ) (ps : List (List ℕ)) → IsClean x → AreClean ps
    → pieces_of (joined (x ∷ ps)) ≡ x ∷ ps
pieces_of-joined x [] e h = one_piece x e
pieces_of-joined x (y ∷ ps) e h =
    let head : IsClean y = grind (arith, nat_tests) in
    let tail : AreClean ps = grind (arith, nat_tests) in
    cut_dash x (joined (y ∷ ps)) e ∙ ap (λ qs. x ∷ qs) (pieces_of-joined y ps head tail)
