-- Identifiers are read in any case: texts that differ by case alone are the same identifier.
use Rattle.std.proofs.Common.{◌≡◌, ℕ, Bool, true, false, List, [], ◌∷◌, ◌++◌, Option, Some, None}
use Rattle.std.proofs.Common.{map, drop, cond, refl, sym, ap, ◌∙◌, subst, arith}
use Rattle.std.specs.Char.{to_ascii_lowercase, to_ascii_uppercase}
use Rattle.std.specs.List.{All, onto_first}
use Rattle.std.specs.Option.{option_map}
use Rattle.std.proofs.lemmas.Bool.Decides.{nat_tests}
use Rattle.language_tags_grammar.specs.Lemmas.Unique.{lowercase-lowercase}
use Rattle.language_tags_grammar.specs.Pieces.{lowercase, titlecase, uppercase}
use Rattle.unic_langid_impl.specs.Identifier.{Identifier, part}
use Rattle.unic_langid_impl.specs.Pieces.{is_separator, pieces_of}
use Rattle.unic_langid_impl.specs.Reading.{AreIdentifier, IsAscendingOf, id_of}
use Rattle.unic_langid_impl.specs.Subtags.{IsLanguage, language_of}
use Rattle.icu_locale_core.specs.Shapes.{IsVariant}

-- ---- case

-- a separator has no case
separator-lowercase : (c : ℕ) → is_separator (to_ascii_lowercase c) ≡ is_separator c
separator-lowercase c = grind (arith, nat_tests)

-- a letter's capital is that of its small letter
upper-lower : (c : ℕ) → to_ascii_uppercase (to_ascii_lowercase c) ≡ to_ascii_uppercase c
upper-lower c = grind (arith, nat_tests)

-- so upper case doesn't look at the case before
pub uppercase-lowercase : (t : List ℕ) → uppercase (lowercase t) ≡ uppercase t
uppercase-lowercase [] = refl
uppercase-lowercase (c ∷ t) = λ i. upper-lower c i ∷ uppercase-lowercase t i

-- nor does a first capital
pub titlecase-lowercase : (t : List ℕ) → titlecase (lowercase t) ≡ titlecase t
titlecase-lowercase [] = refl
titlecase-lowercase (c ∷ t) = λ i. upper-lower c i ∷ lowercase-lowercase t i

-- the pieces of a text in lower case
pieces_of-lowercase : (text : List ℕ) → pieces_of (lowercase text) ≡ map lowercase (pieces_of text)
pieces_of-lowercase [] = refl
pieces_of-lowercase (c ∷ text) =
    (λ i. cond (separator-lowercase c i) ([] ∷ pieces_of-lowercase text i)
    (onto_first (to_ascii_lowercase c) (pieces_of-lowercase text i)))
    ∙ by (is_separator c) (pieces_of text)
  where
    by : (b : Bool) (ps : List (List ℕ))
        → cond b ([] ∷ map lowercase ps) (onto_first (to_ascii_lowercase c) (map lowercase ps))
        ≡ map lowercase (cond b ([] ∷ ps) (onto_first c ps))
    by true ps = refl
    by false [] = refl
    by false (p ∷ ps) = refl

-- ---- pieces in another case

-- pieces that are, without case, a part that may be missing and then others
record Cut (o : Option (List ℕ)) (more qs : List (List ℕ)) : Type 0 where
  piece : Option (List ℕ)
  rest : List (List ℕ)
  are : qs ≡ part piece ++ rest
  same : option_map lowercase piece ≡ option_map lowercase o
  behind : map lowercase rest ≡ map lowercase more

-- such pieces are cut behind that part
cut : (o : Option (List ℕ)) (more qs : List (List ℕ))
    → map lowercase qs ≡ map lowercase (part o ++ more) → Cut o more qs
cut None more qs e = record { piece = None; rest = qs; are = refl; same = refl; behind = e }
cut (Some x) more [] e = cc
cut (Some x) more (q ∷ qs) e =
    let first : lowercase q ≡ lowercase x = cc in
    record { piece = Some q; rest = qs; are = refl; same = ap Some first; behind = ap (drop 1) e }

-- a part in a case that doesn't look at the case before
module _ (case : List ℕ → List ℕ) (blind : (t : List ℕ) → case (lowercase t) ≡ case t) where
  -- is the same for parts that differ by case alone
  same_case : (o p : Option (List ℕ)) → option_map lowercase p ≡ option_map lowercase o
      → option_map case o ≡ option_map case p
  same_case None None e = refl
  same_case None (Some y) e = cc
  same_case (Some x) None e = cc
  same_case (Some x) (Some y) e =
      let same : lowercase y ≡ lowercase x = cc in
      ap Some (sym (blind x) ∙ ap case (sym same) ∙ blind y)

-- pieces that differ by case alone are the same identifier
other_pieces : (ps qs : List (List ℕ)) (i : Identifier) → map lowercase qs ≡ map lowercase ps
    → AreIdentifier ps i
    → AreIdentifier qs i
other_pieces ps qs i e h = go qs (e ∙ ap (map lowercase) h.pieces_are)
  where
    go : (qs : List (List ℕ))
        → map lowercase qs
        ≡ map lowercase (h.language ∷ (part h.script ++ (part h.region ++ h.variants)))
        → AreIdentifier qs i
    go [] e = cc
    go (q ∷ qs) e =
        let first : lowercase q ≡ lowercase h.language = cc in
        let script = cut h.script (part h.region ++ h.variants) qs (ap (drop 1) e) in
        let region = cut h.region h.variants script.rest script.behind in record {
          language = q;
          script = script.piece;
          region = region.piece;
          variants = region.rest;
          pieces_are =
              ap (λ rest. q ∷ rest)
              (script.are ∙ ap (λ rest. part script.piece ++ rest) region.are);
          is_language = subst IsLanguage (sym first) h.is_language;
          is_script = h.is_script;
          is_region = h.is_region;
          are_variants = subst (All IsVariant) (sym region.behind) h.are_variants;
          language_is = h.language_is ∙ ap language_of (sym first);
          script_is = h.script_is
              ∙ same_case titlecase titlecase-lowercase h.script script.piece script.same;
          region_is = h.region_is
              ∙ same_case uppercase uppercase-lowercase h.region region.piece region.same;
          variants_are =
              subst (λ texts. IsAscendingOf texts i.variants) (sym region.behind) h.variants_are;
        }

-- texts that differ by case alone are the same identifier
pub in_any_case : (s t : List ℕ) (i : Identifier) → lowercase s ≡ lowercase t
    → id_of t i → id_of s i
in_any_case s t i e h =
    other_pieces (pieces_of t) (pieces_of s) i
    (sym (pieces_of-lowercase s) ∙ ap pieces_of e ∙ pieces_of-lowercase t) h
