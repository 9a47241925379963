-- What the scanner says of a text, and the pieces of clean texts.
use Rattle.std.proofs.Common.{◌≡◌, ℕ, ◌≤◌, true, List, [], ◌∷◌, ◌++◌, MatchResult, Ok, length, take}
use Rattle.std.proofs.Common.{drop, refl, sym, ap, ◌∙◌, arith, length-append, subst}
use Rattle.std.specs.Prelude.{codes, nat_eq}
use Rattle.std.proofs.lemmas.Slice.Eq.{bytes_eq-Decides}
use Rattle.std.proofs.lemmas.Bool.Decides.{nat_tests}
use Rattle.std.specs.List.{starts_with}
use Rattle.std.specs.Str.{IsAscii, IsUtf8}
use Rattle.std.proofs.lemmas.List.{length-map, take-append-drop}
use Rattle.std.proofs.lemmas.Str.{IsUtf8-from_ascii}
use Rattle.std.specs.Char.{to_ascii_lowercase}
use Rattle.language_tags_grammar.specs.Case.{in_case}
use Rattle.language_tags_grammar.specs.Kept.{EndAt, KeepsParts, parts_at}
use Rattle.language_tags_grammar.specs.Pieces.{joined, lowercase, part_text, pieces, pieces_of}
use Rattle.language_tags_grammar.specs.Scan.{scanned}
use Rattle.language_tags_grammar.specs.Tag.{Parts, written}
use Rattle.language_tags_grammar.specs.TagFault.{IsFaultOfPieces}
use Rattle.language_tags_grammar.specs.declared.ends.Ends.{Ends}
use Rattle.language_tags_grammar.specs.Lemmas.CaseLaws.{in_case-parts, scanned-ends, scanned-text}
use Rattle.language_tags_grammar.specs.Lemmas.CaseLaws.{small, small-ends}
use Rattle.language_tags_grammar.specs.Lemmas.Faults.{Scanned, scanned_law}
use Rattle.language_tags_grammar.specs.Lemmas.KeptLaws.{AreClean, E, IsClean, P, R, S, V, X}
use Rattle.language_tags_grammar.specs.Lemmas.KeptLaws.{joined-dashed, keeps, parts_at-text}
use Rattle.language_tags_grammar.specs.Lemmas.KeptLaws.{pieces-dashed, print-ascii, text-parts}
use Rattle.language_tags_grammar.specs.Lemmas.PartsLaws.{written-lowercase}
use Rattle.language_tags_grammar.specs.Lemmas.PieceLaws.{some_piece}

pub begins-x : (t : List ℕ) → starts_with nat_eq t (codes "x-") ≡ true → codes "x-" ++ drop 2 t ≡ t
begins-x t e = ap (λ a. a ++ drop 2 t) ((bytes_eq-Decides (codes "x-") (take 2 t)).0 e)
    ∙ take-append-drop 2 t

-- ---- pieces of parts

pub first-clean : (x : List ℕ) (ps : List (List ℕ)) → AreClean (x ∷ ps) → IsClean x
first-clean x ps h = grind (arith, nat_tests)

pub rest-clean : (x : List ℕ) (ps : List (List ℕ)) → AreClean (x ∷ ps) → AreClean ps
rest-clean x ps h = grind (arith, nat_tests)

pub pieces-part_text : (ps : List (List ℕ)) → AreClean ps → pieces_of (part_text ps) ≡ ps
pieces-part_text [] h = refl
pieces-part_text (x ∷ ps) h =
    ap pieces (joined-dashed x ps) ∙ pieces-dashed x ps (first-clean x ps h) (rest-clean x ps h)

-- ---- a text that was scanned

module _ (text : List ℕ) (ends : Ends) (is : scanned (pieces (lowercase text)) ≡ Ok ends) where
  pub was_scanned : Scanned (pieces (lowercase text)) ends
  was_scanned =
      subst
      (λ q. MatchResult q (Scanned (pieces (lowercase text)))
      (IsFaultOfPieces (pieces (lowercase text)))) is
      (scanned_law (pieces (lowercase text)) (some_piece (lowercase text)))

  abbrev q : Parts
  q = was_scanned.parts

  ends_at : EndAt q ends
  ends_at = scanned-ends text ends was_scanned

  pub scanned-script : ends.extlang ≤ ends.script
  scanned-script = omega (arith, ends_at.script)

  pub scanned-region : ends.script ≤ ends.region
  scanned-region = omega (arith, ends_at.region)

  pub scanned-within : (t : List ℕ) → t ≡ text → ends.region ≤ length t
  scanned-within t same =
      let s = small q in
      let at = small-ends q ends ends_at in
      let all : lowercase text ≡ s.language ++ (E s ++ (S s ++ (R s ++ (V s ++ (X s ++ P s))))) =
      scanned-text text ends was_scanned ∙ ap joined (written-lowercase q was_scanned.shapes)
      ∙ text-parts s in
      omega (
        arith,
        ap length same,
        ap length all,
        length-map text to_ascii_lowercase,
        at.language,
        at.extlang,
        at.script,
        at.region,
        length-append s.language (E s ++ (S s ++ (R s ++ (V s ++ (X s ++ P s))))),
        length-append (E s) (S s ++ (R s ++ (V s ++ (X s ++ P s)))),
        length-append (S s) (R s ++ (V s ++ (X s ++ P s))),
        length-append (R s) (V s ++ (X s ++ P s)),
      )

  pub scanned-case : (t cased : List ℕ) → t ≡ text → cased ≡ in_case ends t
      → cased ≡ joined (written q)
  scanned-case t cased same e =
      e ∙ ap (in_case ends) same
      ∙ in_case-parts q was_scanned.shapes ends ends_at text
      (scanned-text text ends was_scanned)

  pub scanned-utf8 : (cased : List ℕ) → cased ≡ joined (written q) → IsUtf8 cased
  scanned-utf8 cased e =
      IsUtf8-from_ascii cased (subst IsAscii (sym e) (print-ascii q was_scanned.shapes))

  pub scanned-keeps : (bytes : List ℕ) → bytes ≡ joined (written q)
      → KeepsParts bytes ends (parts_at ends bytes)
  scanned-keeps bytes e =
      subst (λ t. KeepsParts t ends (parts_at ends t)) (sym e)
      (keeps q ends ends_at was_scanned.shapes)

  pub scanned-parts : (bytes : List ℕ) → bytes ≡ joined (written q) → parts_at ends bytes ≡ q
  scanned-parts bytes e = ap (parts_at ends) e ∙ parts_at-text q ends ends_at was_scanned.shapes
