-- A text in the case of a langtag is the text of its parts.
use Rattle.std.proofs.Common.{◌≡◌, ℕ, zero, suc, ◌+◌, ◌-◌, true, List, [], ◌∷◌, ◌++◌, Option, Some}
use Rattle.std.proofs.Common.{None, length, take, drop, refl, sym, ap, ◌∙◌, arith, append_assoc}
use Rattle.std.proofs.Common.{append-nil, length-append, map}
use Rattle.std.specs.Prelude.{IfSome, IsTrue}
use Rattle.std.specs.Char.{is_ascii_lowercase, is_ascii_uppercase, to_ascii_lowercase}
use Rattle.std.specs.Char.{to_ascii_uppercase}
use Rattle.std.specs.List.{list_all}
use Rattle.std.specs.Option.{option_map}
use Rattle.std.specs.Str.{byte}
use Rattle.std.proofs.lemmas.Bool.Decides.{nat_tests}
use Rattle.std.proofs.lemmas.List.{drop_at, length-map, take_at}
use Rattle.std.proofs.lemmas.List.Splits.{join_with_byte-slice_split}
use Rattle.language_tags_grammar.specs.Case.{capital, in_case}
use Rattle.language_tags_grammar.specs.Kept.{EndAt, between}
use Rattle.language_tags_grammar.specs.Pieces.{dashed, joined, lowercase, pieces, uppercase}
use Rattle.language_tags_grammar.specs.Shapes.{AreParts, is_region, is_script}
use Rattle.language_tags_grammar.specs.Tag.{Parts, at_most_one, written}
use Rattle.language_tags_grammar.specs.declared.ends.Ends.{Ends}
use Rattle.language_tags_grammar.specs.Lemmas.Faults.{Scanned}
use Rattle.language_tags_grammar.specs.Lemmas.KeptLaws.{E, P, R, S, V, X, between-middle}
use Rattle.language_tags_grammar.specs.Lemmas.KeptLaws.{text-parts}
use Rattle.language_tags_grammar.specs.Lemmas.PartsLaws.{letters-small, region-upper}
use Rattle.language_tags_grammar.specs.Lemmas.PartsLaws.{small-lowercase, written-lowercase}

-- ---- maps and cuts

take-map : (f : ℕ → ℕ) (n : ℕ) (t : List ℕ) → map f (take n t) ≡ take n (map f t)
take-map f zero t = refl
take-map f (suc n) [] = refl
take-map f (suc n) (c ∷ t) = ap (λ u. f c ∷ u) (take-map f n t)

drop-map : (f : ℕ → ℕ) (n : ℕ) (t : List ℕ) → map f (drop n t) ≡ drop n (map f t)
drop-map f zero t = refl
drop-map f (suc n) [] = refl
drop-map f (suc n) (c ∷ t) = drop-map f n t

between-map : (f : ℕ → ℕ) (from to : ℕ) (t : List ℕ)
    → map f (between from to t) ≡ between from to (map f t)
between-map f from to t =
    take-map f (to - from) (drop from t) ∙ ap (take (to - from)) (drop-map f from t)

upper-lowercase : (c : ℕ) → to_ascii_uppercase (to_ascii_lowercase c) ≡ to_ascii_uppercase c
upper-lowercase c = grind (arith, nat_tests)

uppercase-lowercase : (t : List ℕ) → uppercase (lowercase t) ≡ uppercase t
uppercase-lowercase [] = refl
uppercase-lowercase (c ∷ t) = λ i. upper-lowercase c i ∷ uppercase-lowercase t i

-- the parts in lower case
abbrev pub small : Parts → Parts
small p =
    record p { script = option_map lowercase p.script; region = option_map lowercase p.region }

pub length-one : (o : Option (List ℕ))
    → length (dashed (at_most_one (option_map lowercase o))) ≡ length (dashed (at_most_one o))
length-one None = refl
length-one (Some x) =
    omega (
      arith,
      length-append (lowercase x) [],
      length-append x [],
      length-map x to_ascii_lowercase,
    )

pub small-ends : (p : Parts) (ends : Ends) → EndAt p ends → EndAt (small p) ends
small-ends p ends at = record {
  language = at.language;
  extlang = at.extlang;
  script = at.script ∙ ap (λ n. ends.extlang + n) (sym (length-one p.script));
  region = at.region ∙ ap (λ n. ends.script + n) (sym (length-one p.region));
  variant = at.variant;
  extension = at.extension;
}

-- the region again
region-there : (o : Option (List ℕ)) → IfSome o (λ r. IsTrue (is_region r))
    → uppercase (dashed (at_most_one (option_map lowercase o))) ≡ dashed (at_most_one o)
region-there None h = refl
region-there (Some x) h =
    ap (λ t. byte "-" ∷ t)
    (ap uppercase (append-nil (lowercase x)) ∙ region-upper x h ∙ sym (append-nil x))

-- the script again
script-there : (x : List ℕ) → is_script x ≡ true
    → (c : ℕ) × (d : ℕ) × (rest : List ℕ) × (dashed (x ∷ []) ≡ byte "-" ∷ c ∷ rest)
    × (dashed (lowercase x ∷ []) ≡ byte "-" ∷ d ∷ rest)
    × (to_ascii_uppercase d ≡ c)
script-there [] h = absurd (grind (arith, nat_tests))
script-there (c ∷ x) h =
    let first : is_ascii_uppercase c ≡ true = grind (arith, nat_tests) in
    let rest : list_all is_ascii_lowercase x ≡ true = grind (arith, nat_tests) in
    let once : lowercase x ≡ x = small-lowercase x (letters-small x rest) in (
      c,
      to_ascii_lowercase c,
      x ++ [],
      refl,
      ap (λ t. byte "-" ∷ to_ascii_lowercase c ∷ (t ++ [])) once,
      grind (arith, nat_tests),
    )

module _ (p : Parts) (h : AreParts p) (ends : Ends) (at : EndAt p ends) where
  abbrev back : List ℕ
  back = V p ++ (X p ++ P p)

  abbrev L : List ℕ
  L = p.language ++ (E p ++ (S (small p) ++ (R (small p) ++ back)))

  front-width : ends.extlang ≡ length (p.language ++ E p)
  front-width = omega (arith, at.language, at.extlang, length-append p.language (E p))

  front : take ends.extlang L ≡ p.language ++ E p
  front =
      ap (take ends.extlang)
      (sym (append_assoc p.language (E p) (S (small p) ++ (R (small p) ++ back))))
      ∙ take_at (p.language ++ E p) (S (small p) ++ (R (small p) ++ back)) ends.extlang
      (sym front-width)

  region-part : between ends.script ends.region L ≡ R (small p)
  region-part =
      ap (between ends.script ends.region) (simp append_assoc)
      ∙ between-middle ((p.language ++ E p) ++ S (small p))
      (R (small p)) back ends.script ends.region
      (omega (
        arith,
        front-width,
        at.script,
        length-one p.script,
        length-append (p.language ++ E p) (S (small p)),
      ))
      (omega (arith, at.region, length-one p.region))

  rest-part : drop ends.region L ≡ back
  rest-part =
      ap (drop ends.region) (simp append_assoc)
      ∙ drop_at (((p.language ++ E p) ++ S (small p)) ++ R (small p)) back ends.region
      (omega (
        arith,
        front-width,
        at.script,
        at.region,
        length-one p.script,
        length-one p.region,
        length-append (p.language ++ E p) (S (small p)),
        length-append ((p.language ++ E p) ++ S (small p)) (R (small p)),
      ))

  script-part : (o : Option (List ℕ)) → p.script ≡ o → IfSome o (λ s. IsTrue (is_script s))
      → uppercase (between ends.extlang (capital ends) L) ++ between (capital ends) ends.script L
      ≡ dashed (at_most_one o)
  script-part None e s =
      let same : ends.script ≡ ends.extlang =
      omega (arith, at.script, ap (λ q. length (dashed (at_most_one q))) e) in
      let cap : capital ends ≡ ends.extlang = omega (arith, same) in
      let none : ends.extlang - ends.extlang ≡ 0 = omega arith in
      (λ i. uppercase (between ends.extlang (cap i) L) ++ between (cap i) (same i) L)
      ∙ (λ i. uppercase (take (none i) (drop ends.extlang L))
      ++ take (none i) (drop ends.extlang L))
  script-part (Some x) e s =
      let cut = script-there x s in
      let c = cut.0 in
      let d = cut.1 in
      let rest = cut.2 in
      let front = p.language ++ E p in
      let more = R (small p) ++ back in
      let whole : L ≡ front ++ ((byte "-" ∷ d ∷ []) ++ (rest ++ more)) =
      ap (λ q. p.language ++ (E p ++ (dashed (at_most_one (option_map lowercase q)) ++ more))) e
      ∙ ap (λ t. p.language ++ (E p ++ (t ++ more))) cut.4
      ∙ sym (append_assoc p.language (E p) (byte "-" ∷ d ∷ (rest ++ more))) in
      let wide : ends.script ≡ ends.extlang + (2 + length rest) =
      omega (arith, at.script, ap (λ q. length (dashed (at_most_one q))) e, ap length cut.3) in
      let cap : capital ends ≡ ends.extlang + 2 = omega (arith, wide) in
      let first : between ends.extlang (capital ends) L ≡ byte "-" ∷ d ∷ [] =
      ap (between ends.extlang (capital ends)) whole
      ∙ between-middle front (byte "-" ∷ d ∷ []) (rest ++ more) ends.extlang
      (capital ends) front-width cap in
      let second : between (capital ends) ends.script L ≡ rest =
      ap (between (capital ends) ends.script)
      (whole ∙ sym (append_assoc front (byte "-" ∷ d ∷ []) (rest ++ more)))
      ∙ between-middle (front ++ (byte "-" ∷ d ∷ [])) rest more (capital ends) ends.script
      (omega (arith, cap, front-width, length-append front (byte "-" ∷ d ∷ [])))
      (omega (arith, cap, wide)) in
      (λ i. uppercase (first i) ++ second i) ∙ ap (λ b. byte "-" ∷ b ∷ rest) cut.5 ∙ sym cut.3

  pub in_case-parts : (text : List ℕ) → lowercase text ≡ joined (map lowercase (written p))
      → in_case ends text ≡ joined (written p)
  in_case-parts text e =
      let all : lowercase text ≡ L = e ∙ ap joined (written-lowercase p h) ∙ text-parts (small p) in
      let up : uppercase text ≡ uppercase L = sym (uppercase-lowercase text) ∙ ap uppercase all in
      let c = capital ends in
      (λ i.
      (take-map to_ascii_lowercase ends.extlang text i
      ++ between-map to_ascii_uppercase ends.extlang c text i
      ++ between-map to_ascii_lowercase c ends.script text i
      ++ between-map to_ascii_uppercase ends.script ends.region text i
      ++ drop-map to_ascii_lowercase ends.region text i))
      ∙ (λ i. take ends.extlang (all i) ++ between ends.extlang c (up i)
      ++ between c ends.script (all i)
      ++ between ends.script ends.region (up i) ++ drop ends.region (all i))
      ∙ (λ i. front i ++ sym (between-map to_ascii_uppercase ends.extlang c L) i
      ++ between c ends.script L
      ++ (sym (between-map to_ascii_uppercase ends.script ends.region L) ∙ ap uppercase region-part
      ∙ region-there p.region h.region) i
      ++ rest-part i)
      ∙ regroup (p.language ++ E p) (uppercase (between ends.extlang c L))
      (between c ends.script L) (R p) back
      ∙ ap (λ s. (p.language ++ E p) ++ (s ++ (R p ++ back))) (script-part p.script refl h.script)
      ∙ append_assoc p.language (E p) (S p ++ (R p ++ back))
      ∙ sym (text-parts p)
    where
      regroup : (a b c d e : List ℕ) → a ++ b ++ c ++ d ++ e ≡ a ++ ((b ++ c) ++ (d ++ e))
      regroup a b c d e = simp append_assoc

-- ---- what the scanner answers

module _ (text : List ℕ) (ends : Ends) (s : Scanned (pieces (lowercase text)) ends) where
  pub scanned-ends : EndAt s.parts ends
  scanned-ends =
      let p = s.parts in
      let e = s.ends_are in record {
        language = ap (λ x. x.language) e ∙ omega (arith, length-append p.language []);
        extlang = ap (λ x. x.extlang) e
            ∙ omega (arith, length-append p.language [], ap (λ x. x.language) e);
        script = ap (λ x. x.script) e
            ∙ omega (
              arith,
              length-append p.language [],
              ap (λ x. x.extlang) e,
              length-one p.script,
            );
        region = ap (λ x. x.region) e
            ∙ omega (arith, length-append p.language [], ap (λ x. x.script) e, length-one p.region);
        variant = ap (λ x. x.variant) e
            ∙ omega (arith, length-append p.language [], ap (λ x. x.region) e);
        extension = ap (λ x. x.extension) e
            ∙ omega (arith, length-append p.language [], ap (λ x. x.variant) e);
      }

  pub scanned-text : lowercase text ≡ joined (map lowercase (written s.parts))
  scanned-text = sym (join_with_byte-slice_split 45 (lowercase text)) ∙ ap joined s.in_order
