-- The sections of a tag's parts, in lower case, and the parts of sections.
use Rattle.std.proofs.Common.{◌≡◌, ℕ, ◌≤◌, Bool, true, false, ◌⊎◌, inl, inr, List, [], ◌∷◌, ◌++◌}
use Rattle.std.proofs.Common.{Option, Some, None, length, refl, sym, ap, ◌∙◌, arith, append_assoc}
use Rattle.std.proofs.Common.{append-nil, map}
use Rattle.std.specs.Prelude.{◌==◌, ◌&&◌, ◌||◌, IfSome, IsTrue}
use Rattle.std.specs.Char.{is_ascii_digit, is_ascii_lowercase, is_ascii_uppercase}
use Rattle.std.specs.Char.{to_ascii_lowercase, to_ascii_uppercase}
use Rattle.std.specs.List.{AllByRecursion, flat_map, list_all}
use Rattle.std.specs.Option.{option_map}
use Rattle.std.specs.Str.{byte}
use Rattle.std.proofs.lemmas.Bool.Decides.{nat_tests}
use Rattle.std.proofs.lemmas.List.{length-map, map-append}
use Rattle.language_tags_grammar.specs.Pieces.{lowercase, titlecase, uppercase}
use Rattle.language_tags_grammar.specs.Scan.{is_small_region, is_small_script}
use Rattle.language_tags_grammar.specs.Shapes.{AreParts, IsExtension, is_content, is_extlang}
use Rattle.language_tags_grammar.specs.Shapes.{is_language, is_private, is_region, is_script}
use Rattle.language_tags_grammar.specs.Shapes.{is_small, is_variant}
use Rattle.language_tags_grammar.specs.Tag.{Extension as Run, Parts, at_most_one, extension_pieces}
use Rattle.language_tags_grammar.specs.Tag.{private_pieces, written}
use Rattle.language_tags_grammar.specs.declared.stage.Stage.{Stage}
use Rattle.language_tags_grammar.specs.declared.stage.Stage.TheVariants.{Start, X}
use Rattle.language_tags_grammar.specs.Lemmas.Flat.{Flat, nothing, seen}
use Rattle.language_tags_grammar.specs.Lemmas.Holds.{Whole}
use Rattle.language_tags_grammar.specs.Lemmas.Forward.{rank, run, to_x}
use Rattle.language_tags_grammar.specs.Lemmas.Runs.{Passes, named, only, pass_extlangs}
use Rattle.language_tags_grammar.specs.Lemmas.Runs.{pass_language, pass_more, pass_private}
use Rattle.language_tags_grammar.specs.Lemmas.Runs.{pass_region, pass_runs, pass_script}
use Rattle.language_tags_grammar.specs.Lemmas.Runs.{pass_variants, passes_both, with_private}

-- ---- case

small-lower : (c : ℕ) → is_small c ≡ true → to_ascii_lowercase c ≡ c
small-lower c e = grind (arith, nat_tests)

letter-small : (c : ℕ) → is_ascii_lowercase c ≡ true → is_small c ≡ true
letter-small c e = grind (arith, nat_tests)

digit-small : (c : ℕ) → is_ascii_digit c ≡ true → is_small c ≡ true
digit-small c e = grind (arith, nat_tests)

module _ (p q : ℕ → Bool) (each : (c : ℕ) → p c ≡ true → q c ≡ true) where
  pub all-weaker : (x : List ℕ) → list_all p x ≡ true → list_all q x ≡ true
  all-weaker [] e = refl
  all-weaker (c ∷ x) e =
      let head : p c ≡ true = grind (arith, nat_tests) in
      let tail : list_all p x ≡ true = grind (arith, nat_tests) in
      λ i. each c head i && all-weaker x tail i

pub small-lowercase : (x : List ℕ) → list_all is_small x ≡ true → lowercase x ≡ x
small-lowercase [] e = refl
small-lowercase (c ∷ x) e =
    let head : is_small c ≡ true = grind (arith, nat_tests) in
    let tail : list_all is_small x ≡ true = grind (arith, nat_tests) in
    λ i. small-lower c head i ∷ small-lowercase x tail i

pub letters-small : (x : List ℕ) → list_all is_ascii_lowercase x ≡ true → list_all is_small x ≡ true
letters-small = all-weaker is_ascii_lowercase is_small letter-small

pub digits-small : (x : List ℕ) → list_all is_ascii_digit x ≡ true → list_all is_small x ≡ true
digits-small = all-weaker is_ascii_digit is_small digit-small

-- pieces that are small each stay
module _ (test : List ℕ → Bool)
    (small : (x : List ℕ) → test x ≡ true → list_all is_small x ≡ true) where
  pub all-lowercase : (ps : List (List ℕ)) → list_all test ps ≡ true → map lowercase ps ≡ ps
  all-lowercase [] e = refl
  all-lowercase (x ∷ ps) e =
      let head : test x ≡ true = grind (arith, nat_tests) in
      let tail : list_all test ps ≡ true = grind (arith, nat_tests) in
      λ i. small-lowercase x (small x head) i ∷ all-lowercase ps tail i

second : (a b : Bool) → (a && b) ≡ true → b ≡ true
second a b e = grind (arith, nat_tests)

pub language-small : (x : List ℕ) → is_language x ≡ true → list_all is_small x ≡ true
language-small x e = letters-small x (second _ _ e)

pub extlang-small : (x : List ℕ) → is_extlang x ≡ true → list_all is_small x ≡ true
extlang-small x e = letters-small x (second _ _ e)

pub variant-small : (x : List ℕ) → is_variant x ≡ true → list_all is_small x ≡ true
variant-small x e = second _ _ e

pub content-small : (x : List ℕ) → is_content x ≡ true → list_all is_small x ≡ true
content-small x e = second _ _ e

pub private-small : (x : List ℕ) → is_private x ≡ true → list_all is_small x ≡ true
private-small x e = second _ _ e

pub runs-lowercase : (rs : List Run) → AllByRecursion IsExtension rs
    → map lowercase (flat_map extension_pieces rs) ≡ flat_map extension_pieces rs
runs-lowercase [] h = refl
runs-lowercase (r ∷ rs) h =
    let small : is_small r.singleton ≡ true = grind (arith, nat_tests, h.0.singleton) in
    map-append lowercase (extension_pieces r) (flat_map extension_pieces rs)
    ∙ (λ i.
    ((small-lower r.singleton small i ∷ [])
    ∷ all-lowercase is_content content-small r.content h.0.content i)
    ++ runs-lowercase rs h.1 i)

pub private-lowercase : (ps : List (List ℕ)) → list_all is_private ps ≡ true
    → map lowercase (private_pieces ps) ≡ private_pieces ps
private-lowercase [] e = refl
private-lowercase (p ∷ ps) e =
    ap (λ qs. (byte "x" ∷ []) ∷ qs) (all-lowercase is_private private-small (p ∷ ps) e)

-- ---- the script and the region

pub title-lowercase : (x : List ℕ) → is_small_script x ≡ true → lowercase (titlecase x) ≡ x
title-lowercase [] e = refl
title-lowercase (c ∷ x) e =
    let first : is_ascii_lowercase c ≡ true = grind (arith, nat_tests) in
    let rest : list_all is_ascii_lowercase x ≡ true = grind (arith, nat_tests) in
    let back : to_ascii_lowercase (to_ascii_uppercase c) ≡ c = grind (arith, nat_tests) in
    let once = small-lowercase x (letters-small x rest) in
    λ i. back i ∷ (ap lowercase once ∙ once) i

pub title-script : (x : List ℕ) → is_small_script x ≡ true → is_script (titlecase x) ≡ true
title-script [] e = absurd (grind (arith, nat_tests))
title-script (c ∷ x) e =
    let first : is_ascii_lowercase c ≡ true = grind (arith, nat_tests) in
    let upper : is_ascii_uppercase (to_ascii_uppercase c) ≡ true = grind (arith, nat_tests) in
    let rest : list_all is_ascii_lowercase x ≡ true = grind (arith, nat_tests) in
    let four : (length (c ∷ x) == 4) ≡ true = grind (arith, nat_tests) in
    let once = small-lowercase x (letters-small x rest) in
    (λ i. length (c ∷ once i) == 4 && (upper i && list_all is_ascii_lowercase (once i)))
    ∙ (λ i. four i && rest i)

pub script-lowercase : (x : List ℕ) → is_script x ≡ true → is_small_script (lowercase x) ≡ true
script-lowercase [] e = e
script-lowercase (c ∷ x) e =
    let first : is_ascii_uppercase c ≡ true = grind (arith, nat_tests) in
    let lower : is_ascii_lowercase (to_ascii_lowercase c) ≡ true = grind (arith, nat_tests) in
    let rest : list_all is_ascii_lowercase x ≡ true = grind (arith, nat_tests) in
    let four : (length (c ∷ x) == 4) ≡ true = grind (arith, nat_tests) in
    let once = small-lowercase x (letters-small x rest) in
    (λ i. length (c ∷ once i) == 4 && (lower i && list_all is_ascii_lowercase (once i)))
    ∙ (λ i. four i && rest i)

pub script-title : (x : List ℕ) → is_script x ≡ true → titlecase (lowercase x) ≡ x
script-title [] e = refl
script-title (c ∷ x) e =
    let first : is_ascii_uppercase c ≡ true = grind (arith, nat_tests) in
    let back : to_ascii_uppercase (to_ascii_lowercase c) ≡ c = grind (arith, nat_tests) in
    let rest : list_all is_ascii_lowercase x ≡ true = grind (arith, nat_tests) in
    let once = small-lowercase x (letters-small x rest) in
    λ i. back i ∷ (ap lowercase once ∙ once) i

-- a test of characters, and what changes them
module _ (p q : ℕ → Bool) (f g : ℕ → ℕ) (passes : (c : ℕ) → p c ≡ true → q (f c) ≡ true)
    (back : (c : ℕ) → p c ≡ true → g (f c) ≡ c) where
  pub all-map : (x : List ℕ) → list_all p x ≡ true → list_all q (map f x) ≡ true
  all-map [] e = refl
  all-map (c ∷ x) e =
      let head : p c ≡ true = grind (arith, nat_tests) in
      let tail : list_all p x ≡ true = grind (arith, nat_tests) in
      λ i. passes c head i && all-map x tail i

  pub map-back : (x : List ℕ) → list_all p x ≡ true → map g (map f x) ≡ x
  map-back [] e = refl
  map-back (c ∷ x) e =
      let head : p c ≡ true = grind (arith, nat_tests) in
      let tail : list_all p x ≡ true = grind (arith, nat_tests) in
      λ i. back c head i ∷ map-back x tail i

upper-lower : (c : ℕ) → is_ascii_uppercase c ≡ true
    → is_ascii_lowercase (to_ascii_lowercase c) ≡ true
upper-lower c e = grind (arith, nat_tests)

upper-back : (c : ℕ) → is_ascii_uppercase c ≡ true → to_ascii_uppercase (to_ascii_lowercase c) ≡ c
upper-back c e = grind (arith, nat_tests)

lower-upper : (c : ℕ) → is_ascii_lowercase c ≡ true
    → is_ascii_uppercase (to_ascii_uppercase c) ≡ true
lower-upper c e = grind (arith, nat_tests)

lower-back : (c : ℕ) → is_ascii_lowercase c ≡ true → to_ascii_lowercase (to_ascii_uppercase c) ≡ c
lower-back c e = grind (arith, nat_tests)

digit-lower : (c : ℕ) → is_ascii_digit c ≡ true → is_ascii_digit (to_ascii_lowercase c) ≡ true
digit-lower c e = grind (arith, nat_tests)

digit-upper : (c : ℕ) → is_ascii_digit c ≡ true → is_ascii_digit (to_ascii_uppercase c) ≡ true
digit-upper c e = grind (arith, nat_tests)

digit-lower-back : (c : ℕ) → is_ascii_digit c ≡ true → to_ascii_uppercase (to_ascii_lowercase c) ≡ c
digit-lower-back c e = grind (arith, nat_tests)

digit-upper-back : (c : ℕ) → is_ascii_digit c ≡ true → to_ascii_lowercase (to_ascii_uppercase c) ≡ c
digit-upper-back c e = grind (arith, nat_tests)

-- two letters, or three digits
module _ (p : ℕ → Bool) (x : List ℕ) where
  abbrev pub is_region_by : Bool
  is_region_by = (length x == 2 && list_all p x) || (length x == 3 && list_all is_ascii_digit x)

region-cases : (p : ℕ → Bool) (x : List ℕ) → is_region_by p x ≡ true
    → (((length x == 2) ≡ true) × (list_all p x ≡ true))
    ⊎ (((length x == 3) ≡ true) × (list_all is_ascii_digit x ≡ true))
region-cases p x e = by (length x == 2) (list_all p x) (length x == 3) (list_all is_ascii_digit x) e
  where
    by : (a b c d : Bool) → ((a && b) || (c && d)) ≡ true
        → ((a ≡ true) × (b ≡ true)) ⊎ ((c ≡ true) × (d ≡ true))
    by true true c d e = inl (refl, refl)
    by true false true true e = inr (refl, refl)
    by true false true false e = cc
    by true false false d e = cc
    by false b true true e = inr (refl, refl)
    by false b true false e = cc
    by false b false d e = cc

two-region : (p : ℕ → Bool) (x : List ℕ) → (length x == 2) ≡ true → list_all p x ≡ true
    → is_region_by p x ≡ true
two-region p x a b = λ i. (a i && b i) || (length x == 3 && list_all is_ascii_digit x)

three-region : (p : ℕ → Bool) (x : List ℕ) → (length x == 3) ≡ true
    → list_all is_ascii_digit x ≡ true → is_region_by p x ≡ true
three-region p x a b =
    (λ i. (length x == 2 && list_all p x) || (a i && b i)) ∙ or-true (length x == 2 && list_all p x)
  where
    or-true : (b : Bool) → (b || true) ≡ true
    or-true true = refl
    or-true false = refl

same-length : (f : ℕ → ℕ) (n : ℕ) (x : List ℕ) → (length x == n) ≡ true
    → (length (map f x) == n) ≡ true
same-length f n x e = ap (λ m. m == n) (length-map x f) ∙ e

pub region-lowercase : (x : List ℕ) → is_region x ≡ true → is_small_region (lowercase x) ≡ true
region-lowercase x e = by (region-cases is_ascii_uppercase x e)
  where
    by : (((length x == 2) ≡ true) × (list_all is_ascii_uppercase x ≡ true))
        ⊎ (((length x == 3) ≡ true) × (list_all is_ascii_digit x ≡ true))
        → is_small_region (lowercase x) ≡ true
    by (inl two) =
        two-region is_ascii_lowercase (lowercase x) (same-length to_ascii_lowercase 2 x two.0)
        (all-map is_ascii_uppercase is_ascii_lowercase to_ascii_lowercase to_ascii_uppercase
        upper-lower upper-back x two.1)
    by (inr three) =
        three-region is_ascii_lowercase (lowercase x) (same-length to_ascii_lowercase 3 x three.0)
        (all-map is_ascii_digit is_ascii_digit to_ascii_lowercase to_ascii_uppercase digit-lower
        digit-lower-back x three.1)

pub region-uppercase : (x : List ℕ) → is_small_region x ≡ true → is_region (uppercase x) ≡ true
region-uppercase x e = by (region-cases is_ascii_lowercase x e)
  where
    by : (((length x == 2) ≡ true) × (list_all is_ascii_lowercase x ≡ true))
        ⊎ (((length x == 3) ≡ true) × (list_all is_ascii_digit x ≡ true))
        → is_region (uppercase x) ≡ true
    by (inl two) =
        two-region is_ascii_uppercase (uppercase x) (same-length to_ascii_uppercase 2 x two.0)
        (all-map is_ascii_lowercase is_ascii_uppercase to_ascii_uppercase to_ascii_lowercase
        lower-upper lower-back x two.1)
    by (inr three) =
        three-region is_ascii_uppercase (uppercase x) (same-length to_ascii_uppercase 3 x three.0)
        (all-map is_ascii_digit is_ascii_digit to_ascii_uppercase to_ascii_lowercase digit-upper
        digit-upper-back x three.1)

pub region-upper : (x : List ℕ) → is_region x ≡ true → uppercase (lowercase x) ≡ x
region-upper x e = by (region-cases is_ascii_uppercase x e)
  where
    by : (((length x == 2) ≡ true) × (list_all is_ascii_uppercase x ≡ true))
        ⊎ (((length x == 3) ≡ true) × (list_all is_ascii_digit x ≡ true))
        → uppercase (lowercase x) ≡ x
    by (inl two) =
        map-back is_ascii_uppercase is_ascii_lowercase to_ascii_lowercase to_ascii_uppercase
        upper-lower upper-back x two.1
    by (inr three) =
        map-back is_ascii_digit is_ascii_digit to_ascii_lowercase to_ascii_uppercase digit-lower
        digit-lower-back x three.1

pub region-lower : (x : List ℕ) → is_small_region x ≡ true → lowercase (uppercase x) ≡ x
region-lower x e = by (region-cases is_ascii_lowercase x e)
  where
    by : (((length x == 2) ≡ true) × (list_all is_ascii_lowercase x ≡ true))
        ⊎ (((length x == 3) ≡ true) × (list_all is_ascii_digit x ≡ true))
        → lowercase (uppercase x) ≡ x
    by (inl two) =
        map-back is_ascii_lowercase is_ascii_uppercase to_ascii_uppercase to_ascii_lowercase
        lower-upper lower-back x two.1
    by (inr three) =
        map-back is_ascii_digit is_ascii_digit to_ascii_uppercase to_ascii_lowercase digit-upper
        digit-upper-back x three.1

-- ---- the sections of parts

abbrev pub flat : Parts → Flat
flat p = record {
  language = p.language ∷ [];
  extlangs = p.extlangs;
  script = at_most_one (option_map lowercase p.script);
  region = at_most_one (option_map lowercase p.region);
  variants = p.variants;
  extension = flat_map extension_pieces p.extensions;
  private = private_pieces p.private;
}

one-lowercase : (o : Option (List ℕ))
    → map lowercase (at_most_one o) ≡ at_most_one (option_map lowercase o)
one-lowercase None = refl
one-lowercase (Some x) = refl

pub written-lowercase : (p : Parts) → AreParts p → map lowercase (written p) ≡ seen (flat p)
written-lowercase p h =
    let es = p.extlangs in
    let s = at_most_one p.script in
    let r = at_most_one p.region in
    let vs = p.variants in
    let xs = flat_map extension_pieces p.extensions in
    let ps = private_pieces p.private in
    (λ i. small-lowercase p.language (language-small p.language h.language) i
    ∷ (map-append lowercase es (s ++ (r ++ (vs ++ (xs ++ ps))))
    ∙ ap (λ y. map lowercase es ++ y) (map-append lowercase s (r ++ (vs ++ (xs ++ ps)))
    ∙ ap (λ y. map lowercase s ++ y) (map-append lowercase r (vs ++ (xs ++ ps))
    ∙ ap (λ y. map lowercase r ++ y) (map-append lowercase vs (xs ++ ps)
    ∙ ap (λ y. map lowercase vs ++ y) (map-append lowercase xs ps))))) i)
    ∙ (λ i. p.language ∷ (all-lowercase is_extlang extlang-small es h.extlangs i
    ++ (one-lowercase p.script i
    ++ (one-lowercase p.region i ++ (all-lowercase is_variant variant-small vs h.variants i
    ++ (runs-lowercase p.extensions h.extensions i ++ private-lowercase p.private h.private i))))))

script-fits : (o : Option (List ℕ)) → IfSome o (λ s. IsTrue (is_script s))
    → IfSome (option_map lowercase o) (λ x. is_small_script x ≡ true)
script-fits None h = tt
script-fits (Some s) h = script-lowercase s h

region-fits : (o : Option (List ℕ)) → IfSome o (λ s. IsTrue (is_region s))
    → IfSome (option_map lowercase o) (λ x. is_small_region x ≡ true)
region-fits None h = tt
region-fits (Some s) h = region-lowercase s h

-- the scanner passes the parts' pieces, and what it then has are their sections
module _ (p : Parts) (h : AreParts p) where
  front : Passes 1 5 (named p.language) (only p.language)
      (p.extlangs
      ++ (at_most_one (option_map lowercase p.script)
      ++ (at_most_one (option_map lowercase p.region)
      ++ (p.variants ++ flat_map extension_pieces p.extensions)))) (with_private (flat p) [])
  front =
      let a = pass_extlangs p.language p.extlangs h.extlangs h.few h.short in
      let b =
      pass_script a.stage _ (option_map lowercase p.script) refl a.above a.below
      (script-fits p.script h.script) in
      let c =
      pass_region b.stage _ (option_map lowercase p.region) refl b.above b.below
      (region-fits p.region h.region) in
      let d = pass_variants p.variants c.stage _ c.above (omega (arith, c.below)) h.variants in
      let e = pass_runs p.extensions d.stage _ d.above (omega (arith, d.below)) h.extensions in
      passes_both 1 1 1 5 _ _ _ _ _ _ a
      (passes_both 1 2 1 5 _ _ _ _ _ _ b
      (passes_both 1 3 1 5 _ _ _ _ _ _ c (passes_both 1 4 1 5 _ _ _ _ _ _ d e)))

-- what stands behind the language
abbrev pub behind : Flat → List (List ℕ)
behind f = f.extlangs ++ (f.script ++ (f.region ++ (f.variants ++ (f.extension ++ f.private))))

-- where a whole tag ends
pub data IsEnd (s : Stage) : Type 0 where
  in_front : 1 ≤ rank s → rank s ≤ 5 → IsEnd s
  in_private : rank s ≡ 8 → IsEnd s

pub record Parsed (p : Parts) : Type 0 where
  pub stage : Stage
  pub is_end : IsEnd stage
  pub runs : (rest : List (List ℕ))
      → run Start nothing (seen (flat p) ++ rest) ≡ run stage (flat p) rest

-- the stage is one before private use where there is none
pub record ParsedFront (p : Parts) : Type 0 where
  pub stage : Stage
  pub above : 1 ≤ rank stage
  pub below : rank stage ≤ 5
  pub runs : (rest : List (List ℕ))
      → run Start nothing (seen (with_private (flat p) []) ++ rest)
      ≡ run stage (with_private (flat p) []) rest

five_and_one : (a b c d e rest : List (List ℕ))
    → (a ++ (b ++ (c ++ (d ++ (e ++ []))))) ++ rest ≡ (a ++ (b ++ (c ++ (d ++ e)))) ++ rest
five_and_one a b c d e rest = ap (λ y. (a ++ (b ++ (c ++ (d ++ y)))) ++ rest) (append-nil e)

six : (a b c d e g rest : List (List ℕ))
    → (a ++ (b ++ (c ++ (d ++ (e ++ g))))) ++ rest ≡ (a ++ (b ++ (c ++ (d ++ e)))) ++ (g ++ rest)
six a b c d e g rest = simp append_assoc

pub parsed_front : (p : Parts) → AreParts p → ParsedFront p
parsed_front p h =
    let f = front p h in record {
      stage = f.stage;
      above = f.above;
      below = f.below;
      runs = λ rest.
          pass_language p.language h.language (behind (with_private (flat p) []) ++ rest)
          ∙ ap (run (named p.language) (only p.language))
          (five_and_one p.extlangs (at_most_one (option_map lowercase p.script))
          (at_most_one (option_map lowercase p.region)) p.variants
          (flat_map extension_pieces p.extensions) rest)
          ∙ f.runs rest;
    }

private-passes : (ps : List (List ℕ)) (s : Stage) (f : Flat) → 1 ≤ rank s → rank s ≤ 5
    → f.private ≡ [] → list_all is_private ps ≡ true
    → (t : Stage) × IsEnd t
    × ((rest : List (List ℕ))
    → run s f (private_pieces ps ++ rest) ≡ run t (with_private f (private_pieces ps)) rest)
private-passes [] s f a b none e =
    (s, in_front a b, λ rest. ap (λ q. run s (with_private f q) rest) none)
private-passes (x ∷ ps) s f a b none e =
    let first =
    pass_private (x ∷ ps) X (with_private f (f.private ++ ((byte "x" ∷ []) ∷ []))) (omega arith)
    (inr (omega arith)) e (omega arith) in
    let all = pass_more 8 8 s X f (byte "x" ∷ []) (x ∷ ps) _ (to_x s a b) first in (
      all.stage,
      in_private (omega (arith, all.above, all.below)),
      λ rest. all.runs rest
          ∙ ap
          (λ q. run all.stage (with_private f ((q ++ ((byte "x" ∷ []) ∷ [])) ++ (x ∷ ps))) rest)
          none,
    )

pub parsed : (p : Parts) → AreParts p → Parsed p
parsed p h =
    let f = front p h in
    let g =
    private-passes p.private f.stage
    (with_private (flat p) []) f.above f.below refl h.private in record {
      stage = g.0;
      is_end = g.1;
      runs = λ rest.
          pass_language p.language h.language (behind (flat p) ++ rest)
          ∙ ap (run (named p.language) (only p.language))
          (six p.extlangs (at_most_one (option_map lowercase p.script))
          (at_most_one (option_map lowercase p.region)) p.variants
          (flat_map extension_pieces p.extensions) (private_pieces p.private) rest)
          ∙ f.runs (private_pieces p.private ++ rest)
          ∙ g.2 rest;
    }

-- ---- the parts of sections

script_back : (o : Option (List ℕ)) → IfSome o (λ x. is_small_script x ≡ true)
    → IfSome (option_map titlecase o) (λ s. IsTrue (is_script s))
script_back None h = tt
script_back (Some x) h = title-script x h

region_back : (o : Option (List ℕ)) → IfSome o (λ x. is_small_region x ≡ true)
    → IfSome (option_map uppercase o) (λ s. IsTrue (is_region s))
region_back None h = tt
region_back (Some x) h = region-uppercase x h

script_there : (o : Option (List ℕ)) → IfSome o (λ x. is_small_script x ≡ true)
    → option_map lowercase (option_map titlecase o) ≡ o
script_there None h = refl
script_there (Some x) h = ap Some (title-lowercase x h)

region_there : (o : Option (List ℕ)) → IfSome o (λ x. is_small_region x ≡ true)
    → option_map lowercase (option_map uppercase o) ≡ o
region_there None h = refl
region_there (Some x) h = ap Some (region-lower x h)

module _ (f : Flat) (w : Whole f) (ps : List (List ℕ)) (e : list_all is_private ps ≡ true) where
  abbrev pub parts_of : Parts
  parts_of = record {
    language = w.head.name;
    extlangs = f.extlangs;
    script = option_map titlecase w.script.piece;
    region = option_map uppercase w.region.piece;
    variants = f.variants;
    extensions = w.runs.extensions;
    private = ps;
  }

  pub are_parts : AreParts parts_of
  are_parts = record {
    language = w.head.is;
    extlangs = w.head.are;
    few = w.head.few;
    short = w.head.short;
    script = script_back w.script.piece w.script.is;
    region = region_back w.region.piece w.region.is;
    variants = w.variants;
    extensions = w.runs.each;
    private = e;
  }

  pub flat-parts_of : flat parts_of ≡ with_private f (private_pieces ps)
  flat-parts_of = λ i. record {
    language = sym w.head.named i;
    extlangs = f.extlangs;
    script = (ap at_most_one (script_there w.script.piece w.script.is) ∙ sym w.script.are) i;
    region = (ap at_most_one (region_there w.region.piece w.region.is) ∙ sym w.region.are) i;
    variants = f.variants;
    extension = sym w.runs.are i;
    private = private_pieces ps;
  }
