-- The first extension of a text, and the others.
use Rattle.std.proofs.Common.{Bor, ◌≡◌, ℕ, ◌+◌, ◌<◌, ◌≤◌, List, [], ◌∷◌, ◌++◌, Option, Some, None}
use Rattle.std.proofs.Common.{length, drop, refl, sym, ap, ◌∙◌, arith, append-nil, length-append}
use Rattle.std.proofs.Common.{subst}
use Rattle.std.specs.Prelude.{slice_index}
use Rattle.std.specs.Option.{option_copied}
use Rattle.std.specs.List.{AllByRecursion, flat_map}
use Rattle.std.specs.Str.{IsAscii}
use Rattle.std.proofs.lemmas.List.{drop_at, take_rest}
use Rattle.std.proofs.lemmas.Str.{IsAscii-append}
use Rattle.language_tags_grammar.specs.Kept.{IsKept, between, grouped, tag_at}
use Rattle.language_tags_grammar.specs.declared.ends.Ends.{Ends}
use Rattle.language_tags_grammar.specs.Pieces.{dashed, joined, part_text, pieces}
use Rattle.language_tags_grammar.specs.Shapes.{IsExtension}
use Rattle.language_tags_grammar.specs.Tag.{Extension, Tag, extension_pieces, extensions_of}
use Rattle.language_tags_grammar.specs.Lemmas.KeptLaws.{AreClean, between-middle, clean-ascii}
use Rattle.language_tags_grammar.specs.Lemmas.KeptLaws.{dashed-ascii, dashed-append}
use Rattle.language_tags_grammar.specs.Lemmas.KeptLaws.{grouped-content, grouped-runs}
use Rattle.language_tags_grammar.specs.Lemmas.KeptLaws.{joined-dashed, pieces-dashed, runs-clean}
use Rattle.language_tags_grammar.specs.Lemmas.ScannedText.{first-clean, pieces-part_text}
use Rattle.language_tags_grammar.specs.Lemmas.ScannedText.{rest-clean}
use Rattle.language_tags.specs.Extensions.{AreExtensionsOf, IsExtensionsText, extensions_in}

-- ---- the steps over pieces

-- a piece of another length than one goes to the front
pub front_more : (p : List ℕ) (ps : List (List ℕ)) → (length p ≡ 1 → ⊥)
    → (grouped (p ∷ ps)).front ≡ p ∷ (grouped ps).front
front_more [] ps h = refl
front_more (c ∷ []) ps h = absurd (h (omega arith))
front_more (c ∷ d ∷ p) ps h = refl

pub front_none : (p : List ℕ) (ps : List (List ℕ)) → length p ≡ 1 → (grouped (p ∷ ps)).front ≡ []
front_none [] ps h = absurd (omega arith)
front_none (c ∷ []) ps h = refl
front_none (c ∷ d ∷ p) ps h = absurd (omega arith)

-- ---- a tag's extensions

pub tag-extensions : (o : Option Ends) (text : List ℕ) (g : Tag) → IsKept o text → tag_at o text ≡ g
    → AllByRecursion IsExtension (extensions_of g)
tag-extensions None text g h e = subst (λ q. AllByRecursion IsExtension (extensions_of q)) e tt
tag-extensions (Some ends) text g h e =
    subst (λ q. AllByRecursion IsExtension (extensions_of q)) e h.shapes.extensions

text_of : (es : List Extension) → AllByRecursion IsExtension es
    → extensions_in (part_text (flat_map extension_pieces es)) ≡ es
text_of es h =
    ap (λ ps. (grouped ps).extensions)
    (pieces-part_text (flat_map extension_pieces es) (runs-clean es h))
    ∙ ap (λ g. g.extensions) (grouped-runs es h)

pub extensions-text-is : (es : List Extension) (o : Option (List ℕ)) → AllByRecursion IsExtension es
    → o ≡ part_text (flat_map extension_pieces es) → extensions_in o ≡ es
extensions-text-is es o h e = ap extensions_in e ∙ text_of es h

pub extensions-text-kept : (es : List Extension) (o : Option (List ℕ))
    → AllByRecursion IsExtension es
    → o ≡ part_text (flat_map extension_pieces es) → IsExtensionsText o
extensions-text-kept es o h e = subst IsExtensionsText (sym e) (by es h)
  where
    by : (fs : List Extension) → AllByRecursion IsExtension fs
        → IsExtensionsText (part_text (flat_map extension_pieces fs))
    by [] k = tt
    by (f ∷ fs) k =
        let t = joined (flat_map extension_pieces (f ∷ fs)) in
        subst (AreExtensionsOf t) (sym (text_of (f ∷ fs) k))
        (record { shapes = k; some = omega arith; text_is = refl })

-- ---- the loop over the pieces of a content

module _ (n all : ℕ) (it ps : List (List ℕ)) (p : List ℕ) (step : it ≡ p ∷ ps)
    (answer : n + length (dashed (grouped it).front) ≡ all) where
  pub front-step : (length p ≡ 1 → ⊥)
      → (n + (length p + 1)) + length (dashed (grouped ps).front) ≡ all
  front-step other =
      let front = (grouped ps).front in
      let now : n + length (dashed (p ∷ front)) ≡ all =
      ap (λ qs. n + length (dashed qs)) (sym (front_more p ps other))
      ∙ ap (λ qs. n + length (dashed (grouped qs).front)) (sym step) ∙ answer in
      omega (arith, now, length-append p (dashed front))

  pub front-end : length p ≡ 1 → n ≡ all
  front-end one =
      let now : n + length (dashed []) ≡ all =
      ap (λ qs. n + length (dashed qs)) (sym (front_none p ps one))
      ∙ ap (λ qs. n + length (dashed (grouped qs).front)) (sym step) ∙ answer in
      omega (arith, now)

pub front-nothing : (n all : ℕ) (it : List (List ℕ)) → it ≡ []
    → n + length (dashed (grouped it).front) ≡ all → n ≡ all
front-nothing n all it e answer =
    let now : n + 0 ≡ all = ap (λ qs. n + length (dashed (grouped qs).front)) (sym e) ∙ answer in
    omega (arith, now)

pub left-step : (n most : ℕ) (it ps : List (List ℕ)) (p : List ℕ) → it ≡ p ∷ ps
    → n + length (dashed it) < most
    → (n + (length p + 1)) + length (dashed ps) < most
left-step n most it ps p e h =
    omega (arith, h, ap (λ qs. length (dashed qs)) e, length-append p (dashed ps))

-- ---- the first extension

pub record Cut (text : List ℕ) (es : List Extension) : Type 0 where
  pub first : Extension
  pub others : List Extension
  pub are : es ≡ first ∷ others
  pub pieces_are : pieces text
      ≡ (first.singleton ∷ []) ∷ (first.content ++ flat_map extension_pieces others)
  pub front_is : (grouped (first.content ++ flat_map extension_pieces others)).front ≡ first.content
  pub text_is : text ≡ (first.singleton ∷ [])
      ++ (dashed first.content ++ dashed (flat_map extension_pieces others))
  pub some : 1 ≤ length first.content
  pub shapes : AllByRecursion IsExtension others
  pub ascii : IsAscii text

pub cut : (text : List ℕ) (es : List Extension) → AreExtensionsOf text es → Cut text es
cut text [] h = absurd (omega (arith, h.some))
cut text (e ∷ es) h =
    let s = e.singleton ∷ [] in
    let rest = e.content ++ flat_map extension_pieces es in
    let clean : AreClean (s ∷ rest) = runs-clean (e ∷ es) h.shapes in
    let whole : text ≡ s ++ dashed rest = h.text_is ∙ joined-dashed s rest in record {
      first = e;
      others = es;
      are = refl;
      pieces_are = ap pieces whole
          ∙ pieces-dashed s rest (first-clean s rest clean) (rest-clean s rest clean);
      front_is =
          ap (λ g. g.front)
          (grouped-content e.content (flat_map extension_pieces es) h.shapes.0.content)
          ∙ ap (λ qs. e.content ++ qs) (ap (λ g. g.front) (grouped-runs es h.shapes.1))
          ∙ append-nil e.content;
      text_is = whole ∙ ap (λ t. s ++ t) (dashed-append e.content (flat_map extension_pieces es));
      some = h.shapes.0.some;
      shapes = h.shapes.1;
      ascii = subst IsAscii (sym whole)
          (IsAscii-append s (dashed rest) (clean-ascii s (first-clean s rest clean))
          (dashed-ascii rest (rest-clean s rest clean)));
    }

-- ---- the steps of the iterator

module _ (rest : Option (Bor (List ℕ))) (text : Bor (List ℕ))
    (inv : IsExtensionsText (option_copied rest)) (was : Some text ≡ rest)
    (all ps : List (List ℕ)) (first : List ℕ) (split : all ≡ first ∷ ps)
    (are : all ≡ pieces text.now) where
  abbrev t : List ℕ
  t = text.now

  pub the_cut : Cut t (extensions_in (option_copied rest))
  the_cut =
      subst (λ o. Cut t (extensions_in (option_copied o))) was
      (cut t (extensions_in (Some t))
      (subst (λ o. IsExtensionsText (option_copied o)) (sym was) inv))

  abbrev s : List ℕ
  s = the_cut.first.singleton ∷ []

  abbrev content : List (List ℕ)
  content = the_cut.first.content

  abbrev pub others : List Extension
  others = the_cut.others

  abbrev back : List (List ℕ)
  back = flat_map extension_pieces others

  both : first ∷ ps ≡ s ∷ (content ++ back)
  both = sym split ∙ are ∙ the_cut.pieces_are

  first-is : first ≡ s
  first-is = let b = both in cc

  ps-are : ps ≡ content ++ back
  ps-are = let b = both in cc

  whole-length : length t ≡ 1 + (length (dashed content) + length (dashed back))
  whole-length =
      omega (arith, ap length the_cut.text_is, length-append (dashed content) (dashed back))

  pub text-ascii : IsAscii t
  text-ascii = the_cut.ascii

  pub pieces-within : length (dashed ps) < length t
  pieces-within =
      omega (
        arith,
        whole-length,
        ap (λ qs. length (dashed qs)) ps-are,
        ap length (dashed-append content back),
        length-append (dashed content) (dashed back),
      )

  pub first-byte : slice_index t 0 ≡ the_cut.first.singleton
  first-byte = ap (λ u. slice_index u 0) the_cut.text_is

  module _ (n : ℕ) (n_is : n ≡ length (dashed (grouped ps).front)) where
    content-length : n ≡ length (dashed content)
    content-length = n_is ∙ ap (λ qs. length (dashed (grouped qs).front)) ps-are
        ∙ ap (λ qs. length (dashed qs)) the_cut.front_is

    pub end-within : length first + n ≤ length t
    end-within = omega (arith, whole-length, content-length, ap length first-is)

    pub rest-text : (o : Option (List ℕ))
        → ((qs : List (List ℕ)) → between (length first + n) (length t) t ≡ dashed qs
        → o ≡ part_text qs)
        → o ≡ part_text back
    rest-text o f =
        f back (take_rest t (length first + n) ∙ ap (drop (length first + n)) the_cut.text_is
        ∙ drop_at (s ++ dashed content) (dashed back) (length first + n)
        (omega (arith, content-length, ap length first-is)))

    pub rest-kept : (o : Option (List ℕ))
        → ((qs : List (List ℕ)) → between (length first + n) (length t) t ≡ dashed qs
        → o ≡ part_text qs)
        → IsExtensionsText o
    rest-kept o f = extensions-text-kept others o the_cut.shapes (rest-text o f)

    pub rest-view : (o : Option (List ℕ))
        → ((qs : List (List ℕ)) → between (length first + n) (length t) t ≡ dashed qs
        → o ≡ part_text qs)
        → extensions_in o ≡ others
    rest-view o f = extensions-text-is others o the_cut.shapes (rest-text o f)

    pub content-text : (o : Option (List ℕ))
        → ((qs : List (List ℕ)) → between (length first) (length first + n) t ≡ dashed qs
        → o ≡ part_text qs)
        → o ≡ Some (joined content)
    content-text o f =
        f content (ap (between (length first) (length first + n)) the_cut.text_is
        ∙ between-middle s (dashed content) (dashed back) (length first) (length first + n)
        (ap length first-is)
        (omega (arith, content-length)))
        ∙ by content the_cut.some
      where
        by : (qs : List (List ℕ)) → 1 ≤ length qs → part_text qs ≡ Some (joined qs)
        by [] h = absurd (omega arith)
        by (q ∷ qs) h = refl
