-- What a kept tag says of its parts.
use Rattle.std.proofs.Common.{Bor, ◌≡◌, ℕ, ◌+◌, ◌<◌, ◌≤◌, Bool, true, false, not, cond, List, []}
use Rattle.std.proofs.Common.{◌∷◌, ◌++◌, Option, Some, None, length, take, drop, refl, sym, ap, ◌∙◌}
use Rattle.std.proofs.Common.{arith, append_assoc, length-append, subst, map}
use Rattle.std.specs.Prelude.{MatchOption, codes, is_none, is_some, nat_eq}
use Rattle.std.proofs.lemmas.List.Splits.{join_with_byte-slice_split}
use Rattle.language_tags_grammar.specs.Lemmas.Unique.{same_pieces}
use Rattle.std.specs.List.{flat_map, list_all, starts_with}
use Rattle.std.specs.Str.{IsAscii}
use Rattle.std.proofs.lemmas.List.{take_at, take_rest}
use Rattle.std.specs.Char.{is_ascii_alphanumeric}
use Rattle.std.specs.Option.{option_copied}
use Rattle.std.specs.Str.Pattern.{FindsTextPrefix}
use Rattle.language_tags.specs.Equality.{IsRange}
use Rattle.language_tags_grammar.specs.Kept.{IsKept, KeepsParts, between, parts_at, tag_at}
use Rattle.language_tags_grammar.specs.Pieces.{dashed, joined, lowercase, part_text, pieces}
use Rattle.language_tags_grammar.specs.Pieces.{pieces_of}
use Rattle.language_tags_grammar.specs.Shapes.{is_extlang, is_private, is_variant}
use Rattle.language_tags_grammar.specs.Tag.{Extension, Parts, Tag, Whole, Plain, at_most_one}
use Rattle.language_tags_grammar.specs.Tag.{extension_pieces, extensions_of, extlangs_of, front_of}
use Rattle.language_tags_grammar.specs.Tag.{full_language_of, language_of, print, private_of}
use Rattle.language_tags_grammar.specs.Tag.{private_pieces, region_of, script_of, variants_of}
use Rattle.language_tags_grammar.specs.declared.ends.Ends.{Ends}
use Rattle.language_tags_grammar.specs.Lemmas.ScannedText.{begins-x, first-clean, rest-clean}
use Rattle.language_tags_grammar.specs.Lemmas.KeptLaws.{AreClean, E, P, R, S, T, V, X}
use Rattle.language_tags_grammar.specs.Lemmas.KeptLaws.{at-extensions, at-extlangs, at-language}
use Rattle.language_tags_grammar.specs.Lemmas.KeptLaws.{at-private, at-region, at-script}
use Rattle.language_tags_grammar.specs.Lemmas.KeptLaws.{at-variants, dashed-append, each-clean}
use Rattle.language_tags_grammar.specs.Lemmas.KeptLaws.{joined-dashed, pieces-dashed, pieces-print}
use Rattle.language_tags_grammar.specs.Lemmas.KeptLaws.{print-ascii, smalls-clean, text-parts}
use Rattle.language_tags_grammar.specs.Lemmas.PartsLaws.{extlang-small, private-small}
use Rattle.language_tags_grammar.specs.Lemmas.PartsLaws.{variant-small}
use Rattle.language_tags_grammar.specs.Lemmas.PieceLaws.{some_piece}

module _ (o : Option Ends) (text t : List ℕ) (ends : Ends) (g : Tag) (inv : IsKept o text)
    (is : o ≡ Some ends) (same : t ≡ text)
    (view : tag_at o text ≡ g) where
  abbrev p : Parts
  p = parts_at ends text

  kept : KeepsParts text ends p
  kept = subst (λ q. IsKept q text) is inv

  tag_is : Plain p ≡ g
  tag_is = ap (λ q. tag_at q text) (sym is) ∙ view

  text_is : t ≡ T p ends kept.ends_are
  text_is = same ∙ kept.text_is ∙ text-parts p

  pub kept-ascii : IsAscii t
  kept-ascii = subst IsAscii (sym (same ∙ kept.text_is)) (print-ascii p kept.shapes)

  pub kept-within : ends.extension ≤ length t
  kept-within =
      let at = kept.ends_are in
      omega (
        arith,
        ap length text_is,
        at.language,
        at.extlang,
        at.script,
        at.region,
        at.variant,
        at.extension,
        length-append p.language (E p ++ (S p ++ (R p ++ (V p ++ (X p ++ P p))))),
        length-append (E p) (S p ++ (R p ++ (V p ++ (X p ++ P p)))),
        length-append (S p) (R p ++ (V p ++ (X p ++ P p))),
        length-append (R p) (V p ++ (X p ++ P p)),
        length-append (V p) (X p ++ P p),
        length-append (X p) (P p),
      )

  pub language-extlang : ends.language ≤ ends.extlang
  language-extlang = omega (arith, kept.ends_are.extlang)

  pub extlang-script : ends.extlang ≤ ends.script
  extlang-script = omega (arith, kept.ends_are.script)

  pub script-region : ends.script ≤ ends.region
  script-region = omega (arith, kept.ends_are.region)

  pub region-variant : ends.region ≤ ends.variant
  region-variant = omega (arith, kept.ends_are.variant)

  pub variant-extension : ends.variant ≤ ends.extension
  variant-extension = omega (arith, kept.ends_are.extension)

  pub language-text : take ends.language t ≡ language_of g
  language-text = ap (take ends.language) text_is ∙ at-language p ends kept.ends_are
      ∙ ap language_of tag_is

  pub full_language-text : take ends.extlang t ≡ full_language_of g
  full_language-text =
      let at = kept.ends_are in
      ap (take ends.extlang)
      (text_is ∙ sym (append_assoc p.language (E p) (S p ++ (R p ++ (V p ++ (X p ++ P p))))))
      ∙ take_at (p.language ++ E p) _ ends.extlang
      (sym (omega (arith, at.language, at.extlang, length-append p.language (E p))))
      ∙ sym (joined-dashed p.language p.extlangs)
      ∙ ap full_language_of tag_is

  pub front-text : take ends.variant t ≡ front_of g
  front-text =
      let at = kept.ends_are in
      ap (take ends.variant) (text_is ∙ regroup p.language (E p) (S p) (R p) (V p) (X p ++ P p))
      ∙ take_at (p.language ++ (E p ++ (S p ++ (R p ++ V p)))) (X p ++ P p) ends.variant
      (sym (omega (
        arith,
        at.language,
        at.extlang,
        at.script,
        at.region,
        at.variant,
        length-append p.language (E p ++ (S p ++ (R p ++ V p))),
        length-append (E p) (S p ++ (R p ++ V p)),
        length-append (S p) (R p ++ V p),
        length-append (R p) (V p),
      )))
      ∙ sym
      (joined-dashed p.language
      (p.extlangs ++ (at_most_one p.script ++ (at_most_one p.region ++ p.variants)))
      ∙ ap (λ q. p.language ++ q)
      (dashed-append p.extlangs (at_most_one p.script ++ (at_most_one p.region ++ p.variants))
      ∙ ap (λ q. E p ++ q)
      (dashed-append (at_most_one p.script) (at_most_one p.region ++ p.variants)
      ∙ ap (λ q. S p ++ q) (dashed-append (at_most_one p.region) p.variants))))
      ∙ ap front_of tag_is
    where
      regroup : (a b c d e f : List ℕ)
          → a ++ (b ++ (c ++ (d ++ (e ++ f)))) ≡ (a ++ (b ++ (c ++ (d ++ e)))) ++ f
      regroup a b c d e f = simp append_assoc

  -- the text of a part, where it is that of the pieces between two places
  module _ (r : Option (List ℕ)) where
    pub extlangs-text : ((ps : List (List ℕ)) → between ends.language ends.extlang t ≡ dashed ps
        → r ≡ part_text ps)
        → r ≡ part_text (extlangs_of g)
    extlangs-text f =
        f p.extlangs
        (ap (between ends.language ends.extlang) text_is ∙ at-extlangs p ends kept.ends_are)
        ∙ ap (λ h. part_text (extlangs_of h)) tag_is

    pub script-text : ((ps : List (List ℕ)) → between ends.extlang ends.script t ≡ dashed ps
        → r ≡ part_text ps)
        → r ≡ part_text (at_most_one (script_of g))
    script-text f =
        f (at_most_one p.script)
        (ap (between ends.extlang ends.script) text_is ∙ at-script p ends kept.ends_are)
        ∙ ap (λ h. part_text (at_most_one (script_of h))) tag_is

    pub region-text : ((ps : List (List ℕ)) → between ends.script ends.region t ≡ dashed ps
        → r ≡ part_text ps)
        → r ≡ part_text (at_most_one (region_of g))
    region-text f =
        f (at_most_one p.region)
        (ap (between ends.script ends.region) text_is ∙ at-region p ends kept.ends_are)
        ∙ ap (λ h. part_text (at_most_one (region_of h))) tag_is

    pub variants-text : ((ps : List (List ℕ)) → between ends.region ends.variant t ≡ dashed ps
        → r ≡ part_text ps)
        → r ≡ part_text (variants_of g)
    variants-text f =
        f p.variants
        (ap (between ends.region ends.variant) text_is ∙ at-variants p ends kept.ends_are)
        ∙ ap (λ h. part_text (variants_of h)) tag_is

    pub extensions-text : ((ps : List (List ℕ)) → between ends.variant ends.extension t ≡ dashed ps
        → r ≡ part_text ps)
        → r ≡ part_text (flat_map extension_pieces (extensions_of g))
    extensions-text f =
        f (flat_map extension_pieces p.extensions)
        (ap (between ends.variant ends.extension) text_is ∙ at-extensions p ends kept.ends_are)
        ∙ ap (λ h. part_text (flat_map extension_pieces (extensions_of h))) tag_is

module _ (o : Option Ends) (text t : List ℕ) (ends : Ends) (g : Tag) (inv : IsKept o text)
    (is : o ≡ Some ends) (same : t ≡ text)
    (view : tag_at o text ≡ g) where
  pub private-text : (r : Option (List ℕ))
      → ((ps : List (List ℕ)) → between ends.extension (length t) t ≡ dashed ps → r ≡ part_text ps)
      → r ≡ part_text (private_pieces (private_of g))
  private-text r f =
      let k = kept o text t ends g inv is same view in
      let q = parts_at ends text in
      f (private_pieces q.private)
      (take_rest t ends.extension
      ∙ ap (drop ends.extension) (text_is o text t ends g inv is same view)
      ∙ at-private q ends k.ends_are)
      ∙ ap (λ h. part_text (private_pieces (private_of h)))
      (tag_is o text t ends g inv is same view)

joined-x : (ps : List (List ℕ)) → 0 < length ps
    → part_text (private_pieces ps) ≡ Some (codes "x-" ++ joined ps)
joined-x [] h = absurd (omega arith)
joined-x (p ∷ ps) h = refl

module _ (text t : List ℕ) (g : Tag) (view : Whole text ≡ g) (same : t ≡ text) where
  pub whole-private : starts_with nat_eq t (codes "x-") ≡ true
      → Some t ≡ part_text (private_pieces (private_of g))
  whole-private e =
      sym (joined-x (pieces (drop 2 t)) (some_piece (drop 2 t))
      ∙ ap (λ q. Some (codes "x-" ++ q)) (join_with_byte-slice_split 45 (drop 2 t))
      ∙ ap Some (begins-x t e))
      ∙ ap (λ b. part_text (private_pieces (cond b (pieces (drop 2 t)) []))) (sym e)
      ∙ ap (λ q. part_text (private_pieces (private_of (Whole q)))) same
      ∙ ap (λ h. part_text (private_pieces (private_of h))) view

  pub whole-none : starts_with nat_eq t (codes "x-") ≡ false
      → None ≡ part_text (private_pieces (private_of g))
  whole-none e =
      ap (λ b. part_text (private_pieces (cond b (pieces (drop 2 t)) []))) (sym e)
      ∙ ap (λ q. part_text (private_pieces (private_of (Whole q)))) same
      ∙ ap (λ h. part_text (private_pieces (private_of h))) view

-- ---- equal tags

pub tags_equal : (o q : Option Ends) (s t : List ℕ) (g h : Tag) → IsKept o s → IsKept q t
    → tag_at o s ≡ g → tag_at q t ≡ h
    → is_none o ≡ is_none q → print g ≡ print h → g ≡ h
tags_equal None None s t g h a b e f kind same =
    sym e ∙ ap Whole (ap print e ∙ same ∙ sym (ap print f)) ∙ f
tags_equal None (Some ends) s t g h a b e f kind same = cc
tags_equal (Some ends) None s t g h a b e f kind same = cc
tags_equal (Some ends) (Some others) s t g h a b e f kind same =
    let p = parts_at ends s in
    let r = parts_at others t in
    sym e
    ∙ ap Plain (same_pieces p r a.shapes b.shapes (ap (map lowercase)
    (sym (pieces-print p a.shapes) ∙ ap pieces (ap print e ∙ same ∙ sym (ap print f))
    ∙ pieces-print r b.shapes)))
    ∙ f

-- ---- the text of a tag is ASCII

pub kept-text : (o : Option Ends) (text t : List ℕ) → IsKept o text → t ≡ text → IsAscii t
kept-text None text t h e = subst IsAscii (sym e) h
kept-text (Some ends) text t h e =
    subst IsAscii (sym (e ∙ h.text_is)) (print-ascii (parts_at ends text) h.shapes)

pub extlangs-clean : (o : Option Ends) (text : List ℕ) (g : Tag) → IsKept o text → tag_at o text ≡ g
    → AreClean (extlangs_of g)
extlangs-clean None text g h e =
    ap (λ q. list_all (list_all is_ascii_alphanumeric) (extlangs_of q)) (sym e)
extlangs-clean (Some ends) text g h e =
    ap (λ q. list_all (list_all is_ascii_alphanumeric) (extlangs_of q)) (sym e)
    ∙ each-clean is_extlang (λ x f. smalls-clean x (extlang-small x f))
    (parts_at ends text).extlangs h.shapes.extlangs

pub variants-clean : (o : Option Ends) (text : List ℕ) (g : Tag) → IsKept o text → tag_at o text ≡ g
    → AreClean (variants_of g)
variants-clean None text g h e =
    ap (λ q. list_all (list_all is_ascii_alphanumeric) (variants_of q)) (sym e)
variants-clean (Some ends) text g h e =
    ap (λ q. list_all (list_all is_ascii_alphanumeric) (variants_of q)) (sym e)
    ∙ each-clean is_variant (λ x f. smalls-clean x (variant-small x f))
    (parts_at ends text).variants h.shapes.variants

-- ---- ranges

pub no_pieces : (r : Option (Bor (List ℕ))) (b : Bool) (ps : List (List ℕ))
    → option_copied r ≡ part_text ps → not b ≡ is_some r
    → b ≡ true → ps ≡ []
no_pieces r b [] e h known = refl
no_pieces None b (x ∷ ps) e h known = cc
no_pieces (Some y) b (x ∷ ps) e h known = let clash : false ≡ true = ap not (sym known) ∙ h in cc

pub no_text : (r : Option (Bor (List ℕ))) (b : Bool) (ps : List (List ℕ))
    → option_copied r ≡ part_text ps → not b ≡ is_some r
    → ps ≡ [] → b ≡ true
no_text None true ps e h none = refl
no_text None false ps e h none = cc
no_text (Some y) b [] e h none = cc
no_text (Some y) b (x ∷ ps) e h none = cc

no_extensions : (es : List Extension) → flat_map extension_pieces es ≡ [] → es ≡ []
no_extensions [] e = refl
no_extensions (x ∷ es) e = cc

no_private : (ps : List (List ℕ)) → private_pieces ps ≡ [] → ps ≡ []
no_private [] e = refl
no_private (x ∷ ps) e = cc

pub range_is : (g : Tag) → flat_map extension_pieces (extensions_of g) ≡ []
    → private_pieces (private_of g) ≡ [] → IsRange g
range_is g a b =
    record { extensions = no_extensions (extensions_of g) a; private = no_private (private_of g) b }

-- ---- the pieces behind the x

pub private-cut : (o : Option Ends) (text : List ℕ) (g : Tag) → IsKept o text → tag_at o text ≡ g
    → 0 < length (private_of g) → pieces (joined (private_of g)) ≡ private_of g
private-cut None text g h e some =
    subst (λ (q : Tag). pieces (joined (private_of q)) ≡ private_of q) e
    (by (starts_with nat_eq text (codes "x-"))
    (subst (λ q. 0 < length (private_of q)) (sym e) some))
  where
    by : (b : Bool) → 0 < length (cond b (pieces (drop 2 text)) [])
        → pieces (joined (cond b (pieces (drop 2 text)) [])) ≡ cond b (pieces (drop 2 text)) []
    by true some = ap pieces (join_with_byte-slice_split 45 (drop 2 text))
    by false some = absurd (omega arith)
private-cut (Some ends) text g h e some =
    subst (λ (q : Tag). pieces (joined (private_of q)) ≡ private_of q) e
    (by (parts_at ends text).private h.shapes.private
    (subst (λ q. 0 < length (private_of q)) (sym e) some))
  where
    by : (ps : List (List ℕ)) → list_all is_private ps ≡ true → 0 < length ps
        → pieces (joined ps) ≡ ps
    by [] f some = absurd (omega arith)
    by (x ∷ ps) f some =
        let clean = each-clean is_private (λ y k. smalls-clean y (private-small y k)) (x ∷ ps) f in
        ap pieces (joined-dashed x ps)
        ∙ pieces-dashed x ps (first-clean x ps clean) (rest-clean x ps clean)

abbrev pub IsStripped : List ℕ → Option (Bor (List ℕ)) → Type 0
IsStripped text r =
    MatchOption r (FindsTextPrefix (codes "x-") text None)
    (λ x. (n : ℕ) × FindsTextPrefix (codes "x-") text (Some n) × (x.now ≡ drop n text)
    × (length x.now + n ≡ length text))

pub private-rest : (ps : List (List ℕ)) (text : List ℕ) (r : Option (Bor (List ℕ)))
    → Some text ≡ part_text (private_pieces ps)
    → (0 < length ps → pieces (joined ps) ≡ ps) → IsStripped text r
    → pieces_of (option_copied r) ≡ ps
private-rest [] text r e cut h = cc
private-rest (p ∷ ps) text None e cut h =
    let is : text ≡ codes "x-" ++ joined (p ∷ ps) = cc in absurd (h (joined (p ∷ ps)) is)
private-rest (p ∷ ps) text (Some x) e cut h =
    let is : text ≡ codes "x-" ++ joined (p ∷ ps) = cc in
    ap pieces (h.2 ∙ ap (λ n. drop n text) h.1.0 ∙ ap (drop 2) is) ∙ cut (omega arith)
