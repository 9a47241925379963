-- A text has one tag, and a tag's text has that tag.
use Rattle.std.proofs.Common.{◌≡◌, ℕ, Bool, true, false, List, [], ◌∷◌, ◌++◌, Option, Some, None}
use Rattle.std.proofs.Common.{Result, Ok, Err, refl, sym, ap, ◌∙◌, cond, arith, map, drop}
use Rattle.std.specs.Prelude.{IfSome, IsTrue}
use Rattle.std.specs.Char.{to_ascii_lowercase}
use Rattle.std.specs.List.{find}
use Rattle.std.specs.Option.{option_map}
use Rattle.std.specs.Str.{byte, bytes_eq}
use Rattle.std.proofs.lemmas.Bool.Decides.{nat_tests}
use Rattle.std.proofs.lemmas.List.{map-append}
use Rattle.std.proofs.lemmas.List.Splits.{join_with_byte-slice_split}
use Rattle.std.proofs.lemmas.Slice.Eq.{bytes_eq-Decides}
use Rattle.language_tags_grammar.specs.Grandfathered.{grandfathered, grandfathereds}
use Rattle.language_tags_grammar.specs.Kept.{first_piece, grouped}
use Rattle.language_tags_grammar.specs.Pieces.{joined, lowercase, pieces, titlecase, uppercase}
use Rattle.language_tags_grammar.specs.Shapes.{AreParts, is_region, is_script}
use Rattle.language_tags_grammar.specs.Tag.{Parts, Tag, Whole, Plain, at_most_one, print}
use Rattle.language_tags_grammar.specs.Tag.{private_pieces, written}
use Rattle.language_tags_grammar.specs.TagOf.{IsLangtag, IsTagOf, langtag, private_use, whole}
use Rattle.language_tags_grammar.specs.declared.error.ParseError.{ParseError}
use Rattle.language_tags_grammar.specs.declared.stage.Stage.{Stage}
use Rattle.language_tags_grammar.specs.declared.stage.Stage.TheVariants.{Start}
use Rattle.language_tags_grammar.specs.Lemmas.Flat.{Flat, nothing}
use Rattle.language_tags_grammar.specs.Lemmas.Forward.{run}
use Rattle.language_tags_grammar.specs.Lemmas.Grammar.{parts_passed}
use Rattle.language_tags_grammar.specs.Lemmas.KeptLaws.{grouped-runs}
use Rattle.language_tags_grammar.specs.Lemmas.PartsLaws.{flat, region-upper, script-title}

-- ---- parts by their sections

script-again : (o : Option (List ℕ)) → IfSome o (λ s. IsTrue (is_script s))
    → option_map titlecase (option_map lowercase o) ≡ o
script-again None h = refl
script-again (Some s) h = ap Some (script-title s h)

region-again : (o : Option (List ℕ)) → IfSome o (λ s. IsTrue (is_region s))
    → option_map uppercase (option_map lowercase o) ≡ o
region-again None h = refl
region-again (Some s) h = ap Some (region-upper s h)

first-again : (o : Option (List ℕ)) → first_piece (at_most_one o) ≡ o
first-again None = refl
first-again (Some x) = refl

private-again : (ps : List (List ℕ)) → drop 1 (private_pieces ps) ≡ ps
private-again [] = refl
private-again (x ∷ ps) = refl

abbrev name_in : List (List ℕ) → List ℕ
name_in [] = []
name_in (x ∷ ps) = x

pub same_parts : (p q : Parts) → AreParts p → AreParts q → flat p ≡ flat q → p ≡ q
same_parts p q h g e = λ i. record {
  language = ap (λ f. name_in f.language) e i;
  extlangs = ap (λ f. f.extlangs) e i;
  script =
      (sym (ap (option_map titlecase) (first-again (option_map lowercase p.script))
      ∙ script-again p.script h.script)
      ∙ ap (λ f. option_map titlecase (first_piece f.script)) e
      ∙ ap (option_map titlecase) (first-again (option_map lowercase q.script))
      ∙ script-again q.script g.script) i;
  region =
      (sym (ap (option_map uppercase) (first-again (option_map lowercase p.region))
      ∙ region-again p.region h.region)
      ∙ ap (λ f. option_map uppercase (first_piece f.region)) e
      ∙ ap (option_map uppercase) (first-again (option_map lowercase q.region))
      ∙ region-again q.region g.region) i;
  variants = ap (λ f. f.variants) e i;
  extensions = (sym (ap (λ x. x.extensions) (grouped-runs p.extensions h.extensions))
      ∙ ap (λ f. (grouped f.extension).extensions) e
      ∙ ap (λ x. x.extensions) (grouped-runs q.extensions g.extensions)) i;
  private =
      (sym (private-again p.private) ∙ ap (λ f. drop 1 f.private) e ∙ private-again q.private) i;
}

abbrev sections : Result (Stage × Flat) ParseError → Flat
sections (Ok r) = r.1
sections (Err e) = nothing

-- parts whose pieces differ by case alone are the same
pub same_pieces : (p q : Parts) → AreParts p → AreParts q
    → map lowercase (written p) ≡ map lowercase (written q) → p ≡ q
same_pieces p q h g e =
    let a = parts_passed p h in
    let b = parts_passed q g in
    same_parts p q h g (ap sections (sym a.2 ∙ ap (λ ps. run Start nothing ps) e ∙ b.2))

-- ---- case

lower-twice : (c : ℕ) → to_ascii_lowercase (to_ascii_lowercase c) ≡ to_ascii_lowercase c
lower-twice c = grind (arith, nat_tests)

pub lowercase-lowercase : (t : List ℕ) → lowercase (lowercase t) ≡ lowercase t
lowercase-lowercase [] = refl
lowercase-lowercase (c ∷ t) = λ i. lower-twice c i ∷ lowercase-lowercase t i

pub lowercase-joined : (ps : List (List ℕ)) → lowercase (joined ps) ≡ joined (map lowercase ps)
lowercase-joined [] = refl
lowercase-joined (x ∷ []) = refl
lowercase-joined (x ∷ y ∷ ps) =
    map-append to_ascii_lowercase x (byte "-" ∷ joined (y ∷ ps))
    ∙ ap (λ t. lowercase x ++ (byte "-" ∷ t)) (lowercase-joined (y ∷ ps))

pub langtag-lowercase : (text : List ℕ) (p : Parts) → IsLangtag text p
    → lowercase (joined (written p)) ≡ lowercase text
langtag-lowercase text p h =
    lowercase-joined (written p) ∙ ap joined (sym h.in_order)
    ∙ join_with_byte-slice_split 45 (lowercase text)

find-passes : (test : List ℕ → Bool) (gs : List (List ℕ)) (g : List ℕ) → find test gs ≡ Some g
    → test g ≡ true
find-passes test [] g e = cc
find-passes test (x ∷ gs) g e = by (find-passes test gs g) (test x) refl e
  where
    by : (find test gs ≡ Some g → test g ≡ true) → (b : Bool) → test x ≡ b
        → cond b (Some x) (find test gs) ≡ Some g → test g ≡ true
    by rest true passes f = let same : x ≡ g = cc in ap test (sym same) ∙ passes
    by rest false passes f = rest f

grandfathered-lowercase : (text g : List ℕ) → grandfathered text ≡ Some g
    → lowercase g ≡ lowercase text
grandfathered-lowercase text g e =
    (bytes_eq-Decides (lowercase g) (lowercase text)).0
    (find-passes (λ h. bytes_eq (lowercase h) (lowercase text)) grandfathereds g e)

grandfathered-same : (s t : List ℕ) → lowercase s ≡ lowercase t → grandfathered s ≡ grandfathered t
grandfathered-same s t e = ap (λ l. find (λ h. bytes_eq (lowercase h) l) grandfathereds) e

-- a text in another case has the same tag
pub in_other_case : (s t : List ℕ) (g : Tag) → lowercase s ≡ lowercase t → IsTagOf t g → IsTagOf s g
in_other_case s t g e (whole x h is) = whole x (grandfathered-same s t e ∙ h) is
in_other_case s t g e (private_use no_whole rest behind are is) =
    private_use (grandfathered-same s t e ∙ no_whole) rest (e ∙ behind) are (is ∙ ap Whole (sym e))
in_other_case s t g e (langtag no_whole otherwise p h is) =
    langtag (grandfathered-same s t e ∙ no_whole) (λ rest x. otherwise rest (sym e ∙ x)) p
    (record { shapes = h.shapes; in_order = ap pieces e ∙ h.in_order }) is

-- a tag's text is that of the text without its case
print-lowercase : (t : List ℕ) (g : Tag) → IsTagOf t g → lowercase (print g) ≡ lowercase t
print-lowercase t g (whole x h is) =
    ap (λ q. lowercase (print q)) is ∙ grandfathered-lowercase t x h
print-lowercase t g (private_use no_whole rest behind are is) =
    ap (λ q. lowercase (print q)) is ∙ lowercase-lowercase t
print-lowercase t g (langtag no_whole otherwise p h is) =
    ap (λ q. lowercase (print q)) is ∙ langtag-lowercase t p h

pub printed_again : (t : List ℕ) (g : Tag) → IsTagOf t g → IsTagOf (print g) g
printed_again t g h = in_other_case (print g) t g (print-lowercase t g h) h

pub one_tag : (t : List ℕ) (g h : Tag) → IsTagOf t g → IsTagOf t h → g ≡ h
one_tag t g h (whole x a is) (whole y b same) = is ∙ (let e : x ≡ y = cc in ap Whole e) ∙ sym same
one_tag t g h (whole x a is) (private_use b rest c d same) = cc
one_tag t g h (whole x a is) (langtag b c q d same) = cc
one_tag t g h (private_use a rest c d is) (whole x b same) = cc
one_tag t g h (private_use a rest c d is) (private_use b other e f same) = is ∙ sym same
one_tag t g h (private_use a rest c d is) (langtag b otherwise q e same) = absurd (otherwise rest c)
one_tag t g h (langtag a c p d is) (whole x b same) = cc
one_tag t g h (langtag a otherwise p d is) (private_use b rest c e same) = absurd (otherwise rest c)
one_tag t g h (langtag a c p d is) (langtag b e q f same) =
    is ∙ ap Plain (same_pieces p q d.shapes f.shapes (sym d.in_order ∙ f.in_order)) ∙ sym same
