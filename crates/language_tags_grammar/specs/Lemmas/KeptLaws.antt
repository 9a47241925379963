-- The text of a tag's parts, cut where the parts end, gives the parts back.
use Rattle.std.proofs.Common.{◌≡◌, ℕ, ◌+◌, ◌-◌, ◌<◌, Bool, true, false, List, [], ◌∷◌, ◌++◌, Option}
use Rattle.std.proofs.Common.{Some, None, length, take, drop, refl, sym, ap, ◌∙◌, cond, arith}
use Rattle.std.proofs.Common.{append_assoc, append-nil, length-append, subst}
use Rattle.std.specs.Prelude.{◌==◌, ◌&&◌, ◌||◌, IfSome, IsTrue}
use Rattle.std.specs.Char.{is_ascii_alphanumeric, is_ascii_digit, is_ascii_lowercase}
use Rattle.std.specs.Char.{is_ascii_uppercase}
use Rattle.std.specs.List.{AllByRecursion, flat_map, list_all, onto_first}
use Rattle.std.specs.Str.{IsAscii, byte}
use Rattle.std.proofs.lemmas.Bool.Decides.{nat_tests}
use Rattle.std.proofs.lemmas.List.{drop_at, take_at}
use Rattle.std.proofs.lemmas.Str.{IsAscii-append}
use Rattle.std.proofs.lemmas.Str.Ascii.{IsAscii-cons, IsAscii-nil}
use Rattle.language_tags_grammar.specs.Kept.{EndAt, KeepsParts, between, first_piece, grouped}
use Rattle.language_tags_grammar.specs.Kept.{part_pieces, parts_at, put}
use Rattle.language_tags_grammar.specs.Pieces.{dashed, is_dash, joined, pieces}
use Rattle.language_tags_grammar.specs.Shapes.{AreParts, IsExtension, is_content, is_extlang}
use Rattle.language_tags_grammar.specs.Shapes.{is_private, is_region, is_script, is_small}
use Rattle.language_tags_grammar.specs.Shapes.{is_variant}
use Rattle.language_tags_grammar.specs.Tag.{Extension as Run, Parts, at_most_one, behind_language}
use Rattle.language_tags_grammar.specs.Tag.{extension_pieces, private_pieces, written}
use Rattle.language_tags_grammar.specs.declared.ends.Ends.{Ends}
use Rattle.language_tags_grammar.specs.Lemmas.PartsLaws.{all-weaker, content-small, extlang-small}
use Rattle.language_tags_grammar.specs.Lemmas.PartsLaws.{language-small, private-small}
use Rattle.language_tags_grammar.specs.Lemmas.PartsLaws.{variant-small}

-- ---- joined pieces

pub joined-dashed : (x : List ℕ) (ps : List (List ℕ)) → joined (x ∷ ps) ≡ x ++ dashed ps
joined-dashed x [] = sym (append-nil x)
joined-dashed x (y ∷ ps) = ap (λ t. x ++ (byte "-" ∷ t)) (joined-dashed y ps)

pub dashed-append : (ps qs : List (List ℕ)) → dashed (ps ++ qs) ≡ dashed ps ++ dashed qs
dashed-append [] qs = refl
dashed-append (p ∷ ps) qs =
    ap (λ t. byte "-" ∷ t)
    (ap (λ t. p ++ t) (dashed-append ps qs) ∙ sym (append_assoc p (dashed ps) (dashed qs)))

-- ---- pieces without a dash

abbrev pub IsClean : List ℕ → Type 0
IsClean x = list_all is_ascii_alphanumeric x ≡ true

abbrev pub AreClean : List (List ℕ) → Type 0
AreClean ps = list_all (list_all is_ascii_alphanumeric) ps ≡ true

no-dash : (c : ℕ) → is_ascii_alphanumeric c ≡ true → is_dash c ≡ false
no-dash c e = grind (arith, nat_tests)

cut_dash : (x t : List ℕ) → IsClean x → pieces (x ++ (byte "-" ∷ t)) ≡ x ∷ pieces t
cut_dash [] t e = refl
cut_dash (c ∷ x) t e =
    let head : is_ascii_alphanumeric c ≡ true = grind (arith, nat_tests) in
    let tail : IsClean x = grind (arith, nat_tests) in
    ap
    (λ b. cond b ([] ∷ pieces (x ++ (byte "-" ∷ t)))
    (onto_first c (pieces (x ++ (byte "-" ∷ t))))) (no-dash c head)
    ∙ ap (onto_first c) (cut_dash x t tail)

one_piece : (x : List ℕ) → IsClean x → pieces x ≡ x ∷ []
one_piece [] e = refl
one_piece (c ∷ x) e =
    let head : is_ascii_alphanumeric c ≡ true = grind (arith, nat_tests) in
    let tail : IsClean x = grind (arith, nat_tests) in
    ap (λ b. cond b ([] ∷ pieces x) (onto_first c (pieces x))) (no-dash c head)
    ∙ ap (onto_first c) (one_piece x tail)

pub pieces-dashed : (x : List ℕ) (ps : List (List ℕ)) → IsClean x → AreClean ps
    → pieces (x ++ dashed ps) ≡ x ∷ ps
pieces-dashed x [] e h = ap pieces (append-nil x) ∙ one_piece x e
pieces-dashed x (y ∷ ps) e h =
    let head : IsClean y = grind (arith, nat_tests) in
    let tail : AreClean ps = grind (arith, nat_tests) in
    cut_dash x (y ++ dashed ps) e ∙ ap (λ qs. x ∷ qs) (pieces-dashed y ps head tail)

pub part_pieces-dashed : (ps : List (List ℕ)) → AreClean ps → part_pieces (dashed ps) ≡ ps
part_pieces-dashed [] h = refl
part_pieces-dashed (x ∷ ps) h =
    let head : IsClean x = grind (arith, nat_tests) in
    let tail : AreClean ps = grind (arith, nat_tests) in
    pieces-dashed x ps head tail

-- ---- the pieces of parts have none

small-clean : (c : ℕ) → is_small c ≡ true → is_ascii_alphanumeric c ≡ true
small-clean c e = grind (arith, nat_tests)

pub smalls-clean : (x : List ℕ) → list_all is_small x ≡ true → IsClean x
smalls-clean = all-weaker is_small is_ascii_alphanumeric small-clean

upper-clean : (c : ℕ) → is_ascii_uppercase c ≡ true → is_ascii_alphanumeric c ≡ true
upper-clean c e = grind (arith, nat_tests)

lower-clean : (c : ℕ) → is_ascii_lowercase c ≡ true → is_ascii_alphanumeric c ≡ true
lower-clean c e = grind (arith, nat_tests)

digit-clean : (c : ℕ) → is_ascii_digit c ≡ true → is_ascii_alphanumeric c ≡ true
digit-clean c e = grind (arith, nat_tests)

module _ (test : List ℕ → Bool) (clean : (x : List ℕ) → test x ≡ true → IsClean x) where
  pub each-clean : (ps : List (List ℕ)) → list_all test ps ≡ true → AreClean ps
  each-clean [] e = refl
  each-clean (x ∷ ps) e =
      let head : test x ≡ true = grind (arith, nat_tests) in
      let tail : list_all test ps ≡ true = grind (arith, nat_tests) in
      λ i. clean x head i && each-clean ps tail i

  pub one-clean : (o : Option (List ℕ)) → IfSome o (λ x. IsTrue (test x)) → AreClean (at_most_one o)
  one-clean None h = refl
  one-clean (Some x) h = λ i. clean x h i && true

pub clean-append : (ps qs : List (List ℕ)) → AreClean ps → AreClean qs → AreClean (ps ++ qs)
clean-append [] qs e h = h
clean-append (x ∷ ps) qs e h =
    let head : IsClean x = grind (arith, nat_tests) in
    let tail : AreClean ps = grind (arith, nat_tests) in
    λ i. head i && clean-append ps qs tail h i

pub script-clean : (x : List ℕ) → is_script x ≡ true → IsClean x
script-clean [] e = refl
script-clean (c ∷ x) e =
    let first : is_ascii_uppercase c ≡ true = grind (arith, nat_tests) in
    let rest : list_all is_ascii_lowercase x ≡ true = grind (arith, nat_tests) in
    λ i. upper-clean c first i
    && all-weaker is_ascii_lowercase is_ascii_alphanumeric lower-clean x rest i

pub region-clean : (x : List ℕ) → is_region x ≡ true → IsClean x
region-clean x e =
    by (length x == 2) (list_all is_ascii_uppercase x) (length x == 3)
    (list_all is_ascii_digit x) refl refl e
  where
    by : (a b c d : Bool) → list_all is_ascii_uppercase x ≡ b → list_all is_ascii_digit x ≡ d
        → ((a && b) || (c && d)) ≡ true → IsClean x
    by true true c d g h e = all-weaker is_ascii_uppercase is_ascii_alphanumeric upper-clean x g
    by true false true true g h e = all-weaker is_ascii_digit is_ascii_alphanumeric digit-clean x h
    by true false true false g h e = cc
    by true false false d g h e = cc
    by false b true true g h e = all-weaker is_ascii_digit is_ascii_alphanumeric digit-clean x h
    by false b true false g h e = cc
    by false b false d g h e = cc

pub runs-clean : (rs : List Run) → AllByRecursion IsExtension rs
    → AreClean (flat_map extension_pieces rs)
runs-clean [] h = refl
runs-clean (r ∷ rs) h =
    let small : is_small r.singleton ≡ true = grind (arith, nat_tests, h.0.singleton) in
    let first : IsClean (r.singleton ∷ []) = λ i. small-clean r.singleton small i && true in
    let content =
    each-clean is_content (λ x e. smalls-clean x (content-small x e)) r.content h.0.content in
    λ i. first i
    && clean-append r.content (flat_map extension_pieces rs) content (runs-clean rs h.1) i

pub private-clean : (ps : List (List ℕ)) → list_all is_private ps ≡ true
    → AreClean (private_pieces ps)
private-clean [] e = refl
private-clean (x ∷ ps) e =
    each-clean is_private (λ y h. smalls-clean y (private-small y h)) (x ∷ ps) e

-- ---- extensions

pub grouped-content : (xs ps : List (List ℕ)) → list_all is_content xs ≡ true
    → grouped (xs ++ ps)
    ≡ record { front = xs ++ (grouped ps).front; extensions = (grouped ps).extensions }
grouped-content [] ps e = refl
grouped-content ([] ∷ xs) ps e = absurd (grind (arith, nat_tests))
grouped-content ((c ∷ []) ∷ xs) ps e = absurd (grind (arith, nat_tests))
grouped-content ((c ∷ d ∷ x) ∷ xs) ps e =
    let tail : list_all is_content xs ≡ true = grind (arith, nat_tests) in
    ap (put (c ∷ d ∷ x)) (grouped-content xs ps tail)

pub grouped-runs : (rs : List Run) → AllByRecursion IsExtension rs
    → grouped (flat_map extension_pieces rs) ≡ record { front = []; extensions = rs }
grouped-runs [] h = refl
grouped-runs (r ∷ rs) h =
    ap (put (r.singleton ∷ []))
    (grouped-content r.content (flat_map extension_pieces rs) h.0.content
    ∙ (λ i. record {
      front = r.content ++ (grouped-runs rs h.1 i).front;
      extensions = (grouped-runs rs h.1 i).extensions;
    }))
    ∙ (λ i. record {
      front = [];
      extensions = record { singleton = r.singleton; content = append-nil r.content i } ∷ rs;
    })

-- ---- the text

pub between-middle : (a b c : List ℕ) (from to : ℕ) → from ≡ length a → to ≡ from + length b
    → between from to (a ++ (b ++ c)) ≡ b
between-middle a b c from to e g =
    ap (take (to - from)) (drop_at a (b ++ c) from (sym e)) ∙ take_at b c (to - from) (omega arith)

module _ (p : Parts) where
  abbrev pub E : List ℕ
  E = dashed p.extlangs

  abbrev pub S : List ℕ
  S = dashed (at_most_one p.script)

  abbrev pub R : List ℕ
  R = dashed (at_most_one p.region)

  abbrev pub V : List ℕ
  V = dashed p.variants

  abbrev pub X : List ℕ
  X = dashed (flat_map extension_pieces p.extensions)

  abbrev pub P : List ℕ
  P = dashed (private_pieces p.private)

  -- the text, part by part
  pub text-parts : joined (written p) ≡ p.language ++ (E ++ (S ++ (R ++ (V ++ (X ++ P)))))
  text-parts =
      joined-dashed p.language (behind_language p)
      ∙ ap (λ t. p.language ++ t) (dashed-append p.extlangs _
      ∙ ap (λ t. E ++ t) (dashed-append (at_most_one p.script) _
      ∙ ap (λ t. S ++ t) (dashed-append (at_most_one p.region) _
      ∙ ap (λ t. R ++ t) (dashed-append p.variants _
      ∙ ap (λ t. V ++ t)
      (dashed-append (flat_map extension_pieces p.extensions) (private_pieces p.private))))))

  module _ (ends : Ends) (at : EndAt p ends) where
    abbrev pub T : List ℕ
    T = p.language ++ (E ++ (S ++ (R ++ (V ++ (X ++ P)))))

    pub at-language : take ends.language T ≡ p.language
    at-language = take_at p.language _ ends.language (sym at.language)

    pub at-extlangs : between ends.language ends.extlang T ≡ E
    at-extlangs = between-middle p.language E _ ends.language ends.extlang at.language at.extlang

    pub at-script : between ends.extlang ends.script T ≡ S
    at-script =
        ap (between ends.extlang ends.script)
        (sym (append_assoc p.language E (S ++ (R ++ (V ++ (X ++ P))))))
        ∙ between-middle (p.language ++ E) S (R ++ (V ++ (X ++ P))) ends.extlang ends.script
        (omega (arith, at.language, at.extlang, length-append p.language E)) at.script

    pub at-region : between ends.script ends.region T ≡ R
    at-region =
        ap (between ends.script ends.region) (simp append_assoc)
        ∙ between-middle ((p.language ++ E) ++ S) R (V ++ (X ++ P)) ends.script ends.region
        (omega (
          arith,
          at.language,
          at.extlang,
          at.script,
          length-append p.language E,
          length-append (p.language ++ E) S,
        )) at.region

    pub at-variants : between ends.region ends.variant T ≡ V
    at-variants =
        ap (between ends.region ends.variant) (simp append_assoc)
        ∙ between-middle (((p.language ++ E) ++ S) ++ R) V (X ++ P) ends.region ends.variant
        (omega (
          arith,
          at.language,
          at.extlang,
          at.script,
          at.region,
          length-append p.language E,
          length-append (p.language ++ E) S,
          length-append ((p.language ++ E) ++ S) R,
        )) at.variant

    pub at-extensions : between ends.variant ends.extension T ≡ X
    at-extensions =
        ap (between ends.variant ends.extension) (simp append_assoc)
        ∙ between-middle ((((p.language ++ E) ++ S) ++ R) ++ V) X P ends.variant ends.extension
        (omega (
          arith,
          at.language,
          at.extlang,
          at.script,
          at.region,
          at.variant,
          length-append p.language E,
          length-append (p.language ++ E) S,
          length-append ((p.language ++ E) ++ S) R,
          length-append (((p.language ++ E) ++ S) ++ R) V,
        )) at.extension

    pub at-private : drop ends.extension T ≡ P
    at-private =
        ap (drop ends.extension) (simp append_assoc)
        ∙ drop_at (((((p.language ++ E) ++ S) ++ R) ++ V) ++ X) P ends.extension
        (omega (
          arith,
          at.language,
          at.extlang,
          at.script,
          at.region,
          at.variant,
          at.extension,
          length-append p.language E,
          length-append (p.language ++ E) S,
          length-append ((p.language ++ E) ++ S) R,
          length-append (((p.language ++ E) ++ S) ++ R) V,
          length-append ((((p.language ++ E) ++ S) ++ R) ++ V) X,
        ))

    first-one : (o : Option (List ℕ)) → first_piece (at_most_one o) ≡ o
    first-one None = refl
    first-one (Some x) = refl

    drop-private : (ps : List (List ℕ)) → drop 1 (private_pieces ps) ≡ ps
    drop-private [] = refl
    drop-private (x ∷ ps) = refl

    pub parts_at-text : AreParts p → parts_at ends (joined (written p)) ≡ p
    parts_at-text h =
        ap (parts_at ends) text-parts
        ∙ (λ i. record {
          language = at-language i;
          extlangs = (ap part_pieces at-extlangs
              ∙ part_pieces-dashed p.extlangs
              (each-clean is_extlang
              (λ x e. smalls-clean x (extlang-small x e)) p.extlangs h.extlangs)) i;
          script = (ap (λ t. first_piece (part_pieces t)) at-script
              ∙ ap first_piece
              (part_pieces-dashed (at_most_one p.script)
              (one-clean is_script script-clean p.script h.script))
              ∙ first-one p.script) i;
          region = (ap (λ t. first_piece (part_pieces t)) at-region
              ∙ ap first_piece
              (part_pieces-dashed (at_most_one p.region)
              (one-clean is_region region-clean p.region h.region))
              ∙ first-one p.region) i;
          variants = (ap part_pieces at-variants
              ∙ part_pieces-dashed p.variants
              (each-clean is_variant
              (λ x e. smalls-clean x (variant-small x e)) p.variants h.variants)) i;
          extensions = (ap (λ t. (grouped (part_pieces t)).extensions) at-extensions
              ∙ ap (λ ps. (grouped ps).extensions)
              (part_pieces-dashed (flat_map extension_pieces p.extensions)
              (runs-clean p.extensions h.extensions))
              ∙ ap (λ g. g.extensions) (grouped-runs p.extensions h.extensions)) i;
          private = (ap (λ t. drop 1 (part_pieces t)) at-private
              ∙ ap (drop 1)
              (part_pieces-dashed (private_pieces p.private)
              (private-clean p.private h.private))
              ∙ drop-private p.private) i;
        })

    -- such a text is kept
    pub keeps : AreParts p
        → KeepsParts (joined (written p)) ends (parts_at ends (joined (written p)))
    keeps h =
        subst (KeepsParts (joined (written p)) ends) (sym (parts_at-text h))
        (record { shapes = h; text_is = refl; ends_are = at })

-- ---- a tag's text is ASCII

alphanumeric-ascii : (c : ℕ) → is_ascii_alphanumeric c ≡ true → c < 128
alphanumeric-ascii c e = grind (arith, nat_tests)

pub clean-ascii : (x : List ℕ) → IsClean x → IsAscii x
clean-ascii [] e = IsAscii-nil
clean-ascii (c ∷ x) e =
    let head : is_ascii_alphanumeric c ≡ true = grind (arith, nat_tests) in
    let tail : IsClean x = grind (arith, nat_tests) in
    IsAscii-cons c x (alphanumeric-ascii c head) (clean-ascii x tail)

pub dashed-ascii : (ps : List (List ℕ)) → AreClean ps → IsAscii (dashed ps)
dashed-ascii [] h = IsAscii-nil
dashed-ascii (x ∷ ps) h =
    let head : IsClean x = grind (arith, nat_tests) in
    let tail : AreClean ps = grind (arith, nat_tests) in
    IsAscii-cons 45 (x ++ dashed ps) (omega arith)
    (IsAscii-append x (dashed ps) (clean-ascii x head) (dashed-ascii ps tail))

pub behind-clean : (p : Parts) → AreParts p → AreClean (behind_language p)
behind-clean p h =
    clean-append p.extlangs _
    (each-clean is_extlang (λ x e. smalls-clean x (extlang-small x e)) p.extlangs h.extlangs)
    (clean-append (at_most_one p.script) _ (one-clean is_script script-clean p.script h.script)
    (clean-append (at_most_one p.region) _ (one-clean is_region region-clean p.region h.region)
    (clean-append p.variants _
    (each-clean is_variant (λ x e. smalls-clean x (variant-small x e)) p.variants h.variants)
    (clean-append (flat_map extension_pieces p.extensions) _ (runs-clean p.extensions h.extensions)
    (private-clean p.private h.private)))))

pub language-clean : (p : Parts) → AreParts p → IsClean p.language
language-clean p h = smalls-clean p.language (language-small p.language h.language)

pub print-ascii : (p : Parts) → AreParts p → IsAscii (joined (written p))
print-ascii p h =
    subst IsAscii (sym (joined-dashed p.language (behind_language p)))
    (IsAscii-append p.language (dashed (behind_language p))
    (clean-ascii p.language (language-clean p h))
    (dashed-ascii (behind_language p) (behind-clean p h)))

-- the pieces of a tag's text
pub pieces-print : (p : Parts) → AreParts p → pieces (joined (written p)) ≡ written p
pieces-print p h =
    ap pieces (joined-dashed p.language (behind_language p))
    ∙ pieces-dashed p.language (behind_language p) (language-clean p h) (behind-clean p h)
