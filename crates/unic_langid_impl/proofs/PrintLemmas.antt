-- The printed text of an identifier: how it is written subtag by subtag, that it is ASCII, and that
-- it is read as the same one.
use Rattle.std.proofs.Common.{◌≡◌, ◌≢◌, ℕ, Bool, true, false, cond, not, ⊎_elim, List, [], ◌∷◌}
use Rattle.std.proofs.Common.{◌++◌, Option, Some, None, map, length, drop, refl, sym, ap, subst}
use Rattle.std.proofs.Common.{◌∙◌, append_assoc, arith, lit<}
use Rattle.std.specs.Prelude.{◌↔◌, ◌==◌, ◌&&◌, IfSome, IsTrue}
use Rattle.std.specs.Char.{is_ascii_digit, is_ascii_lowercase, is_ascii_uppercase}
use Rattle.std.specs.Char.{to_ascii_lowercase, to_ascii_uppercase}
use Rattle.std.specs.Cmp.{first_so}
use Rattle.std.specs.List.{All, join_with_byte, list_all}
use Rattle.std.specs.Option.{option_map}
use Rattle.std.specs.Str.{IsAscii, byte, chars}
use Rattle.std.proofs.lemmas.Bool.{false≢true, or_cases}
use Rattle.std.proofs.lemmas.Bool.Decides.{nat_tests}
use Rattle.std.proofs.lemmas.List.{append-nil, append_cancel_left}
use Rattle.std.proofs.lemmas.List.Elements.{All-append, All-cons, All-contains, All-head, All-nil}
use Rattle.std.proofs.lemmas.List.Elements.{All-tail, All-weaker, Contains-get_or}
use Rattle.std.proofs.lemmas.List.Splits.{slice_split_at, slice_split_none}
use Rattle.std.proofs.lemmas.Str.{IsAscii-append, chars-IsAscii}
use Rattle.std.proofs.lemmas.Str.Ascii.{IsAscii-cons}
use Rattle.tinystr.specs.Shapes.{IsRegion, IsScript, IsVariant, is_small}
use Rattle.tinystr.specs.ShapesLaws.{tiny-IsAscii, tiny_region, tiny_script, tiny_variant}
use Rattle.tinystr.specs.Text.{titlecase}
use Rattle.unic_langid_impl.specs.Identifier.{Identifier, IsIdentifier, part, print, subtags}
use Rattle.unic_langid_impl.specs.Pieces.{first_piece, is_separator, pieces_of}
use Rattle.unic_langid_impl.specs.Printing.{behind_language, dashed}
use Rattle.unic_langid_impl.specs.Reading.{AreIdentifier, id_of}
use Rattle.unic_langid_impl.specs.Subtags.{IsLanguage, IsLanguageOrNone, is_language, is_und}
use Rattle.unic_langid_impl.specs.Subtags.{language_of, language_text, lowercase, und, uppercase}
use Rattle.unic_langid_impl.proofs.SubtagLemmas.{language_fits}

-- ---- subtag by subtag

join-dashed : (text : List ℕ) (texts : List (List ℕ))
    → join_with_byte (byte "-") (text ∷ texts) ≡ text ++ dashed texts
join-dashed text [] = sym (append-nil text)
join-dashed text (next ∷ texts) = ap (λ l. text ++ byte "-" ∷ l) (join-dashed next texts)

pub print-dashed : (i : Identifier)
    → print i ≡ language_text i.language ++ dashed (behind_language i)
print-dashed i = join-dashed (language_text i.language) (behind_language i)

dashed-first : (left new : List (List ℕ)) (piece : List ℕ) → Some piece ≡ first_piece left
    → new ≡ drop 1 left
    → dashed left ≡ byte "-" ∷ (piece ++ dashed new)
dashed-first [] new piece e next = cc
dashed-first (p ∷ left) new piece e next =
    let same : p ≡ piece = cc in (λ k. byte "-" ∷ (same k ++ dashed (sym next k)))

pub dashed-none : (left : List (List ℕ)) → None ≡ first_piece left → dashed left ≡ []
dashed-none [] e = refl
dashed-none (p ∷ left) e = cc

-- more of a printed text is written
pub written-more : (written whole piece : List ℕ) (left new : List (List ℕ))
    → written ++ dashed left ≡ whole
    → Some piece ≡ first_piece left → new ≡ drop 1 left
    → ((written ++ byte "-" ∷ []) ++ piece) ++ dashed new ≡ whole
written-more written whole piece left new h e next =
    append_assoc (written ++ byte "-" ∷ []) piece (dashed new)
    ∙ append_assoc written (byte "-" ∷ []) (piece ++ dashed new)
    ∙ ap (λ l. written ++ l) (sym (dashed-first left new piece e next)) ∙ h

pub written-all : (written whole : List ℕ) (left : List (List ℕ)) → written ++ dashed left ≡ whole
    → None ≡ first_piece left
    → written ≡ whole
written-all written whole left h e =
    sym (append-nil written) ∙ ap (λ l. written ++ l) (sym (dashed-none left e)) ∙ h

-- ---- a text that is compared with a printed one

module _ (i : Identifier) (text language : List ℕ) (is : language ≡ language_text i.language) where
  print-is : print i ≡ language ++ dashed (behind_language i)
  print-is = print-dashed i ∙ ap (λ l. l ++ dashed (behind_language i)) (sym is)

  pub begins-not : ((rest : List ℕ) → text ≢ language ++ rest) → (IsTrue false ↔ (text ≡ print i))
  begins-not other =
      (λ e. absurd (false≢true e), λ e. absurd (other (dashed (behind_language i)) (e ∙ print-is)))

  pub begins : (rest : List ℕ) (left : List (List ℕ)) → text ≡ language ++ rest
      → left ≡ behind_language i
      → ((text ≡ print i) ↔ (rest ≡ dashed left))
  begins rest left e all = (
    λ h. append_cancel_left language rest (dashed left)
        (sym e ∙ h ∙ print-is ∙ ap (λ l. language ++ dashed l) (sym all)),
    λ h. e ∙ ap (λ l. language ++ l) h ∙ ap (λ l. language ++ dashed l) all ∙ sym print-is,
  )

module _ (P : Type 0) (rest piece : List ℕ) (left : List (List ℕ))
    (h : P ↔ (rest ≡ dashed left)) where
  pub goes_on : (new : List (List ℕ)) (behind : List ℕ) → Some piece ≡ first_piece left
      → new ≡ drop 1 left
      → rest ≡ byte "-" ∷ (piece ++ behind) → (P ↔ (behind ≡ dashed new))
  goes_on new behind e next at =
      let is = dashed-first left new piece e next in (
        λ p.
            let same : piece ++ behind ≡ piece ++ dashed new = ap (drop 1) (sym at ∙ h.0 p ∙ is) in
            append_cancel_left piece behind (dashed new) same,
        λ q. h.1 (at ∙ ap (λ l. byte "-" ∷ (piece ++ l)) q ∙ sym is),
      )

  pub stops_here : Some piece ≡ first_piece left
      → ((behind : List ℕ) → rest ≢ byte "-" ∷ (piece ++ behind)) → (IsTrue false ↔ P)
  stops_here e other = (
    λ q. absurd (false≢true q),
    λ p.
        absurd
        (other (dashed (drop 1 left)) (h.0 p ∙ dashed-first left (drop 1 left) piece e refl)),
  )

-- ---- the characters of subtags

abbrev Plain : ℕ → Type 0
Plain c = is_separator c ≡ false

module _ (test : ℕ → Bool) where
  all_by : (P : ℕ → Type 0) → ((c : ℕ) → test c ≡ true → P c) → (text : List ℕ)
      → list_all test text ≡ true → All P text
  all_by P is [] h = All-nil P
  all_by P is (c ∷ text) h =
      let head : test c ≡ true = grind (arith, nat_tests) in
      let tail : list_all test text ≡ true = grind (arith, nat_tests) in
      All-cons P c text (is c head) (all_by P is text tail)

  map_by : (case : ℕ → ℕ) → ((c : ℕ) → test c ≡ true → case c ≡ c) → (text : List ℕ)
      → list_all test text ≡ true
      → map case text ≡ text
  map_by case is [] h = refl
  map_by case is (c ∷ text) h =
      let head : test c ≡ true = grind (arith, nat_tests) in
      let tail : list_all test text ≡ true = grind (arith, nat_tests) in
      λ k. is c head k ∷ map_by case is text tail k

small-plain : (c : ℕ) → is_small c ≡ true → Plain c
small-plain c h = grind (arith, nat_tests)

lower-plain : (c : ℕ) → is_ascii_lowercase c ≡ true → Plain c
lower-plain c h = grind (arith, nat_tests)

upper-plain : (c : ℕ) → is_ascii_uppercase c ≡ true → Plain c
upper-plain c h = grind (arith, nat_tests)

digit-plain : (c : ℕ) → is_ascii_digit c ≡ true → Plain c
digit-plain c h = grind (arith, nat_tests)

small-lower : (c : ℕ) → is_small c ≡ true → to_ascii_lowercase c ≡ c
small-lower c h = grind (arith, nat_tests)

lower-lower : (c : ℕ) → is_ascii_lowercase c ≡ true → to_ascii_lowercase c ≡ c
lower-lower c h = grind (arith, nat_tests)

upper-upper : (c : ℕ) → is_ascii_uppercase c ≡ true → to_ascii_uppercase c ≡ c
upper-upper c h = grind (arith, nat_tests)

digit-upper : (c : ℕ) → is_ascii_digit c ≡ true → to_ascii_uppercase c ≡ c
digit-upper c h = grind (arith, nat_tests)

language-plain : (text : List ℕ) → IsLanguage text → All Plain text
language-plain text h =
    let all : list_all is_ascii_lowercase text ≡ true = grind (arith, nat_tests) in
    all_by is_ascii_lowercase Plain lower-plain text all

pub language-lower : (text : List ℕ) → IsLanguage text → lowercase text ≡ text
language-lower text h =
    let all : list_all is_ascii_lowercase text ≡ true = grind (arith, nat_tests) in
    map_by is_ascii_lowercase to_ascii_lowercase lower-lower text all

script-plain : (text : List ℕ) → IsScript text → All Plain text
script-plain [] h = All-nil Plain
script-plain (c ∷ text) h =
    let first : is_ascii_uppercase c ≡ true = grind (arith, nat_tests) in
    let all : list_all is_ascii_lowercase text ≡ true = grind (arith, nat_tests) in
    All-cons Plain c text (upper-plain c first)
    (all_by is_ascii_lowercase Plain lower-plain text all)

pub script-title : (text : List ℕ) → IsScript text → titlecase text ≡ text
script-title [] h = refl
script-title (c ∷ text) h =
    let first : is_ascii_uppercase c ≡ true = grind (arith, nat_tests) in
    let all : list_all is_ascii_lowercase text ≡ true = grind (arith, nat_tests) in
    λ k. upper-upper c first k ∷ map_by is_ascii_lowercase to_ascii_lowercase lower-lower text all k

region-by : (G : Type 0) (text : List ℕ) → IsRegion text
    → (list_all is_ascii_uppercase text ≡ true → G)
    → (list_all is_ascii_digit text ≡ true → G) → G
region-by G text h letters digits =
    ⊎_elim
    (λ (two : (length text == 2 && list_all is_ascii_uppercase text) ≡ true).
    letters (grind (arith, nat_tests)))
    (λ (three : (length text == 3 && list_all is_ascii_digit text) ≡ true).
    digits (grind (arith, nat_tests)))
    (or_cases (length text == 2 && list_all is_ascii_uppercase text)
    (length text == 3 && list_all is_ascii_digit text) h)

region-plain : (text : List ℕ) → IsRegion text → All Plain text
region-plain text h =
    region-by (All Plain text) text h (all_by is_ascii_uppercase Plain upper-plain text)
    (all_by is_ascii_digit Plain digit-plain text)

pub region-upper : (text : List ℕ) → IsRegion text → uppercase text ≡ text
region-upper text h =
    region-by (uppercase text ≡ text) text h
    (map_by is_ascii_uppercase to_ascii_uppercase upper-upper text)
    (map_by is_ascii_digit to_ascii_uppercase digit-upper text)

variant-plain : (text : List ℕ) → IsVariant text → All Plain text
variant-plain text h =
    let all : list_all is_small text ≡ true = grind (arith, nat_tests) in
    all_by is_small Plain small-plain text all

pub variant-lower : (text : List ℕ) → IsVariant text → lowercase text ≡ text
variant-lower text h =
    let all : list_all is_small text ≡ true = grind (arith, nat_tests) in
    map_by is_small to_ascii_lowercase small-lower text all

-- ---- the shapes of what is read

pub language_shape : (text : List ℕ) → IsLanguage text → IsLanguageOrNone (language_of text)
language_shape text h = go (is_und text) refl
  where
    go : (b : Bool) → is_und text ≡ b → IsLanguageOrNone (cond b None (Some text))
    go true e = tt
    go false e = rw (h, e) refl

pub id-IsIdentifier : (pieces : List (List ℕ)) (i : Identifier) → AreIdentifier pieces i
    → IsIdentifier i
id-IsIdentifier pieces i h = record {
  language =
      subst IsLanguageOrNone (sym h.language_is)
      (language_shape (lowercase h.language) h.is_language);
  script = h.is_script;
  region = h.is_region;
  variants = λ k d lt. All-contains IsVariant (map lowercase h.variants) _ h.are_variants
      ((h.variants_are.same _).0 (Contains-get_or i.variants k d lt));
  ascend = h.variants_are.ascend;
}

-- ---- a property of each subtag

module _ (P : List ℕ → Type 0) (nothing : P und) (language : (t : List ℕ) → IsLanguage t → P t)
    (script : (t : List ℕ) → IsScript t → P t) (region : (t : List ℕ) → IsRegion t → P t)
    (variant : (t : List ℕ) → IsVariant t → P t) (i : Identifier) (h : IsIdentifier i) where
  for_language : (o : Option (List ℕ)) → IsLanguageOrNone o → P (language_text o)
  for_language None g = nothing
  for_language (Some t) g = language t (first_so (is_language t) (not (is_und t)) g)

  for_part : (Shape : List ℕ → Type 0) → ((t : List ℕ) → Shape t → P t) → (o : Option (List ℕ))
      → IfSome o Shape → All P (part o)
  for_part Shape is None g = All-nil P
  for_part Shape is (Some t) g = All-cons P t [] (is t g) (All-nil P)

  for_subtags : All P (subtags i)
  for_subtags =
      All-cons P (language_text i.language) (behind_language i) (for_language i.language h.language)
      (All-append P (part i.script) _ (for_part IsScript script i.script h.script)
      (All-append P (part i.region) i.variants (for_part IsRegion region i.region h.region)
      (All-weaker IsVariant P variant i.variants h.variants)))

pub language_ascii : (o : Option (List ℕ)) → IsLanguageOrNone o → IsAscii (language_text o)
language_ascii None h = tiny-IsAscii 8 und (language_fits und refl)
language_ascii (Some t) h =
    tiny-IsAscii 8 t (language_fits t (first_so (is_language t) (not (is_und t)) h))

join-ascii : (text : List ℕ) (texts : List (List ℕ)) → All IsAscii (text ∷ texts)
    → IsAscii (join_with_byte (byte "-") (text ∷ texts))
join-ascii text [] h = All-head IsAscii text [] h
join-ascii text (next ∷ texts) h =
    IsAscii-append text (byte "-" ∷ join_with_byte (byte "-") (next ∷ texts))
    (All-head IsAscii text (next ∷ texts) h)
    (IsAscii-cons (byte "-") (join_with_byte (byte "-") (next ∷ texts)) (lit< tt)
    (join-ascii next texts (All-tail IsAscii text (next ∷ texts) h)))

pub print-ascii : (i : Identifier) → IsIdentifier i → IsAscii (print i)
print-ascii i h =
    join-ascii (language_text i.language) (behind_language i)
    (for_subtags IsAscii (tiny-IsAscii 8 und (language_fits und refl))
    (λ t s. tiny-IsAscii 8 t (language_fits t s))
    (λ t s. tiny-IsAscii 4 t (tiny_script t s)) (λ t s. tiny-IsAscii 3 t (tiny_region t s))
    (λ t s. tiny-IsAscii 8 t (tiny_variant t s)) i h)

pub print-chars : (i : Identifier) → IsIdentifier i → chars (print i) ≡ print i
print-chars i h = chars-IsAscii (print i) (print-ascii i h)

-- ---- a printed identifier is read as the same one

join-pieces : (text : List ℕ) (texts : List (List ℕ)) → All (All Plain) (text ∷ texts)
    → pieces_of (join_with_byte (byte "-") (text ∷ texts)) ≡ text ∷ texts
join-pieces text [] h = slice_split_none is_separator text (All-head (All Plain) text [] h)
join-pieces text (next ∷ texts) h =
    slice_split_at is_separator text (byte "-") (join_with_byte (byte "-") (next ∷ texts))
    (All-head (All Plain) text (next ∷ texts) h) refl
    ∙ ap (λ l. text ∷ l) (join-pieces next texts (All-tail (All Plain) text (next ∷ texts) h))

pub pieces-print : (i : Identifier) → IsIdentifier i → pieces_of (print i) ≡ subtags i
pieces-print i h =
    join-pieces (language_text i.language) (behind_language i)
    (for_subtags (All Plain)
    (language-plain und refl) language-plain script-plain region-plain variant-plain i h)

module _ (Shape : List ℕ → Type 0) (case : List ℕ → List ℕ)
    (is : (t : List ℕ) → Shape t → case t ≡ t) where
  part-same : (o : Option (List ℕ)) → IfSome o Shape → o ≡ option_map case o
  part-same None h = refl
  part-same (Some t) h = ap Some (sym (is t h))

  all-same : (texts : List (List ℕ)) → All Shape texts → map case texts ≡ texts
  all-same [] h = refl
  all-same (t ∷ texts) h =
      λ k. is t (All-head Shape t texts h) k ∷ all-same texts (All-tail Shape t texts h) k

pub language-same : (o : Option (List ℕ)) → IsLanguageOrNone o
    → o ≡ language_of (lowercase (language_text o))
language-same None h = refl
language-same (Some t) h =
    let shape : IsLanguage t = grind (arith, nat_tests) in
    let other : is_und t ≡ false = grind (arith, nat_tests) in
    sym (ap language_of (language-lower t shape) ∙ ap (λ b. cond b None (Some t)) other)

pub language-is : (o : Option (List ℕ)) → IsLanguageOrNone o
    → IsLanguage (lowercase (language_text o))
language-is None h = refl
language-is (Some t) h =
    let shape : IsLanguage t = grind (arith, nat_tests) in rw (language-lower t shape) shape

pub subtags-are : (i : Identifier) → IsIdentifier i → AreIdentifier (subtags i) i
subtags-are i h =
    let variants = all-same IsVariant lowercase variant-lower i.variants h.variants in record {
      language = language_text i.language;
      script = i.script;
      region = i.region;
      variants = i.variants;
      pieces_are = refl;
      is_language = language-is i.language h.language;
      is_script = h.script;
      is_region = h.region;
      are_variants = rw variants h.variants;
      language_is = language-same i.language h.language;
      script_is = part-same IsScript titlecase script-title i.script h.script;
      region_is = part-same IsRegion uppercase region-upper i.region h.region;
      variants_are = rw variants (record { ascend = h.ascend; same = λ t. (λ g. g, λ g. g) });
    }

pub print-id : (i : Identifier) → IsIdentifier i → id_of (print i) i
print-id i h = rw (pieces-print i h) (subtags-are i h)
