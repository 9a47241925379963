-- A text of subtags that are divided by `-` is read back subtag by subtag.
use Rattle.std.proofs.Common.{◌≡◌, ◌≢◌, ℕ, ◌<◌, ◌≤◌, Bool, true, false, not, cond, ⊎_elim, List, []}
use Rattle.std.proofs.Common.{◌∷◌, ◌++◌, Option, Some, None, length, get_or, take, drop, refl, sym}
use Rattle.std.proofs.Common.{ap, ◌∙◌, arith, take-append-drop, append_assoc}
use Rattle.std.specs.Prelude.{◌==◌, ◌&&◌, codes, IfSome}
use Rattle.std.specs.Char.{is_ascii_digit, is_ascii_lowercase, is_ascii_uppercase}
use Rattle.std.specs.List.{list_all, position_or_len}
use Rattle.std.proofs.lemmas.Bool.{or_cases}
use Rattle.std.proofs.lemmas.Bool.Decides.{nat_tests}
use Rattle.std.proofs.lemmas.List.{append-nil}
use Rattle.std.proofs.lemmas.List.Sums.{prefix_len_is}
use Rattle.icu_locale_core.specs.Locale.{Locale, IsLocale, PrintDetermines, marked, print}
use Rattle.icu_locale_core.specs.Reading.{is_dash, before_dash, from_dash, leading, behind, taken}
use Rattle.icu_locale_core.specs.Reading.{left}
use Rattle.icu_locale_core.specs.Shapes.{is_small, is_language, is_script, is_region, is_variant}

-- what `find` says of the place of the first `-`
module _ (text : List ℕ) (n : ℕ) (within : n ≤ length text)
    (before : (i : ℕ) → i < n → get_or text i 0 ≢ 45)
    (at : n < length text → get_or text n 0 ≡ 45) where
  -- that place
  first_dash : position_or_len is_dash text ≡ n
  first_dash =
      prefix_len_is (λ c. not (is_dash c)) text n 0 within
      (λ k lt. let other = before k lt in grind (arith, nat_tests))
      (λ lt. let here = at lt in grind (arith, nat_tests))

  -- the text up to there
  pub before_dash_is : take n text ≡ before_dash text
  before_dash_is = ap (λ k. take k text) (sym first_dash)

  -- and from there on
  pub from_dash_is : drop n text ≡ from_dash text
  from_dash_is = ap (λ k. drop k text) (sym first_dash)

-- no `-` stands in the text
abbrev no_dash : List ℕ → Bool
no_dash text = list_all (λ c. not (is_dash c)) text

-- the text is empty or begins with `-`
abbrev dashed : List ℕ → Bool
dashed [] = true
dashed (c ∷ text) = is_dash c

-- a first character that is no `-` stands before it
before-cons : (c : ℕ) (t : List ℕ) → is_dash c ≡ false → before_dash (c ∷ t) ≡ c ∷ before_dash t
before-cons c t other = grind (arith, nat_tests)

-- and not in the rest
from-cons : (c : ℕ) (t : List ℕ) → is_dash c ≡ false → from_dash (c ∷ t) ≡ from_dash t
from-cons c t other = grind (arith, nat_tests)

-- a text without `-` stands before one that begins with `-`
before-append : (s t : List ℕ) → no_dash s ≡ true → dashed t ≡ true → before_dash (s ++ t) ≡ s
before-append [] [] plain more = refl
before-append [] (c ∷ t) plain more = grind (arith, nat_tests)
before-append (c ∷ s) t plain more =
    let head : is_dash c ≡ false = grind (arith, nat_tests) in
    let tail : no_dash s ≡ true = grind (arith, nat_tests) in
    before-cons c (s ++ t) head ∙ ap (λ l. c ∷ l) (before-append s t tail more)

-- which is the rest
from-append : (s t : List ℕ) → no_dash s ≡ true → dashed t ≡ true → from_dash (s ++ t) ≡ t
from-append [] [] plain more = refl
from-append [] (c ∷ t) plain more = grind (arith, nat_tests)
from-append (c ∷ s) t plain more =
    let head : is_dash c ≡ false = grind (arith, nat_tests) in
    let tail : no_dash s ≡ true = grind (arith, nat_tests) in
    from-cons c (s ++ t) head ∙ from-append s t tail more

-- a text that does not begin with `-` has no leading subtag
pub no_leading : (text : List ℕ) → ((rest : List ℕ) → text ≢ 45 ∷ rest) → [] ≡ leading text
no_leading [] other = refl
no_leading (c ∷ text) other =
    let apart : c ≢ 45 = λ e. other text (ap (λ b. b ∷ text) e) in grind (arith, nat_tests)

-- and all of it is behind
pub all_behind : (text : List ℕ) → ((rest : List ℕ) → text ≢ 45 ∷ rest) → text ≡ behind text
all_behind [] other = refl
all_behind (c ∷ text) other =
    let apart : c ≢ 45 = λ e. other text (ap (λ b. b ∷ text) e) in grind (arith, nat_tests)

-- the leading subtag and what is behind it, or nothing where the text has none
module _ (s t : List ℕ) (plain : no_dash s ≡ true) (more : dashed t ≡ true) where
  -- the leading subtag
  leading-marked : leading ((codes "-" ++ s) ++ t) ≡ s
  leading-marked = before-append s t plain more

  -- and what is behind it
  behind-marked : behind ((codes "-" ++ s) ++ t) ≡ t
  behind-marked = from-append s t plain more

-- with a subtag in front, or none, such a text still begins with `-` or is empty
dashed-marked : (o : Option (List ℕ)) (t : List ℕ) → dashed t ≡ true
    → dashed (marked (codes "-") o ++ t) ≡ true
dashed-marked None t more = more
dashed-marked (Some s) t more = refl

-- a subtag that may stand before a text is taken, where its shape has no `-` and does not lead
-- the text
module _ (is : List ℕ → Bool) (plain : (s : List ℕ) → is s ≡ true → no_dash s ≡ true) where
  -- it is taken
  pub taken-marked : (o : Option (List ℕ)) (t : List ℕ) → IfSome o (λ s. is s ≡ true)
      → dashed t ≡ true
      → is (leading t) ≡ false → taken is (marked (codes "-") o ++ t) ≡ o
  taken-marked None t shape more other = rw other refl
  taken-marked (Some s) t shape more other =
      rw (leading-marked s t (plain s shape) more) (rw shape refl)

  -- and the text is left
  pub left-marked : (o : Option (List ℕ)) (t : List ℕ) → IfSome o (λ s. is s ≡ true)
      → dashed t ≡ true
      → is (leading t) ≡ false → left is (marked (codes "-") o ++ t) ≡ t
  left-marked None t shape more other = rw other refl
  left-marked (Some s) t shape more other =
      rw (leading-marked s t (plain s shape) more)
      (rw shape (behind-marked s t (plain s shape) more))

-- what is taken has the shape, and with what is left it is the text
module _ (is : List ℕ → Bool) (nothing : is [] ≡ false) where
  -- what is taken has the shape
  pub taken-shape : (text : List ℕ) → IfSome (taken is text) (λ s. is s ≡ true)
  taken-shape text = go (is (leading text)) refl
    where
      go : (b : Bool) → is (leading text) ≡ b
          → IfSome (cond b (Some (leading text)) None) (λ s. is s ≡ true)
      go true e = e
      go false e = tt

  -- with what is left it is the text
  pub taken-left : (text : List ℕ) → marked (codes "-") (taken is text) ++ left is text ≡ text
  taken-left [] = rw nothing refl
  taken-left (c ∷ text) = by_dash (is_dash c) refl
    where
      by_shape : is_dash c ≡ true → (b : Bool)
          → marked (codes "-") (cond b (Some (before_dash text)) None)
          ++ cond b (from_dash text) (c ∷ text) ≡ c ∷ text
      by_shape e true =
          let dash : c ≡ 45 = grind (arith, nat_tests) in
          cc (take-append-drop (position_or_len is_dash text) text)
      by_shape e false = refl

      by_dash : (b : Bool) → is_dash c ≡ b
          → marked (codes "-") (taken is (c ∷ text)) ++ left is (c ∷ text) ≡ c ∷ text
      by_dash true e = rw e (by_shape e (is (before_dash text)))
      by_dash false e = rw e (rw nothing refl)

-- the parts of a printed text, from the end on
abbrev subdivision_part : Locale → List ℕ
subdivision_part l = marked (codes "-u-sd-") l.subdivision

-- the variant and the subdivision
abbrev variant_part : Locale → List ℕ
variant_part l = marked (codes "-") l.variant ++ subdivision_part l

-- the region and what follows
abbrev region_part : Locale → List ℕ
region_part l = marked (codes "-") l.region ++ variant_part l

-- the script and what follows
abbrev script_part : Locale → List ℕ
script_part l = marked (codes "-") l.script ++ region_part l

-- the printed text is the language and these
print_parts : (l : Locale) → print l ≡ l.language ++ script_part l
print_parts l = simp append_assoc

-- two pieces in front of a text are one
glued : (a b x s y : List ℕ) → a ++ b ≡ s → x ≡ y → a ++ (b ++ x) ≡ s ++ y
glued a b x s y front back =
    sym (append_assoc a b x) ∙ ap (λ l. l ++ x) front ∙ ap (λ l. s ++ l) back

-- each part in two pieces, a mark and a subtag
pub print-pieces : (l : Locale) (language a b c d e f g h : List ℕ) → language ≡ l.language
    → a ++ b ≡ marked (codes "-") l.script → c ++ d ≡ marked (codes "-") l.region
    → e ++ f ≡ marked (codes "-") l.variant → g ++ h ≡ marked (codes "-u-sd-") l.subdivision
    → language ++ (a ++ (b ++ (c ++ (d ++ (e ++ (f ++ (g ++ (h ++ [])))))))) ≡ print l
print-pieces l language a b c d e f g h is script region variant subdivision =
    let last = glued g h [] (subdivision_part l) [] subdivision refl in
    let end = glued e f _ _ _ variant (last ∙ append-nil (subdivision_part l)) in
    let parts = glued a b _ _ _ script (glued c d _ _ _ region end) in
    ap (λ l. l ++ (a ++ (b ++ (c ++ (d ++ (e ++ (f ++ (g ++ (h ++ []))))))))) is
    ∙ ap (λ rest. l.language ++ rest) parts ∙ sym (print_parts l)

-- ---- no shape has a `-`, and no text has two of the shapes

-- a text of characters other than `-` has none
plain_by : (test : ℕ → Bool) → ((c : ℕ) → test c ≡ true → is_dash c ≡ false) → (s : List ℕ)
    → list_all test s ≡ true → no_dash s ≡ true
plain_by test apart [] h = refl
plain_by test apart (c ∷ s) h =
    let head : test c ≡ true = grind (arith, nat_tests) in
    let tail : list_all test s ≡ true = grind (arith, nat_tests) in
    let first = apart c head in
    let rest = plain_by test apart s tail in grind (arith, nat_tests)

-- small letters and digits
small_plain : (s : List ℕ) → list_all is_small s ≡ true → no_dash s ≡ true
small_plain s h = plain_by is_small (λ c e. grind (arith, nat_tests)) s h

-- small letters
lower_plain : (s : List ℕ) → list_all is_ascii_lowercase s ≡ true → no_dash s ≡ true
lower_plain s h = plain_by is_ascii_lowercase (λ c e. grind (arith, nat_tests)) s h

-- a language
language_plain : (s : List ℕ) → is_language s ≡ true → no_dash s ≡ true
language_plain s h = lower_plain s (grind (arith, nat_tests))

-- a script
script_plain : (s : List ℕ) → is_script s ≡ true → no_dash s ≡ true
script_plain [] h = refl
script_plain (c ∷ s) h =
    let rest : no_dash s ≡ true = lower_plain s (grind (arith, nat_tests)) in
    let first : is_dash c ≡ false = grind (arith, nat_tests) in grind (arith, nat_tests)

-- a region
region_plain : (s : List ℕ) → is_region s ≡ true → no_dash s ≡ true
region_plain s h =
    ⊎_elim
    (λ (two : (length s == 2 && list_all is_ascii_uppercase s) ≡ true).
    plain_by is_ascii_uppercase (λ c e. grind (arith, nat_tests)) s (grind (arith, nat_tests)))
    (λ (three : (length s == 3 && list_all is_ascii_digit s) ≡ true).
    plain_by is_ascii_digit (λ c e. grind (arith, nat_tests)) s (grind (arith, nat_tests)))
    (or_cases (length s == 2 && list_all is_ascii_uppercase s)
    (length s == 3 && list_all is_ascii_digit s) h)

-- a variant
variant_plain : (s : List ℕ) → is_variant s ≡ true → no_dash s ≡ true
variant_plain s h = small_plain s (grind (arith, nat_tests))

-- no region is a script
region-script : (s : List ℕ) → is_region s ≡ true → is_script s ≡ false
region-script s h = grind (arith, nat_tests)

-- no variant is a script
variant-script : (s : List ℕ) → is_variant s ≡ true → is_script s ≡ false
variant-script s h = grind (arith, nat_tests)

-- no variant is a region
variant-region : (s : List ℕ) → is_variant s ≡ true → is_region s ≡ false
variant-region s h = grind (arith, nat_tests)

-- ---- what leads each part

-- a subdivision's part begins with `-`, or is empty
dashed-subdivision : (l : Locale) → dashed (subdivision_part l) ≡ true
dashed-subdivision l = go l.subdivision
  where
    go : (o : Option (List ℕ)) → dashed (marked (codes "-u-sd-") o) ≡ true
    go None = refl
    go (Some s) = refl

-- a shape that neither `u` nor nothing has
module _ (is : List ℕ → Bool) (nothing : is [] ≡ false) (mark : is (codes "u") ≡ false) where
  -- it does not lead the part of a subdivision
  leading-subdivision : (o : Option (List ℕ)) → is (leading (marked (codes "-u-sd-") o)) ≡ false
  leading-subdivision None = nothing
  leading-subdivision (Some s) = mark

-- a shape that the text does not lead with, nor any subtag before it
module _ (is shape : List ℕ → Bool) (plain : (s : List ℕ) → shape s ≡ true → no_dash s ≡ true)
    (apart : (s : List ℕ) → shape s ≡ true → is s ≡ false) where
  -- it does not lead the text behind such a subtag
  leading-other : (o : Option (List ℕ)) (t : List ℕ) → IfSome o (λ s. shape s ≡ true)
      → dashed t ≡ true
      → is (leading t) ≡ false → is (leading (marked (codes "-") o ++ t)) ≡ false
  leading-other None t h more other = other
  leading-other (Some s) t h more other = rw (leading-marked s t (plain s h) more) (apart s h)

-- a printed text is read back
module _ (l : Locale) (shape : IsLocale l) where
  -- the parts from the variant on begin with `-`
  dashed-variant : dashed (variant_part l) ≡ true
  dashed-variant = dashed-marked l.variant (subdivision_part l) (dashed-subdivision l)

  -- those from the region on
  dashed-region : dashed (region_part l) ≡ true
  dashed-region = dashed-marked l.region (variant_part l) dashed-variant

  -- those from the script on
  dashed-script : dashed (script_part l) ≡ true
  dashed-script = dashed-marked l.script (region_part l) dashed-region

  -- no variant leads the subdivision
  no_variant : is_variant (leading (subdivision_part l)) ≡ false
  no_variant = leading-subdivision is_variant refl refl l.subdivision

  -- no region leads the variant
  no_region : is_region (leading (variant_part l)) ≡ false
  no_region =
      leading-other is_region is_variant variant_plain variant-region l.variant
      (subdivision_part l) shape.variant
      (dashed-subdivision l) (leading-subdivision is_region refl refl l.subdivision)

  -- no script leads the region
  no_script : is_script (leading (region_part l)) ≡ false
  no_script =
      leading-other is_script is_region region_plain region-script l.region
      (variant_part l) shape.region dashed-variant
      (leading-other is_script is_variant variant_plain variant-script l.variant
      (subdivision_part l) shape.variant
      (dashed-subdivision l) (leading-subdivision is_script refl refl l.subdivision))

  -- the language is read back
  pub language_is : before_dash (print l) ≡ l.language
  language_is =
      ap before_dash (print_parts l)
      ∙ before-append l.language (script_part l)
      (language_plain l.language shape.language) dashed-script

  -- and what follows it
  pub rest_is : from_dash (print l) ≡ script_part l
  rest_is =
      ap from_dash (print_parts l)
      ∙ from-append l.language (script_part l)
      (language_plain l.language shape.language) dashed-script

  -- then the script
  pub script_is : taken is_script (script_part l) ≡ l.script
  script_is =
      taken-marked is_script script_plain l.script
      (region_part l) shape.script dashed-region no_script

  -- and what follows it
  pub past_script : left is_script (script_part l) ≡ region_part l
  past_script =
      left-marked is_script script_plain l.script
      (region_part l) shape.script dashed-region no_script

  -- the region
  pub region_is : taken is_region (region_part l) ≡ l.region
  region_is =
      taken-marked is_region region_plain l.region
      (variant_part l) shape.region dashed-variant no_region

  -- and what follows it
  pub past_region : left is_region (region_part l) ≡ variant_part l
  past_region =
      left-marked is_region region_plain l.region
      (variant_part l) shape.region dashed-variant no_region

  -- the variant
  pub variant_is : taken is_variant (variant_part l) ≡ l.variant
  variant_is =
      taken-marked is_variant variant_plain l.variant (subdivision_part l) shape.variant
      (dashed-subdivision l)
      no_variant

  -- and what follows it
  pub past_variant : left is_variant (variant_part l) ≡ subdivision_part l
  past_variant =
      left-marked is_variant variant_plain l.variant (subdivision_part l) shape.variant
      (dashed-subdivision l) no_variant

  -- what is left of the printed text behind its variant
  pub last_is : left is_variant (left is_region (left is_script (from_dash (print l))))
      ≡ marked (codes "-u-sd-") l.subdivision
  last_is = rw (rest_is, past_script, past_region, past_variant) refl

-- ---- the printed text determines the locale

-- two parts that are the same text are the same subdivision
same_subdivision : (a b : Option (List ℕ)) → marked (codes "-u-sd-") a ≡ marked (codes "-u-sd-") b
    → a ≡ b
same_subdivision None None e = refl
same_subdivision None (Some s) e = cc
same_subdivision (Some s) None e = cc
same_subdivision (Some s) (Some t) e = let same : s ≡ t = cc in ap Some same

-- subtag by subtag
pub print-determines : PrintDetermines
print-determines one other h k same =
    let language = sym (language_is one h) ∙ ap before_dash same ∙ language_is other k in
    let from : script_part one ≡ script_part other =
    sym (rest_is one h) ∙ ap from_dash same ∙ rest_is other k in
    let script = sym (script_is one h) ∙ ap (taken is_script) from ∙ script_is other k in
    let from : region_part one ≡ region_part other =
    sym (past_script one h) ∙ ap (left is_script) from ∙ past_script other k in
    let region = sym (region_is one h) ∙ ap (taken is_region) from ∙ region_is other k in
    let from : variant_part one ≡ variant_part other =
    sym (past_region one h) ∙ ap (left is_region) from ∙ past_region other k in
    let variant = sym (variant_is one h) ∙ ap (taken is_variant) from ∙ variant_is other k in
    let from : subdivision_part one ≡ subdivision_part other =
    sym (past_variant one h) ∙ ap (left is_variant) from ∙ past_variant other k in
    let subdivision = same_subdivision one.subdivision other.subdivision from in
    λ i. record {
      language = language i;
      script = script i;
      region = region i;
      variant = variant i;
      subdivision = subdivision i;
    }

-- ---- what is read prints to the text

module _ (text : List ℕ) (l : Locale) where
  -- the subtags that are read one after another
  pub read-prints : l.language ≡ before_dash text → l.script ≡ taken is_script (from_dash text)
      → l.region ≡ taken is_region (left is_script (from_dash text))
      → l.variant ≡ taken is_variant (left is_region (left is_script (from_dash text)))
      → marked (codes "-u-sd-") l.subdivision
      ≡ left is_variant (left is_region (left is_script (from_dash text)))
      → print l ≡ text
  read-prints language script region variant subdivision =
      let rest = from_dash text in
      let last : variant_part l ≡ left is_region (left is_script rest) =
      cc (taken-left is_variant refl (left is_region (left is_script rest))) in
      let middle : region_part l ≡ left is_script rest =
      cc (taken-left is_region refl (left is_script rest)) in
      let whole : script_part l ≡ rest = cc (taken-left is_script refl rest) in
      print_parts l ∙ cc (take-append-drop (position_or_len is_dash text) text)
