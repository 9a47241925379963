-- Whether a text is a tag, and its own printed form.
use Rattle.std.proofs.Common.{Bor, ◌≡◌, ℕ, ◌+◌, ◌-◌, ◌≤◌, ◌↔◌, Bool, true, false, not, List, []}
use Rattle.std.proofs.Common.{◌∷◌, ◌++◌, Option, Some, None, Result, Ok, Err, MatchResult, length}
use Rattle.std.proofs.Common.{take, drop, refl, sym, ap, ◌∙◌, subst, arith, map, append_assoc}
use Rattle.std.specs.Prelude.{IsTrue, is_ok, is_some}
use Rattle.std.specs.Option.{option_copied}
use Rattle.std.specs.Char.{is_ascii_lowercase, is_ascii_uppercase, to_ascii_lowercase}
use Rattle.std.specs.Char.{to_ascii_uppercase}
use Rattle.std.specs.List.{list_all}
use Rattle.std.proofs.lemmas.Bool.Decides.{nat_tests}
use Rattle.std.proofs.lemmas.List.{drop-drop, length-map, take-append-drop, take_rest}
use Rattle.language_tags_grammar.specs.Case.{capital, in_case}
use Rattle.language_tags_grammar.specs.Grandfathered.{grandfathered}
use Rattle.language_tags_grammar.specs.Kept.{between}
use Rattle.language_tags_grammar.specs.Pieces.{lowercase, pieces, uppercase}
use Rattle.language_tags_grammar.specs.Scan.{scanned}
use Rattle.language_tags_grammar.specs.Shapes.{is_private}
use Rattle.language_tags_grammar.specs.Tag.{Tag, Whole, Plain, print}
use Rattle.language_tags_grammar.specs.TagFault.{IsFaultBehindX, IsFaultOf, IsFaultOfPieces}
use Rattle.language_tags_grammar.specs.TagFault.{behind_x, in_pieces}
use Rattle.language_tags_grammar.specs.TagOf.{BeginsOtherwise, IsTagOf, StandsBehindX, langtag}
use Rattle.language_tags_grammar.specs.TagOf.{private_use, whole}
use Rattle.language_tags_grammar.specs.declared.ends.Ends.{Ends}
use Rattle.language_tags_grammar.specs.declared.error.ParseError.{ParseError}
use Rattle.language_tags_grammar.specs.Lemmas.Faults.{Scanned, scanned_law}
use Rattle.language_tags_grammar.proofs.NeverBoth.{never_both}
use Rattle.language_tags_grammar.specs.Lemmas.PieceLaws.{some_piece}
use Rattle.language_tags_grammar.specs.Lemmas.ScannedText.{scanned-case, was_scanned}
use Rattle.language_tags_grammar.specs.Lemmas.Unique.{one_tag}

-- the text is a tag; it is a tag and the tag's own text
abbrev pub IsText : List ℕ → Type 0
IsText t = (tag : Tag) × IsTagOf t tag

abbrev pub IsPrint : List ℕ → Type 0
IsPrint t = (tag : Tag) × IsTagOf t tag × (print tag ≡ t)

-- ---- texts that are in a case already

lower_is : (c : ℕ) → not (is_ascii_uppercase c) ≡ true → to_ascii_lowercase c ≡ c
lower_is c h = grind (arith, nat_tests)

is_lower : (c : ℕ) → to_ascii_lowercase c ≡ c → not (is_ascii_uppercase c) ≡ true
is_lower c h = grind (arith, nat_tests)

upper_is : (c : ℕ) → not (is_ascii_lowercase c) ≡ true → to_ascii_uppercase c ≡ c
upper_is c h = grind (arith, nat_tests)

is_upper : (c : ℕ) → to_ascii_uppercase c ≡ c → not (is_ascii_lowercase c) ≡ true
is_upper c h = grind (arith, nat_tests)

-- a function that a test tells to keep a character keeps a text exactly where all pass
module _ (f : ℕ → ℕ) (test : ℕ → Bool) (keeps : (c : ℕ) → test c ≡ true → f c ≡ c)
    (kept : (c : ℕ) → f c ≡ c → test c ≡ true) where
  all_keep : (t : List ℕ) → list_all test t ≡ true → map f t ≡ t
  all_keep [] h = refl
  all_keep (c ∷ t) h =
      let first : test c ≡ true = grind (arith, nat_tests) in
      let rest : list_all test t ≡ true = grind (arith, nat_tests) in
      λ i. keeps c first i ∷ all_keep t rest i

  all_kept : (t : List ℕ) → map f t ≡ t → list_all test t ≡ true
  all_kept [] h = refl
  all_kept (c ∷ t) h =
      let first : f c ≡ c = cc in
      let rest : map f t ≡ t = cc in
      let a : test c ≡ true = kept c first in
      let b : list_all test t ≡ true = all_kept t rest in
      grind (arith, nat_tests)

pub in_lowercase : (t : List ℕ) (b : Bool) → b ≡ list_all (λ c. not (is_ascii_uppercase c)) t
    → IsTrue b ↔ (lowercase t ≡ t)
in_lowercase t b e = (
  λ h. all_keep to_ascii_lowercase
      (λ c. not (is_ascii_uppercase c)) lower_is is_lower t (sym e ∙ h),
  λ h. e ∙ all_kept to_ascii_lowercase (λ c. not (is_ascii_uppercase c)) lower_is is_lower t h,
)

pub in_uppercase : (t : List ℕ) (b : Bool) → b ≡ list_all (λ c. not (is_ascii_lowercase c)) t
    → IsTrue b ↔ (uppercase t ≡ t)
in_uppercase t b e = (
  λ h. all_keep to_ascii_uppercase
      (λ c. not (is_ascii_lowercase c)) upper_is is_upper t (sym e ∙ h),
  λ h. e ∙ all_kept to_ascii_uppercase (λ c. not (is_ascii_lowercase c)) upper_is is_upper t h,
)

-- ---- a text in five sections

same_front : (a b c d : List ℕ) → length a ≡ length b → a ++ c ≡ b ++ d → (a ≡ b) × (c ≡ d)
same_front [] [] c d n e = (refl, e)
same_front [] (y ∷ b) c d n e = absurd (omega arith)
same_front (x ∷ a) [] c d n e = absurd (omega arith)
same_front (x ∷ a) (y ∷ b) c d n e =
    let more = same_front a b c d (omega arith) (let m : a ++ c ≡ b ++ d = cc in m) in
    let first : x ≡ y = cc in
    ((λ i. first i ∷ more.0 i), more.1)

from_place : (from to : ℕ) (t : List ℕ) → from ≤ to → drop from t ≡ between from to t ++ drop to t
from_place from to t le =
    sym (take-append-drop (to - from) (drop from t))
    ∙ ap (λ u. between from to t ++ u)
    (drop-drop (to - from) from t
    ∙ (let n : from + (to - from) ≡ to = omega arith in ap (λ k. drop k t) n))

module _ (ends : Ends) (t : List ℕ) (script : ends.extlang ≤ ends.script)
    (region : ends.script ≤ ends.region) where
  abbrev pub A : List ℕ
  A = take ends.extlang t

  abbrev pub B : List ℕ
  B = between ends.extlang (capital ends) t

  abbrev pub C : List ℕ
  C = between (capital ends) ends.script t

  abbrev pub D : List ℕ
  D = between ends.script ends.region t

  abbrev pub Z : List ℕ
  Z = drop ends.region t

  sections : A ++ (B ++ (C ++ (D ++ Z))) ≡ t
  sections =
      ap (λ u. A ++ u)
      (ap (λ u. B ++ u)
      (ap (λ u. C ++ u) (sym (from_place ends.script ends.region t region))
      ∙ sym (from_place (capital ends) ends.script t (omega arith)))
      ∙ sym (from_place ends.extlang (capital ends) t (omega arith)))
      ∙ take-append-drop ends.extlang t

  grouped : (a b c d e : List ℕ) → a ++ b ++ c ++ d ++ e ≡ a ++ (b ++ (c ++ (d ++ e)))
  grouped a b c d e = simp append_assoc

  pub in_case_there : lowercase A ≡ A → uppercase B ≡ B → lowercase C ≡ C → uppercase D ≡ D
      → lowercase Z ≡ Z → in_case ends t ≡ t
  in_case_there a b c d z = (λ i. a i ++ b i ++ c i ++ d i ++ z i) ∙ grouped A B C D Z ∙ sections

  pub there_in_case : in_case ends t ≡ t
      → (lowercase A ≡ A) × (uppercase B ≡ B) × (lowercase C ≡ C) × (uppercase D ≡ D)
      × (lowercase Z ≡ Z)
  there_in_case h =
      let whole =
      sym (grouped (lowercase A) (uppercase B) (lowercase C) (uppercase D) (lowercase Z)) ∙ h
      ∙ sym sections in
      let one = same_front (lowercase A) A _ _ (length-map A to_ascii_lowercase) whole in
      let two = same_front (uppercase B) B _ _ (length-map B to_ascii_uppercase) one.1 in
      let three = same_front (lowercase C) C _ _ (length-map C to_ascii_lowercase) two.1 in
      let four = same_front (uppercase D) D _ _ (length-map D to_ascii_uppercase) three.1 in
      (one.0, two.0, three.0, four.0, four.1)

-- the two pairs of sections and the last, by the place behind the capital
module _ (ends : Ends) (t : List ℕ) (script : ends.extlang ≤ ends.script)
    (region : ends.script ≤ ends.region)
    (cap : ℕ) (is : cap ≡ capital ends) where
  abbrev pub FirstPair : Type 0
  FirstPair =
      (lowercase (take ends.extlang t) ≡ take ends.extlang t)
      × (uppercase (take (cap - ends.extlang) (drop ends.extlang t))
      ≡ take (cap - ends.extlang) (drop ends.extlang t))

  abbrev pub SecondPair : Type 0
  SecondPair =
      (lowercase (take (ends.script - cap) (drop cap t)) ≡ take (ends.script - cap) (drop cap t))
      × (uppercase (between ends.script ends.region t) ≡ between ends.script ends.region t)

  abbrev pub Last : Type 0
  Last =
      lowercase (take (length t - ends.region) (drop ends.region t))
      ≡ take (length t - ends.region) (drop ends.region t)

  pub pairs_there : FirstPair → SecondPair → Last → in_case ends t ≡ t
  pairs_there a c z =
      in_case_there ends t script region a.0
      (subst (λ k. uppercase (take (k - ends.extlang) (drop ends.extlang t))
      ≡ take (k - ends.extlang) (drop ends.extlang t)) is a.1)
      (subst
      (λ k. lowercase (take (ends.script - k) (drop k t))
      ≡ take (ends.script - k) (drop k t)) is c.0)
      c.1 (subst (λ u. lowercase u ≡ u) (take_rest t ends.region) z)

  pub there_pairs : in_case ends t ≡ t → FirstPair × SecondPair × Last
  there_pairs h =
      let all = there_in_case ends t script region h in (
        (
          all.0,
          subst (λ k. uppercase (take (k - ends.extlang) (drop ends.extlang t))
              ≡ take (k - ends.extlang) (drop ends.extlang t)) (sym is) all.1,
        ),
        (
          subst (λ k. lowercase (take (ends.script - k) (drop k t))
              ≡ take (ends.script - k) (drop k t)) (sym is) all.2,
          all.3,
        ),
        subst (λ u. lowercase u ≡ u) (sym (take_rest t ends.region)) all.4,
      )

-- ---- the three kinds of tags

pub text_of_result : {A : Type 0} (t rest : List ℕ) (r : Result A ParseError) (b : Bool)
    → grandfathered t ≡ None
    → StandsBehindX rest t
    → MatchResult r (λ _. IsTrue (list_all is_private (pieces rest))) (IsFaultBehindX rest)
    → b ≡ is_ok r → IsTrue b ↔ IsText t
text_of_result t rest (Ok x) b none stands h e = (
  λ _. (Whole (lowercase t), private_use none rest stands h refl),
  λ _. e,
)
text_of_result t rest (Err fault) b none stands h e = (
  λ yes. let clash : true ≡ false = sym yes ∙ e in cc,
  λ is. absurd (never_both t is.0 fault is.1 (behind_x none rest stands h)),
)

pub fault_of_scan : (t : List ℕ) (fault : ParseError) → grandfathered t ≡ None → BeginsOtherwise t
    → scanned (pieces (lowercase t)) ≡ Err fault → IsFaultOf t fault
fault_of_scan t fault none otherwise is =
    in_pieces none otherwise
    (subst
    (λ q. MatchResult q (Scanned (pieces (lowercase t)))
    (IsFaultOfPieces (pieces (lowercase t)))) is
    (scanned_law (pieces (lowercase t)) (some_piece (lowercase t))))

pub text_of_scan : (t : List ℕ) (r : Result Ends ParseError) (b : Bool) → grandfathered t ≡ None
    → BeginsOtherwise t
    → r ≡ scanned (pieces (lowercase t)) → b ≡ is_ok r → IsTrue b ↔ IsText t
text_of_scan t (Ok ends) b none otherwise is e =
    let s = was_scanned t ends (sym is) in (
      λ _. (
        Plain s.parts,
        langtag none otherwise s.parts
            (record { shapes = s.shapes; in_order = s.in_order }) refl,
      ),
      λ _. e,
    )
text_of_scan t (Err fault) b none otherwise is e = (
  λ yes. let clash : true ≡ false = sym yes ∙ e in cc,
  λ tag. absurd (never_both t tag.0 fault tag.1 (fault_of_scan t fault none otherwise (sym is))),
)

-- a tag of the text prints it exactly where this tag does
pub print_of : (t : List ℕ) (g : Tag) → IsTagOf t g → (print g ≡ t) ↔ IsPrint t
print_of t g is = (λ e. (g, is, e), λ h. ap print (one_tag t g h.0 is h.1) ∙ h.2)

pub print_of_scan : (t : List ℕ) (ends : Ends) → grandfathered t ≡ None → BeginsOtherwise t
    → (is : scanned (pieces (lowercase t)) ≡ Ok ends) → (in_case ends t ≡ t) ↔ IsPrint t
print_of_scan t ends none otherwise is =
    let s = was_scanned t ends is in
    let tag : IsTagOf t (Plain s.parts) =
    langtag none otherwise s.parts (record { shapes = s.shapes; in_order = s.in_order }) refl in
    let same = scanned-case t ends is t (in_case ends t) refl refl in
    let both = print_of t (Plain s.parts) tag in
    (λ h. both.0 (sym same ∙ h), λ h. same ∙ both.1 h)

pub no_print : (t : List ℕ) (fault : ParseError) → IsFaultOf t fault → IsPrint t → ⊥
no_print t fault is h = never_both t h.0 fault h.1 is

-- ---- private use, and grandfathered texts

module _ {A : Type 0} (t rest : List ℕ) (r : Result A ParseError) (none : grandfathered t ≡ None)
    (stands : StandsBehindX rest t)
    (h : MatchResult r (λ _. IsTrue (list_all is_private (pieces rest)))
    (IsFaultBehindX rest)) where
  pub private_print : is_ok r ≡ true → (lowercase t ≡ t) ↔ IsPrint t
  private_print e = by r h e
    where
      by : (q : Result A ParseError)
          → MatchResult q (λ _. IsTrue (list_all is_private (pieces rest))) (IsFaultBehindX rest)
          → is_ok q ≡ true → (lowercase t ≡ t) ↔ IsPrint t
      by (Ok x) k f = print_of t (Whole (lowercase t)) (private_use none rest stands k refl)
      by (Err fault) k f = absurd (let clash : true ≡ false = sym f in cc)

  pub no_private_print : is_ok r ≡ false → IsPrint t → ⊥
  no_private_print e = by r h e
    where
      by : (q : Result A ParseError)
          → MatchResult q (λ _. IsTrue (list_all is_private (pieces rest))) (IsFaultBehindX rest)
          → is_ok q ≡ false → IsPrint t → ⊥
      by (Ok x) k f is = let clash : true ≡ false = f in cc
      by (Err fault) k f is = no_print t fault (behind_x none rest stands k) is

pub is_grandfathered_text : (t : List ℕ) (o : Option (Bor (List ℕ)))
    → option_copied o ≡ grandfathered t → is_some o ≡ true → IsText t
is_grandfathered_text t None e f = let clash : true ≡ false = sym f in cc
is_grandfathered_text t (Some x) e f = (Whole x.now, whole x.now (sym e) refl)

pub no_grandfathered : (t : List ℕ) (o : Option (Bor (List ℕ))) → option_copied o ≡ grandfathered t
    → is_some o ≡ false
    → grandfathered t ≡ None
no_grandfathered t None e f = sym e
no_grandfathered t (Some x) e f = let clash : true ≡ false = f in cc
