-- A search through a slice of texts, and that through the grandfathered tags.
use Rattle.std.proofs.Common.{◌≡◌, ℕ, ◌+◌, ◌<◌, Bool, true, false, List, [], ◌∷◌, Option, Some}
use Rattle.std.proofs.Common.{None, Bor, length, drop, get_or, map, refl, sym, ap, ◌∙◌, cond, arith}
use Rattle.std.specs.Prelude.{IsTrue, ◌↔◌, ◌&&◌, ◌||◌, nat_lt, not}
use Rattle.std.specs.List.{find, list_all, list_any}
use Rattle.std.specs.Str.{IsAscii, bytes_eq}
use Rattle.std.proofs.lemmas.Str.Ascii.{IsAscii-cons, IsAscii-nil}
use Rattle.std.proofs.lemmas.Bool.Decides.{nat_tests}
use Rattle.std.proofs.lemmas.List.{drop_more}
use Rattle.std.proofs.lemmas.Slice.Eq.{bytes_eq-Decides}
use Rattle.language_tags_grammar.specs.Grandfathered.{grandfathered, grandfathereds}
use Rattle.language_tags_grammar.specs.Grandfathered.{is_grandfathered, may_be_grandfathered}
use Rattle.language_tags_grammar.specs.Pieces.{lowercase}

module _ (test : List ℕ → Bool) (tags : List (Bor (List ℕ))) (i : ℕ) (d : Bor (List ℕ))
    (lt : i < length tags) where
  abbrev left : ℕ → Option (List ℕ)
  left k = find test (map (λ tag. tag.now) (drop k tags))

  step : left i ≡ cond (test (get_or tags i d).now) (Some (get_or tags i d).now) (left (i + 1))
  step = ap (λ ts. find test (map (λ tag. tag.now) ts)) (drop_more tags i d lt)

  pub found : test (get_or tags i d).now ≡ true → left i ≡ Some (get_or tags i d).now
  found e = step ∙ ap (λ b. cond b (Some (get_or tags i d).now) (left (i + 1))) e

  pub passed : test (get_or tags i d).now ≡ false → left i ≡ left (i + 1)
  passed e = step ∙ ap (λ b. cond b (Some (get_or tags i d).now) (left (i + 1))) e

-- what a test of texts without case says
pub same_text : (r : Bool) (s t : List ℕ) → (IsTrue r ↔ (s ≡ t)) → r ≡ true → bytes_eq s t ≡ true
same_text r s t h e = (bytes_eq-Decides s t).1 (h.0 e)

pub other_text : (r : Bool) (s t : List ℕ) → (IsTrue r ↔ (s ≡ t)) → r ≡ false → bytes_eq s t ≡ false
other_text r s t h e = by (bytes_eq s t) refl
  where
    by : (b : Bool) → bytes_eq s t ≡ b → b ≡ false
    by true g = let clash : r ≡ true = h.1 ((bytes_eq-Decides s t).0 g) in cc
    by false g = refl

not_found : (text : List ℕ) → may_be_grandfathered (lowercase text) ≡ false → (gs : List (List ℕ))
    → list_all (λ g. may_be_grandfathered (lowercase g)) gs ≡ true
    → find (λ g. bytes_eq (lowercase g) (lowercase text)) gs ≡ None
not_found text h [] e = refl
not_found text h (g ∷ gs) e =
    let head : may_be_grandfathered (lowercase g) ≡ true = grind (arith, nat_tests) in
    let tail : list_all (λ h. may_be_grandfathered (lowercase h)) gs ≡ true =
    grind (arith, nat_tests) in
    by (not_found text h gs tail) (bytes_eq (lowercase g) (lowercase text)) refl head
  where
    by : find (λ h. bytes_eq (lowercase h) (lowercase text)) gs ≡ None → (b : Bool)
        → bytes_eq (lowercase g) (lowercase text) ≡ b
        → may_be_grandfathered (lowercase g) ≡ true
        → cond b (Some g) (find (λ h. bytes_eq (lowercase h) (lowercase text)) gs) ≡ None
    by rest true same fits =
        let clash : true ≡ false =
        sym fits
        ∙ ap may_be_grandfathered ((bytes_eq-Decides (lowercase g) (lowercase text)).0 same)
        ∙ h in cc
    by rest false other fits = rest

pub not_grandfathered : (text : List ℕ) → may_be_grandfathered (lowercase text) ≡ false
    → grandfathered text ≡ None
not_grandfathered text h = not_found text h grandfathereds refl

-- what is found passes what all do
pub find-all : (p q : List ℕ → Bool) (gs : List (List ℕ)) (g : List ℕ) → find p gs ≡ Some g
    → list_all q gs ≡ true → q g ≡ true
find-all p q [] g e h = cc
find-all p q (x ∷ gs) g e h =
    let head : q x ≡ true = grind (arith, nat_tests) in
    let tail : list_all q gs ≡ true = grind (arith, nat_tests) in
    by (λ f. find-all p q gs g f tail) (p x) e head
  where
    by : (find p gs ≡ Some g → q g ≡ true) → (b : Bool) → cond b (Some x) (find p gs) ≡ Some g
        → q x ≡ true → q g ≡ true
    by rest true f passes = let same : x ≡ g = cc in ap q (sym same) ∙ passes
    by rest false f passes = rest f

small-ascii : (x : List ℕ) → list_all (λ c. nat_lt c 128) x ≡ true → IsAscii x
small-ascii [] e = IsAscii-nil
small-ascii (c ∷ x) e =
    let head : c < 128 = grind (arith, nat_tests) in
    let tail : list_all (λ d. nat_lt d 128) x ≡ true = grind (arith, nat_tests) in
    IsAscii-cons c x head (small-ascii x tail)

pub grandfathered-ascii : (text g : List ℕ) → grandfathered text ≡ Some g → IsAscii g
grandfathered-ascii text g e =
    small-ascii g
    (find-all (λ h. bytes_eq (lowercase h) (lowercase text))
    (λ x. list_all (λ c. nat_lt c 128) x) grandfathereds g e refl)

-- ---- a grandfathered tag in its own spelling

-- texts that differ also without their case
abbrev differ : List (List ℕ) → Bool
differ [] = true
differ (g ∷ gs) = not (list_any (λ h. bytes_eq (lowercase h) (lowercase g)) gs) && differ gs

abbrev is_it : List ℕ → Option (List ℕ) → Bool
is_it text None = false
is_it text (Some g) = bytes_eq g text

-- none of them is the text, where none is without its case
none_is : (text g : List ℕ) → lowercase g ≡ lowercase text → (gs : List (List ℕ))
    → list_any (λ h. bytes_eq (lowercase h) (lowercase g)) gs ≡ false
    → list_any (λ h. bytes_eq h text) gs ≡ false
none_is text g e [] h = refl
none_is text g e (x ∷ gs) h =
    let here : bytes_eq (lowercase x) (lowercase g) ≡ false = grind (arith, nat_tests) in
    let rest : list_any (λ h. bytes_eq (lowercase h) (lowercase g)) gs ≡ false =
    grind (arith, nat_tests) in
    by (bytes_eq x text) refl here (none_is text g e gs rest)
  where
    by : (b : Bool) → bytes_eq x text ≡ b → bytes_eq (lowercase x) (lowercase g) ≡ false
        → list_any (λ h. bytes_eq h text) gs ≡ false
        → b || list_any (λ h. bytes_eq h text) gs ≡ false
    by true same here rest =
        let low : lowercase x ≡ lowercase g =
        ap lowercase ((bytes_eq-Decides x text).0 same) ∙ sym e in
        let clash : true ≡ false =
        sym ((bytes_eq-Decides (lowercase x) (lowercase g)).1 low) ∙ here in cc
    by false other here rest = rest

found_is : (text : List ℕ) (gs : List (List ℕ)) → differ gs ≡ true
    → is_it text (find (λ g. bytes_eq (lowercase g) (lowercase text)) gs)
    ≡ list_any (λ g. bytes_eq g text) gs
found_is text [] d = refl
found_is text (g ∷ gs) d =
    let apart : list_any (λ h. bytes_eq (lowercase h) (lowercase g)) gs ≡ false =
    grind (arith, nat_tests) in
    let rest : differ gs ≡ true = grind (arith, nat_tests) in
    by (bytes_eq (lowercase g) (lowercase text)) refl (bytes_eq g text) refl apart
    (found_is text gs rest)
  where
    by : (a : Bool) → bytes_eq (lowercase g) (lowercase text) ≡ a → (b : Bool) → bytes_eq g text ≡ b
        → list_any (λ h. bytes_eq (lowercase h) (lowercase g)) gs ≡ false
        → is_it text (find (λ h. bytes_eq (lowercase h) (lowercase text)) gs)
        ≡ list_any (λ h. bytes_eq h text) gs
        → is_it text (cond a (Some g) (find (λ h. bytes_eq (lowercase h) (lowercase text)) gs))
        ≡ b || list_any (λ h. bytes_eq h text) gs
    by true low true same apart rest = same
    by true low false other apart rest =
        other
        ∙ sym
        (none_is text g ((bytes_eq-Decides (lowercase g) (lowercase text)).0 low) gs apart)
    by false low true same apart rest =
        let clash : true ≡ false =
        sym
        ((bytes_eq-Decides (lowercase g) (lowercase text)).1
        (ap lowercase ((bytes_eq-Decides g text).0 same))) ∙ low in cc
    by false low false other apart rest = rest

pub is_grandfathered_is : (text : List ℕ) (o : Option (List ℕ)) → o ≡ grandfathered text
    → is_it text o ≡ is_grandfathered text
is_grandfathered_is text o e = ap (is_it text) e ∙ found_is text grandfathereds refl
