-- Fronts of a text that end another.
use Rattle.std.specs.Prelude.{nat_eq}
use Rattle.std.specs.List.{ends_with}
use Rattle.std.proofs.Common.{◌≡◌, ℕ, ◌+◌, ◌-◌, ◌≤◌, ◌<◌, zero, suc, Bool, true, false, List, []}
use Rattle.std.proofs.Common.{◌∷◌, ◌++◌, length, take, drop, get_or, if◌then◌else◌, refl, sym, ap}
use Rattle.std.proofs.Common.{◌∙◌, subst, arith, append-nil, append_assoc, length-append, ◌⊎◌, inl}
use Rattle.std.proofs.Common.{inr}
use Rattle.std.proofs.lemmas.List.{drop-append-le, length-take-le, take_more, same_from_push}
use Rattle.std.proofs.lemmas.Slice.Eq.{ends_is}
use Rattle.std.proofs.lemmas.Bool.{cases_lt}
use Rattle.std.proofs.lemmas.Bool.Decides.{Decides-eqb}
use Rattle.std.proofs.Math.Seq.{drop-append_seam, take-length}
use Rattle.writeable_replace.specs.Overlap.{Ends, IsOverlap, greatest, overlap}

-- ---- ends of a text

-- every text ends with the empty one
pub ends_nothing : (w : List ℕ) → Ends [] w
ends_nothing w = record { before = w; parts = append-nil w }

pub ends_whole : (w : List ℕ) → Ends w w
ends_whole w = record { before = []; parts = refl }

-- an end of an end
pub ends_both : {x y w : List ℕ} → Ends x y → Ends y w → Ends x w
ends_both {x} {y} {w} p q = record {
  before = q.before ++ p.before;
  parts = append_assoc q.before p.before x ∙ ap (λ l. q.before ++ l) p.parts ∙ q.parts;
}

-- an end is no longer than the text
pub ends_length : {x w : List ℕ} → Ends x w → length x ≤ length w
ends_length {x} {w} p = omega (arith, ap length (sym p.parts), length-append p.before x)

-- of two ends of one text the shorter one ends the longer one
pub ends_shorter : {x y w : List ℕ} → Ends x w → Ends y w → length x ≤ length y → Ends x y
ends_shorter {x} {y} {w} p q le =
    let same : p.before ++ x ≡ q.before ++ y = p.parts ∙ sym q.parts in
    let within : length q.before ≤ length p.before =
    omega (arith, ap length same, length-append p.before x, length-append q.before y) in
    record {
      before = drop (length q.before) p.before;
      parts = sym (drop-append-le (length q.before) p.before x within)
          ∙ ap (drop (length q.before)) same ∙ drop-append_seam q.before y;
    }

-- one character more on both
pub ends_more : {x w : List ℕ} (c : ℕ) → Ends x w → Ends (x ++ c ∷ []) (w ++ c ∷ [])
ends_more {x} {w} c p = record {
  before = p.before;
  parts = sym (append_assoc p.before x (c ∷ [])) ∙ ap (λ l. l ++ c ∷ []) p.parts;
}

-- one character less on both
pub ends_less : {x w : List ℕ} (c d : ℕ) → Ends (x ++ c ∷ []) (w ++ d ∷ []) → Ends x w × (c ≡ d)
ends_less {x} {w} c d p =
    let same = same_from_push (p.before ++ x) w c d (append_assoc p.before x (c ∷ []) ∙ p.parts) in
    (record { before = p.before; parts = same.0 }, same.1)

-- ---- the longest front

greatest_here : (test : ℕ → Bool) (n : ℕ) → test (suc n) ≡ true → greatest test (suc n) ≡ suc n
greatest_here test n is = ap (λ b. if b then suc n else greatest test n) is

greatest_below : (test : ℕ → Bool) (n : ℕ) → test (suc n) ≡ false
    → greatest test (suc n) ≡ greatest test n
greatest_below test n is = ap (λ b. if b then suc n else greatest test n) is

greatest_le : (test : ℕ → Bool) (n : ℕ) → greatest test n ≤ n
greatest_le test zero = omega arith
greatest_le test (suc n) = cases (greatest_le test n) (test (suc n)) refl where
  cases : greatest test n ≤ n → (b : Bool) → test (suc n) ≡ b → greatest test (suc n) ≤ suc n
  cases before true is = omega (arith, greatest_here test n is)
  cases before false is = omega (arith, greatest_below test n is)

greatest_passes : (test : ℕ → Bool) (n : ℕ) → test 0 ≡ true → test (greatest test n) ≡ true
greatest_passes test zero none = none
greatest_passes test (suc n) none = cases (greatest_passes test n none) (test (suc n)) refl where
  cases : test (greatest test n) ≡ true → (b : Bool) → test (suc n) ≡ b
      → test (greatest test (suc n)) ≡ true
  cases before true is = ap test (greatest_here test n is) ∙ is
  cases before false is = ap test (greatest_below test n is) ∙ before

greatest_longest : (test : ℕ → Bool) (n i : ℕ) → i ≤ n → test i ≡ true → i ≤ greatest test n
greatest_longest test zero i le passes = omega arith
greatest_longest test (suc n) i le passes =
    cases (λ less. greatest_longest test n i less passes) (test (suc n)) refl (cases_lt n i)
  where
    cases : (i ≤ n → i ≤ greatest test n) → (b : Bool) → test (suc n) ≡ b → (n < i) ⊎ (i ≤ n)
        → i ≤ greatest test (suc n)
    cases before true is _ = omega (arith, greatest_here test n is)
    cases before false is (inr less) = let within = before less in
        omega (arith, greatest_below test n is)
    cases before false is (inl last) =
        let same : i ≡ suc n = omega arith in
        let e : true ≡ false = sym passes ∙ ap test same ∙ is in
        absurd (cc)

ends_tested : (w part : List ℕ) → ends_with nat_eq w part ≡ true → Ends part w
ends_tested w part e = record {
  before = take (length w - length part) w;
  parts = sym ((ends_is Decides-eqb w part (ends_with nat_eq w part) refl).0 e);
}

tests_ends : (w part : List ℕ) → Ends part w → ends_with nat_eq w part ≡ true
tests_ends w part p =
    (ends_is Decides-eqb w part (ends_with nat_eq w part) refl).1 p.before (sym p.parts)

-- `overlap` is the length of the longest one
pub overlap_is : (p w : List ℕ) → IsOverlap p w (overlap p w)
overlap_is p w =
    let test = λ (j : ℕ). ends_with nat_eq w (take j p) in
    record {
      proper = greatest_le test (length p - 1);
      ends =
          ends_tested w (take (overlap p w) p)
          (greatest_passes test (length p - 1) (tests_ends w [] (ends_nothing w)));
      longest =
          λ i le ends. greatest_longest test (length p - 1) i le (tests_ends w (take i p) ends);
    }

-- and there is one such length
pub overlap_one : (p w : List ℕ) (i j : ℕ) → IsOverlap p w i → IsOverlap p w j → i ≡ j
overlap_one p w i j a b =
    let up = b.longest i a.proper a.ends in
    let down = a.longest j b.proper b.ends in
    omega arith

pub overlap_by : (p w : List ℕ) (j : ℕ) → IsOverlap p w j → j ≡ overlap p w
overlap_by p w j is = overlap_one p w j (overlap p w) is (overlap_is p w)

-- a front shorter than p is its own longest one
pub overlap_front : (p : List ℕ) (k : ℕ) → k ≤ length p - 1 → IsOverlap p (take k p) k
overlap_front p k le = record {
  proper = le;
  ends = ends_whole (take k p);
  longest = λ i proper ends.
      omega (
        arith,
        ends_length ends,
        length-take-le i p (omega arith),
        length-take-le k p (omega arith),
      );
}

-- a front of p with a character more is a front with one more
pub front_more : (p : List ℕ) (i : ℕ) → suc i ≤ length p
    → take (suc i) p ≡ take i p ++ get_or p i 0 ∷ []
front_more p i le = let one : suc i ≡ i + 1 = omega arith in
    ap (λ n. take n p) one ∙ take_more p i 0 (omega arith)

-- The longest front that ends a text and a character is one that ends the longest front before, and
-- the character.
pub overlap_more : (p w : List ℕ) (k c j : ℕ) → IsOverlap p w k → IsOverlap p (take k p ++ c ∷ []) j
    → IsOverlap p (w ++ c ∷ []) j
overlap_more p w k c j was now = record {
  proper = now.proper;
  ends = ends_both now.ends (ends_more c was.ends);
  longest = longer;
} where
  longer : (i : ℕ) → i ≤ length p - 1 → Ends (take i p) (w ++ c ∷ []) → i ≤ j
  longer zero le ends = omega arith
  longer (suc i) le ends =
      let last = front_more p i (omega arith) in
      let less = ends_less (get_or p i 0) c (subst (λ l. Ends l (w ++ c ∷ [])) last ends) in
      let within = was.longest i (omega arith) less.0 in
      let inner =
      ends_shorter less.0 was.ends
      (omega (
        arith,
        length-take-le i p (omega arith),
        length-take-le k p (omega (arith, was.proper)),
      )) in
      let more = ends_more c inner in
      now.longest (suc i) le
      (subst (λ l. Ends l (take k p ++ c ∷ []))
      (ap (λ d. take i p ++ d ∷ []) (sym less.1) ∙ sym last) more)

-- where p ends a text and a character, the longest front before and the character are p
pub overlap_whole : (p w : List ℕ) (k c : ℕ) → 1 ≤ length p → IsOverlap p w k → Ends p (w ++ c ∷ [])
    → take k p ++ c ∷ [] ≡ p
overlap_whole p w k c some was ends =
    let n = length p - 1 in
    let one : length p ≡ n + 1 = omega arith in
    let last : p ≡ take n p ++ get_or p n 0 ∷ [] =
    sym (take-length p) ∙ ap (λ m. take m p) one ∙ take_more p n 0 (omega arith) in
    let less = ends_less (get_or p n 0) c (subst (λ l. Ends l (w ++ c ∷ [])) last ends) in
    let within = was.longest n (omega arith) less.0 in
    let same : k ≡ n = omega (arith, was.proper) in
    ap (λ m. take m p ++ c ∷ []) same ∙ ap (λ d. take n p ++ d ∷ []) (sym less.1) ∙ sym last
