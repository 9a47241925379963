-- How far a match goes back where the next character doesn't go on with it.
use Rattle.std.specs.Prelude.{chars, IsUtf8, IsCharBoundary, nat_eq}
use Rattle.std.specs.Char.{len_utf8}
use Rattle.std.specs.List.{starts_with}
use Rattle.std.proofs.Common.{◌≡◌, ℕ, ◌+◌, ◌-◌, ◌≤◌, ◌<◌, zero, suc, true, false, List, [], ◌∷◌}
use Rattle.std.proofs.Common.{◌++◌, length, take, drop, get_or, sym, ap, ◌∙◌, subst, arith}
use Rattle.std.proofs.Common.{append-nil, append_assoc, length-append, ◌⊎◌, inl, inr}
use Rattle.std.proofs.lemmas.List.{length-take-le, take-take, take_all, drop_at, length-drop}
use Rattle.std.proofs.lemmas.Bool.{cases_order}
use Rattle.std.proofs.lemmas.Str.{encodes-chars, encodes-append, IsUtf8-take, IsUtf8-drop}
use Rattle.std.proofs.lemmas.Str.{IsCharBoundary-start, IsCharBoundary-from_take}
use Rattle.std.proofs.lemmas.Str.{IsCharBoundary-from_drop}
use Rattle.std.proofs.Math.Seq.{take-length}
use Rattle.writeable_replace.specs.Overlap.{Ends, IsOverlap}
use Rattle.writeable_replace.specs.OverlapLaws.{ends_nothing, ends_whole, ends_both, ends_length}
use Rattle.writeable_replace.specs.OverlapLaws.{ends_shorter, ends_more, ends_less, front_more}
use Rattle.writeable_replace.specs.Passed.{so_far, Came}
use Rattle.writeable_replace.specs.PassedLaws.{Step, whole, part, step_came}
use Rattle.writeable_replace.specs.Position.{position, IsPosition, GoesOn, IsTried, Border, Resumed}
use Rattle.writeable_replace.specs.PositionLaws.{cut_chars, front_chars, position_none, next_bytes}
use Rattle.writeable_replace.specs.PositionLaws.{some_chars}
use lib.Utf8.{encode, encodes}

-- all that was matched is tried first
pub tried_start : (p : List ℕ) (k c : ℕ) → IsTried p k c k
tried_start p k c = record {
  within = omega arith;
  ends = ends_whole (take k p);
  longer = λ l less le. absurd (omega arith);
}

-- then the longest shorter front that ends it
pub tried_next : (p : List ℕ) (k c i j : ℕ) → k ≤ length p → IsTried p k c i
    → (GoesOn p i c → ⊥) → 1 ≤ i
    → IsOverlap (take i p) (take i p) j → IsTried p k c j
tried_next p k c i j le tried fails some over =
    let len = length-take-le i p (omega (arith, tried.within)) in
    let inner : take j (take i p) ≡ take j p = take-take j i p (omega (arith, over.proper)) in
    record {
      within = omega (arith, over.proper, tried.within);
      ends = ends_both (subst (λ s. Ends s (take i p)) inner over.ends) tried.ends;
      longer = λ l less within ends on. longer l less within ends on (cases_order l i);
    }
  where
    longer : (l : ℕ) → j < l → l ≤ k → Ends (take l p) (take k p) → GoesOn p l c
        → (l ≡ i) ⊎ ((l < i) ⊎ (i < l)) → ⊥
    longer l less within ends on (inl same) = fails (subst (λ n. GoesOn p n c) same on)
    longer l less within ends on (inr (inr more)) = tried.longer l more within ends on
    longer l less within ends on (inr (inl shorter)) =
        let len = length-take-le i p (omega (arith, tried.within)) in
        let short = length-take-le l p (omega arith) in
        let inner = ends_shorter ends tried.ends (omega arith) in
        let own : Ends (take l (take i p)) (take i p) =
        subst (λ s. Ends s (take i p)) (sym (take-take l i p (omega arith))) inner in
        let bound = over.longest l (omega arith) own in
        omega arith

-- a front that ends a text and a character is a front that ends the text and goes on with the
-- character
ends_on : (p w : List ℕ) (l c : ℕ) → suc l ≤ length p → Ends (take (suc l) p) (w ++ c ∷ [])
    → Ends (take l p) w × GoesOn p l c
ends_on p w l c le ends =
    let last = front_more p l le in
    let less = ends_less (get_or p l 0) c (subst (λ s. Ends s (w ++ c ∷ [])) last ends) in
    (less.0, last ∙ ap (λ d. take l p ++ d ∷ []) less.1)

-- where the matched text and the character are p, p goes on with it
on_by_whole : (p : List ℕ) (k c : ℕ) → take k p ++ c ∷ [] ≡ p → k ≤ length p
    → (GoesOn p k c) × (length p ≡ suc k)
on_by_whole p k c is le =
    let len : length p ≡ suc k =
    omega (arith, ap length is, length-append (take k p) (c ∷ []), length-take-le k p le) in
    (take_all (suc k) p (omega arith) ∙ sym is, len)

-- nothing of the needle goes on: all is passed on
pub tried_none : (p r : List ℕ) (k c : ℕ) → k ≤ length p - 1 → IsTried p k c 0 → (GoesOn p 0 c → ⊥)
    → Step p r k c 0 (take k p ++ c ∷ [])
tried_none p r k c le tried fails =
    part 0 (take k p ++ c ∷ [])
    (λ is. let on = on_by_whole p k c is (omega arith) in
    never k (omega arith) (ends_whole (take k p)) on.0)
    (record { proper = omega arith; ends = ends_nothing (take k p ++ c ∷ []); longest = longest })
    (append-nil (take k p ++ c ∷ []))
  where
    never : (l : ℕ) → l ≤ k → Ends (take l p) (take k p) → GoesOn p l c → ⊥
    never zero within ends on = fails on
    never (suc l) within ends on = tried.longer (suc l) (omega arith) within ends on

    longest : (m : ℕ) → m ≤ length p - 1 → Ends (take m p) (take k p ++ c ∷ []) → m ≤ 0
    longest zero within ends = omega arith
    longest (suc l) within ends =
        let on = ends_on p (take k p) l c (omega arith) ends in
        let short : l ≤ k =
        omega (
          arith,
          ends_length on.0,
          length-take-le l p (omega arith),
          length-take-le k p (omega arith),
        ) in
        absurd (never l short on.0 on.1)

-- a front goes on, and isn't p yet
pub tried_part : (p r : List ℕ) (k c i : ℕ) (o : List ℕ) → k ≤ length p - 1 → IsTried p k c i
    → GoesOn p i c → suc i < length p
    → o ++ take i p ≡ take k p → Step p r k c (suc i) o
tried_part p r k c i o le tried on short parts =
    part (suc i) o
    (λ is. let whole = on_by_whole p k c is (omega arith) in
    tried.longer k (omega arith) (omega arith) (ends_whole (take k p)) whole.0)
    (record {
      proper = omega arith;
      ends = subst (λ s. Ends s (take k p ++ c ∷ [])) (sym on) (ends_more c tried.ends);
      longest = longest;
    })
    (ap (λ s. o ++ s) on ∙ sym (append_assoc o (take i p) (c ∷ [])) ∙ ap (λ s. s ++ c ∷ []) parts)
  where
    bound : (l : ℕ) → l ≤ k → Ends (take l p) (take k p) → GoesOn p l c
        → (l ≡ i) ⊎ ((l < i) ⊎ (i < l)) → suc l ≤ suc i
    bound l within ends further (inl same) = omega arith
    bound l within ends further (inr (inl less)) = omega arith
    bound l within ends further (inr (inr more)) = absurd (tried.longer l more within ends further)

    longest : (m : ℕ) → m ≤ length p - 1 → Ends (take m p) (take k p ++ c ∷ []) → m ≤ suc i
    longest zero within ends = omega arith
    longest (suc l) within ends =
        let further = ends_on p (take k p) l c (omega arith) ends in
        let within : l ≤ k =
        omega (
          arith,
          ends_length further.0,
          length-take-le l p (omega arith),
          length-take-le k p (omega arith),
        ) in
        bound l within further.0 further.1 (cases_order l i)

-- p is whole
pub tried_whole : (p r : List ℕ) (k c i : ℕ) → k ≤ length p - 1 → IsTried p k c i → GoesOn p i c
    → length p ≤ suc i → Step p r k c 0 r
tried_whole p r k c i le tried on long =
    let same : i ≡ k = omega (arith, tried.within) in
    whole (sym (subst (λ n. GoesOn p n c) same on) ∙ take_all (suc k) p (omega arith))

-- what can't belong to a match any more is the front of the needle that is left when the kept one
-- is taken from the matched one
pub record Released (needle : List ℕ) (matched kept : ℕ) : Type 0 where
  pub boundary : IsCharBoundary needle (matched - kept)
  pub parts : chars (take (matched - kept) needle) ++ take (position needle kept) (chars needle)
      ≡ take (position needle matched) (chars needle)

pub released : (needle : List ℕ) (matched kept : ℕ) → IsUtf8 needle → IsCharBoundary needle matched
    → IsCharBoundary needle kept → kept ≤ matched
    → Ends (take (position needle kept) (chars needle))
    (take (position needle matched) (chars needle)) → Released needle matched kept
released needle matched kept utf8 at at_kept le ends =
    let p = chars needle in
    let n = matched - kept in
    let f = take matched needle in
    let g = take kept needle in
    let f_utf8 = IsUtf8-take needle matched utf8 at in
    let g_utf8 = IsUtf8-take needle kept utf8 at_kept in
    let f_chars = front_chars needle matched utf8 at in
    let g_chars = front_chars needle kept utf8 at_kept in
    let f_bytes : f ≡ encodes ends.before ++ g =
    sym (encodes-chars f f_utf8) ∙ ap encodes (f_chars ∙ sym ends.parts)
    ∙ encodes-append ends.before (take (position needle kept) p)
    ∙ ap (λ s. encodes ends.before ++ s) (ap encodes (sym g_chars) ∙ encodes-chars g g_utf8) in
    let len : length (encodes ends.before) ≡ n =
    omega (
      arith,
      ap length f_bytes,
      length-append (encodes ends.before) g,
      length-take-le matched needle at.0,
      length-take-le kept needle at_kept.0,
    ) in
    let rest : drop n f ≡ g = ap (drop n) f_bytes ∙ drop_at (encodes ends.before) g n len in
    let inner =
    IsCharBoundary-from_drop f n (omega (arith, length-take-le matched needle at.0))
    (subst IsUtf8 (sym rest) g_utf8) in
    let front : take n f ≡ take n needle = take-take n matched needle (omega arith) in
    let boundary =
    IsCharBoundary-from_take needle n utf8 (omega (arith, at.0))
    (subst IsUtf8 front (IsUtf8-take f n f_utf8 inner)) in
    record {
      boundary = boundary;
      parts = ap (λ s. chars s ++ take (position needle kept) p) (sym front)
          ∙ ap (λ s. chars (take n f) ++ s) (sym g_chars ∙ ap chars (sym rest))
          ∙ sym (cut_chars f n f_utf8 inner) ∙ f_chars;
    }

-- ---- by bytes

-- the needle doesn't go on: the longest front of what is matched still is tried next
pub record BackedOff (needle : List ℕ) (matched c kept : ℕ) : Type 0 where
  pub boundary : IsCharBoundary needle kept
  pub tried : IsTried (chars needle) (position needle matched) c (position needle kept)

pub back_off : (needle : List ℕ) (matched c kept n : ℕ) → IsUtf8 needle → IsPosition needle matched
    → IsCharBoundary needle kept
    → IsTried (chars needle) (position needle matched) c (position needle kept)
    → starts_with nat_eq (drop kept needle) (encode c) ≡ false
    → 1 ≤ kept → Border (take kept needle) n → n < kept → BackedOff needle matched c n
back_off needle matched c kept n utf8 at at_kept tried fails some border less =
    let p = chars needle in
    let g = take kept needle in
    let g_utf8 = IsUtf8-take needle kept utf8 at_kept in
    let g_chars = front_chars needle kept utf8 at_kept in
    let inner : take n g ≡ take n needle = take-take n kept needle (omega arith) in
    let same : position g n ≡ position needle n = ap (λ s. length (chars s)) inner in
    let boundary =
    IsCharBoundary-from_take needle n utf8 (omega (arith, at_kept.0))
    (subst IsUtf8 inner (IsUtf8-take g n g_utf8 border.boundary)) in
    let over :
    IsOverlap (take (position needle kept) p) (take (position needle kept) p)
    (position needle n) =
    subst (λ s. IsOverlap s s (position needle n)) g_chars
    (subst (IsOverlap (chars g) (chars g)) same border.overlap) in
    let one =
    some_chars (chars g) kept
    (ap length (encodes-chars g g_utf8) ∙ length-take-le kept needle at_kept.0) some in
    record {
      boundary = boundary;
      tried =
          tried_next p (position needle matched) c (position needle kept) (position needle n)
          (omega (arith, at.proper)) tried
          (λ on. let yes : true ≡ false = sym (next_bytes needle kept c utf8 at_kept on)
          ∙ fails in cc) one over;
    }

-- no byte is a position
pub position_start : (needle : List ℕ) → IsUtf8 needle → IsPosition needle 0
position_start needle utf8 = record {
  boundary = IsCharBoundary-start needle utf8;
  proper = omega (arith, position_none needle);
}

-- what a character comes to, where the needle goes on with it nowhere
pub none_came : (needle r : List ℕ) (matched c : ℕ) → IsUtf8 needle → IsPosition needle matched
    → IsTried (chars needle) (position needle matched) c 0
    → (GoesOn (chars needle) 0 c → ⊥)
    → Came (chars needle) r (so_far (chars needle) (position needle matched) (c ∷ []))
    (position needle 0) (chars (take matched needle) ++ c ∷ [])
none_came needle r matched c utf8 at tried fails =
    let p = chars needle in
    let k = position needle matched in
    subst (λ s. Came p r (so_far p k (c ∷ [])) (position needle 0) (s ++ c ∷ []))
    (sym (front_chars needle matched utf8 at.boundary))
    (subst (λ j. Came p r (so_far p k (c ∷ [])) j (take k p ++ c ∷ [])) (sym (position_none needle))
    (step_came p r (tried_none p r k c at.proper tried fails) at.proper))

-- where it goes on, and isn't whole yet
pub record Part (needle r : List ℕ) (matched c kept : ℕ) : Type 0 where
  pub came : Came (chars needle) r (so_far (chars needle) (position needle matched) (c ∷ []))
      (position needle (kept + len_utf8 c)) (chars (take (matched - kept) needle))
  pub position : IsPosition needle (kept + len_utf8 c)
  pub boundary : IsCharBoundary needle (matched - kept)

pub part_came : (needle r : List ℕ) (matched c kept : ℕ) → IsUtf8 needle → IsPosition needle matched
    → Resumed needle matched c kept
    → (kept + len_utf8 c ≡ length needle → ⊥) → Part needle r matched c kept
part_came needle r matched c kept utf8 at resumed open_still =
    let p = chars needle in
    let k = position needle matched in
    let end = kept + len_utf8 c in
    let free =
    released needle matched kept utf8 at.boundary resumed.boundary resumed.within
    resumed.tried.ends in
    let cut = cut_chars needle end utf8 resumed.next.boundary in
    let rest_utf8 = IsUtf8-drop needle end utf8 resumed.next.boundary in
    let some =
    some_chars (chars (drop end needle)) (length needle - end)
    (ap length (encodes-chars (drop end needle) rest_utf8) ∙ length-drop end needle)
    (let within = resumed.next.boundary.0 in omega arith) in
    let total : length p ≡ position needle end + length (chars (drop end needle)) =
    ap length cut ∙ length-append (chars (take end needle)) (chars (drop end needle)) in
    let short : suc (position needle kept) < length p = omega (arith, resumed.next.position) in
    let step =
    tried_part p r k c (position needle kept)
    (chars (take (matched - kept) needle)) at.proper resumed.tried resumed.next.goes_on
    short free.parts in
    record {
      came = subst (λ j. Came p r (so_far p k (c ∷ [])) j (chars (take (matched - kept) needle)))
          (sym resumed.next.position) (step_came p r step at.proper);
      position =
          record {
            boundary = resumed.next.boundary;
            proper = omega (arith, resumed.next.position);
          };
      boundary = free.boundary;
    }

-- and where the needle is whole
pub whole_came : (needle r : List ℕ) (matched c kept : ℕ) → IsUtf8 needle
    → IsPosition needle matched → Resumed needle matched c kept
    → kept + len_utf8 c ≡ length needle
    → Came (chars needle) r (so_far (chars needle) (position needle matched) (c ∷ []))
    (position needle 0) r
whole_came needle r matched c kept utf8 at resumed ends =
    let p = chars needle in
    let k = position needle matched in
    let all : position needle (kept + len_utf8 c) ≡ length p =
    ap (λ n. length (chars n)) (ap (λ n. take n needle) ends ∙ take-length needle) in
    let step =
    tried_whole p r k c (position needle kept) at.proper resumed.tried resumed.next.goes_on
    (omega (arith, resumed.next.position, all)) in
    subst (λ j. Came p r (so_far p k (c ∷ [])) j r) (sym (position_none needle))
    (step_came p r step at.proper)
