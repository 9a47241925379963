-- First occurrences, and a text in which they are replaced.
use Rattle.std.specs.Prelude.{option_map}
use Rattle.std.proofs.Common.{◌≡◌, ℕ, ◌+◌, ◌-◌, ◌≤◌, ◌<◌, zero, suc, Bool, true, false, List, []}
use Rattle.std.proofs.Common.{◌∷◌, ◌++◌, length, take, drop, Option, Some, None, if◌then◌else◌}
use Rattle.std.proofs.Common.{refl, sym, ap, ◌∙◌, subst, arith, append-nil, append_assoc}
use Rattle.std.proofs.Common.{length-append, ◌⊎◌, inl, inr}
use Rattle.std.proofs.lemmas.List.{take-append-le, drop_all}
use Rattle.std.proofs.lemmas.Slice.Eq.{starts_is}
use Rattle.std.proofs.lemmas.Bool.{cases_lt}
use Rattle.std.proofs.lemmas.Bool.Decides.{Decides-eqb}
use Rattle.std.proofs.Math.Seq.{drop-append-add, take-append_seam, drop-append_seam}
use Rattle.writeable_replace.specs.Replaced.{stands, first_at, replaced_times, behind_times}
use Rattle.writeable_replace.specs.Overlap.{Ends}

-- ---- where a text stands

-- what stands at the front is there, and isn't empty
pub stands-there : (p s : List ℕ) → stands p s ≡ true
    → (s ≡ p ++ drop (length p) s) × (1 ≤ length p)
stands-there [] s e = absurd (cc)
stands-there (b ∷ p) s e =
    ((starts_is Decides-eqb s (b ∷ p) (stands (b ∷ p) s) refl).0 e, omega arith)

-- a text that isn't empty stands in front of whatever is behind it
pub stands-before : (p t : List ℕ) → 1 ≤ length p → stands p (p ++ t) ≡ true
stands-before [] t some = absurd (omega arith)
stands-before (b ∷ p) t some =
    (starts_is Decides-eqb (b ∷ (p ++ t)) (b ∷ p) (stands (b ∷ p) (b ∷ (p ++ t))) refl).1 t refl

-- what stands in the first characters of a text doesn't depend on what follows
pub stands-append : (p s t : List ℕ) → length p ≤ length s → stands p (s ++ t) ≡ stands p s
stands-append [] s t le = refl
stands-append (b ∷ p) s t le = rw (take-append-le (suc (length p)) s t le) refl

-- a text no longer than the one that stands at its front is that one
stands-whole : (p s : List ℕ) → stands p s ≡ true → length s ≤ length p → Ends p s
stands-whole p s is le =
    let there = stands-there p s is in
    let rest : drop (length p) s ≡ [] = drop_all (length p) s le in
    record {
      before = [];
      parts = sym (append-nil p) ∙ ap (λ l. p ++ l) (sym rest) ∙ sym there.0;
    }

ends-behind : {p s : List ℕ} (b : ℕ) → Ends p s → Ends p (b ∷ s)
ends-behind b e = record { before = b ∷ e.before; parts = ap (λ l. b ∷ l) e.parts }

-- ---- the first occurrence

first_front : (p s : List ℕ) (c : ℕ) → stands p (c ∷ s) ≡ true → first_at p (c ∷ s) ≡ Some 0
first_front p s c e = ap (λ b. if b then Some 0 else option_map (λ i. i + 1) (first_at p s)) e

first_later : (p s : List ℕ) (c : ℕ) → stands p (c ∷ s) ≡ false
    → first_at p (c ∷ s) ≡ option_map (λ i. i + 1) (first_at p s)
first_later p s c e = ap (λ b. if b then Some 0 else option_map (λ i. i + 1) (first_at p s)) e

none_front : (p s : List ℕ) (c : ℕ) → first_at p (c ∷ s) ≡ None → stands p (c ∷ s) ≡ false
none_front p s c none = cases (stands p (c ∷ s)) refl where
  cases : (b : Bool) → stands p (c ∷ s) ≡ b → stands p (c ∷ s) ≡ false
  cases true is =
      let front : first_at p (c ∷ s) ≡ Some 0 = first_front p s c is in
      absurd (cc (front, none))
  cases false is = is

none_later : (p s : List ℕ) (c : ℕ) → first_at p (c ∷ s) ≡ None → first_at p s ≡ None
none_later p s c none = cases (first_at p s) refl where
  cases : (o : Option ℕ) → first_at p s ≡ o → first_at p s ≡ None
  cases None is = is
  cases (Some i) is =
      let later : first_at p (c ∷ s) ≡ Some (i + 1) =
      first_later p s c (none_front p s c none) ∙ ap (option_map (λ i. i + 1)) is in
      absurd (cc (later, none))

-- a text shorter than p has it nowhere
pub none_in_shorter : (p s : List ℕ) → length s ≤ length p - 1 → first_at p s ≡ None
none_in_shorter p [] le = refl
none_in_shorter p (c ∷ s) le =
    cases (none_in_shorter p s (omega arith)) (stands p (c ∷ s)) refl where
      cases : first_at p s ≡ None → (b : Bool) → stands p (c ∷ s) ≡ b → first_at p (c ∷ s) ≡ None
      cases later true is =
          let there = stands-there p (c ∷ s) is in
          absurd (omega (arith, ap length there.0, length-append p (drop (length p) (c ∷ s))))
      cases later false is = first_later p s c is ∙ ap (option_map (λ i. i + 1)) later

-- one character more, and no occurrence ends there
pub none_more : (p w : List ℕ) (c : ℕ) → first_at p w ≡ None → (Ends p (w ++ c ∷ []) → ⊥)
    → first_at p (w ++ c ∷ []) ≡ None
none_more p [] c none unended = cases (stands p (c ∷ [])) refl where
  cases : (b : Bool) → stands p (c ∷ []) ≡ b → first_at p (c ∷ []) ≡ None
  cases true is = let there = stands-there p (c ∷ []) is in
      absurd (unended (stands-whole p (c ∷ []) is there.1))
  cases false is = first_later p [] c is
none_more p (b ∷ w) c none unended =
    cases (none_more p w c (none_later p w b none) (λ e. unended (ends-behind b e)))
    (stands p (b ∷ (w ++ c ∷ []))) refl
  where
    short : stands p (b ∷ (w ++ c ∷ [])) ≡ true
        → (length (b ∷ w) < length p) ⊎ (length p ≤ length (b ∷ w)) → ⊥
    short is (inr le) =
        let e : true ≡ false =
        sym is ∙ stands-append p (b ∷ w) (c ∷ []) le ∙ none_front p w b none in cc
    short is (inl le) =
        unended (stands-whole p (b ∷ (w ++ c ∷ [])) is (omega (arith, length-append w (c ∷ []))))

    cases : first_at p (w ++ c ∷ []) ≡ None → (v : Bool) → stands p (b ∷ (w ++ c ∷ [])) ≡ v
        → first_at p (b ∷ (w ++ c ∷ [])) ≡ None
    cases later true is = absurd (short is (cases_lt (length (b ∷ w)) (length p)))
    cases later false is = first_later p (w ++ c ∷ []) b is ∙ ap (option_map (λ i. i + 1)) later

-- one character more, and an occurrence ends there: it is the first
pub first_there : (p u w s : List ℕ) (c : ℕ) → first_at p w ≡ None → 1 ≤ length p
    → u ++ p ≡ w ++ c ∷ []
    → first_at p (u ++ (p ++ s)) ≡ Some (length u)
first_there [] [] w s c none some e = absurd (omega arith)
first_there (b ∷ p) [] w s c none some e =
    first_front (b ∷ p) (p ++ s) b (stands-before (b ∷ p) s some)
first_there p (b ∷ u) [] s c none some e = absurd (omega (arith, ap length e, length-append u p))
first_there p (b ∷ u) (d ∷ w) s c none some e =
    let tail : u ++ p ≡ w ++ c ∷ [] = cc in
    let le : length p ≤ length (d ∷ w) =
    omega (arith, ap length tail, length-append u p, length-append w (c ∷ [])) in
    let same : b ∷ (u ++ (p ++ s)) ≡ (d ∷ w) ++ c ∷ s =
    ap (λ l. b ∷ l) (sym (append_assoc u p s)) ∙ ap (λ l. l ++ s) e
    ∙ append_assoc (d ∷ w) (c ∷ []) s in
    let front : stands p (b ∷ (u ++ (p ++ s))) ≡ false =
    ap (stands p) same ∙ stands-append p (d ∷ w) (c ∷ s) le ∙ none_front p w d none in
    first_later p (u ++ (p ++ s)) b front
    ∙ ap (option_map (λ i. i + 1)) (first_there p u w s c (none_later p w d none) some tail)
    ∙ ap Some (omega arith)

-- ---- what is replaced

-- an empty text stands nowhere
pub none_of_empty : (s : List ℕ) → first_at [] s ≡ None
none_of_empty [] = refl
none_of_empty (c ∷ s) = ap (option_map (λ i. i + 1)) (none_of_empty s)

-- where p is nowhere, the text stays
pub replaced_none : (p r s : List ℕ) (n : ℕ) → first_at p s ≡ None → replaced_times p r n s ≡ s
replaced_none p r s zero none = refl
replaced_none p r s (suc n) none =
    ap
    (λ o. elim o as (λ (_ : Option ℕ). List ℕ) [
      | None ↦ s
      | Some i ↦ take i s ++ (r ++ replaced_times p r n (drop (i + length p) s))
    ]) none

pub behind_none : (p s : List ℕ) (n : ℕ) → first_at p s ≡ None → behind_times p n s ≡ s
behind_none p s zero none = refl
behind_none p s (suc n) none =
    ap
    (λ o. elim o as (λ (_ : Option ℕ). List ℕ) [
      | None ↦ s
      | Some i ↦ behind_times p n (drop (i + length p) s)
    ]) none

-- the text before the first occurrence, the occurrence, and what is behind it
pub first_parts : (p s : List ℕ) (i : ℕ) → first_at p s ≡ Some i
    → s ≡ take i s ++ (p ++ drop (i + length p) s)
first_parts p [] i first = absurd (cc)
first_parts p (c ∷ s) i first =
    cases (λ j later. first_parts p s j later) (stands p (c ∷ s)) refl (first_at p s) refl where
      cases : ((j : ℕ) → first_at p s ≡ Some j → s ≡ take j s ++ (p ++ drop (j + length p) s))
          → (b : Bool) → stands p (c ∷ s) ≡ b
          → (o : Option ℕ) → first_at p s ≡ o
          → c ∷ s ≡ take i (c ∷ s) ++ (p ++ drop (i + length p) (c ∷ s))
      cases later true is o rest =
          let front : first_at p (c ∷ s) ≡ Some 0 = first_front p s c is in
          let zero : 0 ≡ i = cc (front, first) in
          subst (λ i. c ∷ s ≡ take i (c ∷ s) ++ (p ++ drop (i + length p) (c ∷ s))) zero
          ((stands-there p (c ∷ s) is).0 ∙ ap (λ n. p ++ drop n (c ∷ s)) (omega arith))
      cases later false is None rest =
          let none : first_at p (c ∷ s) ≡ None =
          first_later p s c is ∙ ap (option_map (λ i. i + 1)) rest in
          absurd (cc (none, first))
      cases later false is (Some j) rest =
          let some : first_at p (c ∷ s) ≡ Some (j + 1) =
          first_later p s c is ∙ ap (option_map (λ i. i + 1)) rest in
          let plus : j + 1 ≡ i = cc (some, first) in
          let next : suc j ≡ i = omega arith in
          let past : suc (j + length p) ≡ suc j + length p = omega arith in
          subst (λ i. c ∷ s ≡ take i (c ∷ s) ++ (p ++ drop (i + length p) (c ∷ s))) next
          (ap (λ l. c ∷ l) (later j rest) ∙ ap (λ n. c ∷ (take j s ++ (p ++ drop n (c ∷ s)))) past)

pub replaced_at : (p r s : List ℕ) (n i : ℕ) → first_at p s ≡ Some i
    → replaced_times p r (suc n) s ≡ take i s ++ (r ++ replaced_times p r n (drop (i + length p) s))
replaced_at p r s n i first =
    ap
    (λ o. elim o as (λ (_ : Option ℕ). List ℕ) [
      | None ↦ s
      | Some i ↦ take i s ++ (r ++ replaced_times p r n (drop (i + length p) s))
    ]) first

-- the first occurrence, and what is behind it
pub replaced_first : (p r u t : List ℕ) (n : ℕ) → first_at p (u ++ (p ++ t)) ≡ Some (length u)
    → replaced_times p r (suc n) (u ++ (p ++ t)) ≡ u ++ (r ++ replaced_times p r n t)
replaced_first p r u t n first =
    let s = u ++ (p ++ t) in
    ap
    (λ o. elim o as (λ (_ : Option ℕ). List ℕ) [
      | None ↦ s
      | Some i ↦ take i s ++ (r ++ replaced_times p r n (drop (i + length p) s))
    ]) first
    ∙ ap (λ l. l ++ (r ++ replaced_times p r n (drop (length u + length p) s)))
    (take-append_seam u (p ++ t))
    ∙ ap (λ l. u ++ (r ++ replaced_times p r n l))
    (drop-append-add u (p ++ t) (length p) ∙ drop-append_seam p t)

pub behind_first : (p u t : List ℕ) (n : ℕ) → first_at p (u ++ (p ++ t)) ≡ Some (length u)
    → behind_times p (suc n) (u ++ (p ++ t)) ≡ behind_times p n t
behind_first p u t n first =
    let s = u ++ (p ++ t) in
    ap
    (λ o. elim o as (λ (_ : Option ℕ). List ℕ) [
      | None ↦ s
      | Some i ↦ behind_times p n (drop (i + length p) s)
    ]) first
    ∙ ap (behind_times p n) (drop-append-add u (p ++ t) (length p) ∙ drop-append_seam p t)
