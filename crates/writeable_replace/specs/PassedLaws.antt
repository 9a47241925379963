-- Texts that are passed on one after another, with a text replaced in them.
use Rattle.std.proofs.Common.{◌≡◌, ℕ, ◌-◌, ◌≤◌, zero, suc, Bool, true, false, List, [], ◌∷◌, ◌++◌}
use Rattle.std.proofs.Common.{length, take, None, refl, sym, ap, ◌∙◌, subst, arith, append-nil}
use Rattle.std.proofs.Common.{append_assoc, length-append}
use Rattle.std.specs.Str.{bytes_eq}
use Rattle.std.proofs.lemmas.List.{length-take-le, take_at}
use Rattle.std.proofs.lemmas.Slice.Eq.{bytes_eq-Decides}
use Rattle.writeable_replace.specs.Replaced.{first_at, replaced_times, replaced, behind_times}
use Rattle.writeable_replace.specs.Replaced.{behind_last}
use Rattle.writeable_replace.specs.ReplacedLaws.{none_in_shorter, none_more, none_of_empty}
use Rattle.writeable_replace.specs.ReplacedLaws.{first_there, replaced_none, behind_none}
use Rattle.writeable_replace.specs.ReplacedLaws.{replaced_first, behind_first}
use Rattle.writeable_replace.specs.Overlap.{IsOverlap, overlap}
use Rattle.writeable_replace.specs.OverlapLaws.{overlap_is, overlap_by, overlap_front, overlap_more}
use Rattle.writeable_replace.specs.OverlapLaws.{overlap_whole}
use Rattle.writeable_replace.specs.Passed.{without_last, so_far, position_after, passed_on, Came}

-- ---- a character at a time

-- A character at the position k, the position after and what is passed on: r where the character
-- ends an occurrence, else what is before the longest front.
pub data Step (p r : List ℕ) (k c : ℕ) : ℕ → List ℕ → Type 0 where
  whole : take k p ++ c ∷ [] ≡ p → Step p r k c 0 r
  part : (j : ℕ) (o : List ℕ) → (take k p ++ c ∷ [] ≡ p → ⊥) → IsOverlap p (take k p ++ c ∷ []) j
      → o ++ take j p ≡ take k p ++ c ∷ [] → Step p r k c j o

pub data Run (p r : List ℕ) : ℕ → List ℕ → ℕ → List ℕ → Type 0 where
  done : (k : ℕ) → Run p r k [] k []
  more : (k c : ℕ) (t : List ℕ) (j l : ℕ) (o q : List ℕ) → Step p r k c j o → Run p r j t l q
      → Run p r k (c ∷ t) l (o ++ q)

-- ---- what the steps of a text come to

-- p isn't in what was read with a character more, where that doesn't end an occurrence
none_after : (p w : List ℕ) (k c : ℕ) → first_at p w ≡ None → IsOverlap p w k
    → (take k p ++ c ∷ [] ≡ p → ⊥) → first_at p (w ++ c ∷ []) ≡ None
none_after [] w k c none was other = none_of_empty (w ++ c ∷ [])
none_after (b ∷ p) w k c none was other =
    none_more (b ∷ p) w c none (λ ends. other (overlap_whole (b ∷ p) w k c (omega arith) was ends))

-- w was read since the last replaced occurrence, all of it but a front of p was passed on; and then
-- t
pub record Reached (p r u w t : List ℕ) (n j : ℕ) (o : List ℕ) : Type 0 where
  pub position : IsOverlap p (behind_times p n (w ++ t)) j
  pub text : replaced_times p r n (w ++ t) ≡ u ++ (o ++ take j p)

reached : (p r : List ℕ) {k : ℕ} {t : List ℕ} {j : ℕ} {o : List ℕ} → Run p r k t j o
    → (u w : List ℕ)
    → u ++ take k p ≡ w → first_at p w ≡ None → IsOverlap p w k → (n : ℕ) → length t ≤ n
    → Reached p r u w t n j o
reached p r (done k) u w parts none was n le = record {
  position =
      subst (λ l. IsOverlap p l k)
      (sym (ap (behind_times p n) (append-nil w) ∙ behind_none p w n none)) was;
  text = ap (replaced_times p r n) (append-nil w) ∙ replaced_none p r w n none ∙ sym parts;
}
reached p r (more k c t j l o q step run) u w parts none was zero le = absurd (omega arith)
reached p r (more k c t j l o q (whole is) run) u w parts none was (suc n) le =
    let later = reached p r run [] [] refl refl (overlap_front p 0 (omega arith)) n (omega arith) in
    let ended : u ++ p ≡ w ++ c ∷ [] =
    ap (λ l. u ++ l) (sym is) ∙ sym (append_assoc u (take k p) (c ∷ []))
    ∙ ap (λ l. l ++ c ∷ []) parts in
    let some : 1 ≤ length p = omega (arith, ap length is, length-append (take k p) (c ∷ [])) in
    let first = first_there p u w t c none some ended in
    let same : w ++ c ∷ t ≡ u ++ (p ++ t) =
    sym (append_assoc w (c ∷ []) t) ∙ ap (λ l. l ++ t) (sym ended) ∙ append_assoc u p t in
    record {
      position =
          subst (λ s. IsOverlap p s l)
          (sym (ap (behind_times p (suc n)) same ∙ behind_first p u t n first)) later.position;
      text = ap (replaced_times p r (suc n)) same ∙ replaced_first p r u t n first
          ∙ ap (λ s. u ++ (r ++ s)) later.text
          ∙ ap (λ s. u ++ s) (sym (append_assoc r q (take l p)));
    }
reached p r (more k c t j l o q (part _ _ other over parts_now) run) u w parts none was (suc n) le =
    let joined : (u ++ o) ++ take j p ≡ w ++ c ∷ [] =
    append_assoc u o (take j p) ∙ ap (λ l. u ++ l) parts_now
    ∙ sym (append_assoc u (take k p) (c ∷ [])) ∙ ap (λ l. l ++ c ∷ []) parts in
    let later =
    reached p r run (u ++ o) (w ++ c ∷ []) joined (none_after p w k c none was other)
    (overlap_more p w k c j was over) (suc n) (omega arith) in
    let same : w ++ c ∷ t ≡ (w ++ c ∷ []) ++ t = sym (append_assoc w (c ∷ []) t) in
    record {
      position = subst (λ s. IsOverlap p (behind_times p (suc n) s) l) (sym same) later.position;
      text = ap (replaced_times p r (suc n)) same ∙ later.text ∙ append_assoc u o (q ++ take l p)
          ∙ ap (λ s. u ++ s) (sym (append_assoc o q (take l p)));
    }

-- ---- from a position on

-- what is kept back is the end of what was replaced
kept_back : (p x o : List ℕ) (i j : ℕ) → i ≡ j → j ≤ length p → x ≡ o ++ take j p
    → without_last i x ≡ o
kept_back p x o i j same le is =
    let kept = length-take-le j p le in
    ap (without_last i) is
    ∙ ap (λ n. take n (o ++ take j p)) (omega (arith, length-append o (take j p)))
    ∙ take_at o (take j p) (length o) refl

pub run_came : (p r : List ℕ) {k : ℕ} {t : List ℕ} {j : ℕ} {o : List ℕ} → Run p r k t j o
    → k ≤ length p - 1 → Came p r (so_far p k t) j o
run_came p r {k} {t} {j} {o} run le =
    let n = length (take k p ++ t) in
    let none = none_in_shorter p (take k p) (omega (arith, length-take-le k p (omega arith))) in
    let ends =
    reached p r run [] (take k p) refl none (overlap_front p k le) n
    (omega (arith, length-append (take k p) t)) in
    let position : position_after p (so_far p k t) ≡ j =
    sym (overlap_by p (behind_last p (so_far p k t)) j ends.position) in
    record {
      position = position;
      text =
          kept_back p (replaced (so_far p k t) p r) o (position_after p (so_far p k t)) j position
          (omega (arith, ends.position.proper)) ends.text;
      whole = ends.text;
      proper = ends.position.proper;
    }

-- ---- there are steps for every text

step_total : (p r : List ℕ) (k c : ℕ) → (j : ℕ) × (o : List ℕ) × Step p r k c j o
step_total p r k c = cases (bytes_eq (take k p ++ c ∷ []) p) refl where
  cases : (b : Bool) → bytes_eq (take k p ++ c ∷ []) p ≡ b
      → (j : ℕ) × (o : List ℕ) × Step p r k c j o
  cases true is = (0, r, whole ((bytes_eq-Decides (take k p ++ c ∷ []) p).0 is))
  cases false is =
      let over = overlap_is p (take k p ++ c ∷ []) in
      let other : take k p ++ c ∷ [] ≡ p → ⊥ =
      λ e. let yes : true ≡ false =
      sym ((bytes_eq-Decides (take k p ++ c ∷ []) p).1 e) ∙ is in cc in (
        overlap p (take k p ++ c ∷ []),
        over.ends.before,
        part (overlap p (take k p ++ c ∷ [])) over.ends.before other over over.ends.parts,
      )

pub run_total : (p r : List ℕ) (k : ℕ) (t : List ℕ) → (j : ℕ) × (o : List ℕ) × Run p r k t j o
run_total p r k [] = (k, [], done k)
run_total p r k (c ∷ t) =
    let first = step_total p r k c in
    let rest = run_total p r first.0 t in
    (rest.0, first.1 ++ rest.1, more k c t first.0 rest.0 first.1 rest.1 first.2 rest.2)

pub run_both : (p r : List ℕ) {k j l : ℕ} {s t o q : List ℕ} → Run p r k s j o → Run p r j t l q
    → Run p r k (s ++ t) l (o ++ q)
run_both p r (done k) later = later
run_both p r {t} {q} (more k c s i j o x step run) later =
    subst (Run p r k (c ∷ (s ++ t)) _) (sym (append_assoc o x q))
    (more k c (s ++ t) i _ o (x ++ q) step (run_both p r run later))

-- a text, and then another
pub record Both (p r s t : List ℕ) : Type 0 where
  pub position : position_after p (s ++ t) ≡ position_after p (so_far p (position_after p s) t)
  pub text : passed_on p r (s ++ t) ≡ passed_on p r s
      ++ passed_on p r (so_far p (position_after p s) t)

pub both : (p r s t : List ℕ) → Both p r s t
both p r s t =
    let first = run_total p r 0 s in
    let rest = run_total p r first.0 t in
    let came = run_came p r first.2 (omega arith) in
    let all = run_came p r (run_both p r first.2 rest.2) (omega arith) in
    let last = run_came p r rest.2 came.proper in
    let from = ap (λ k. so_far p k t) came.position in
    record {
      position = all.position ∙ sym last.position ∙ ap (position_after p) (sym from);
      text = all.text ∙ ap (λ o. o ++ rest.1) (sym came.text)
          ∙ ap (λ o. passed_on p r s ++ o) (sym last.text ∙ ap (passed_on p r) (sym from));
    }

-- one character
pub step_came : (p r : List ℕ) {k c j : ℕ} {o : List ℕ} → Step p r k c j o → k ≤ length p - 1
    → Came p r (so_far p k (c ∷ [])) j o
step_came p r {k} {c} {j} {o} step le =
    let came = run_came p r (more k c [] j j o [] step (done j)) le in
    record {
      position = came.position;
      text = came.text ∙ append-nil o;
      whole = came.whole ∙ ap (λ s. s ++ take j p) (append-nil o);
      proper = came.proper;
    }

-- nothing
pub nothing_came : (p r : List ℕ) (k : ℕ) → k ≤ length p - 1 → Came p r (so_far p k []) k []
nothing_came p r k le = run_came p r (done k) le

-- what is passed on of a text, and what was kept back, are the text replaced
pub passed_whole : (p r s : List ℕ)
    → passed_on p r s ++ take (position_after p s) p ≡ replaced s p r
passed_whole p r s =
    let run = run_total p r 0 s in
    let came = run_came p r run.2 (omega arith) in
    ap (λ o. o ++ take (position_after p s) p) came.text ∙ ap (λ j. run.1 ++ take j p) came.position
    ∙ sym came.whole
