-- The first place from which the bytes are a front of the text leaves the longest one.
use Rattle.std.specs.Prelude.{nat_eq}
use Rattle.std.specs.List.{starts_with}
use Rattle.std.proofs.Common.{◌≡◌, ℕ, ◌-◌, ◌<◌, ◌≤◌, List, [], length, drop, true, sym, ap, subst}
use Rattle.std.proofs.Common.{arith}
use Rattle.std.proofs.lemmas.List.{drop_all}
use Rattle.writeable_replace.specs.Position.{Border}
use Rattle.writeable_replace.specs.PositionLaws.{IsShift, border_of}
use Rattle.writeable_replace.proofs.Tested.{tested_shift}
use Rattle.writeable_replace.proofs.matching.overlap_of.Goals as goal

-- the invariant, of the text
first_of : (text bytes : List ℕ) (n : ℕ) → bytes ≡ text
    → ((s : ℕ) → 1 ≤ s → s < n → starts_with nat_eq bytes (drop s bytes) ≡ true → ⊥)
    → (s : ℕ) → 1 ≤ s → s < n → starts_with nat_eq text (drop s text) ≡ true → ⊥
first_of text bytes n same first s some less is =
    first s some less (subst (λ t. starts_with nat_eq t (drop s t) ≡ true) (sym same) is)

pub returns-then-starts_with-clause-border : goal.returns-then-starts_with-clause-border
returns-then-starts_with-clause-border c =
    let same = c.as_bytes-bytes.ensures.value in
    let shift : IsShift c.args.text.now c.loop-shift.shift = record {
      some = c.loop-shift.auto.shift;
      within = omega (arith, ap length same);
      front =
          tested_shift c.loop-shift.shift same c.starts_with.ensures.value c.if-starts_with.true;
      first =
          first_of c.args.text.now c.as_bytes-bytes.result.now c.loop-shift.shift same
          c.loop-shift.invariant;
    } in
    subst (λ n. Border c.args.text.now (n - c.loop-shift.shift)) (ap length (sym same))
    (border_of c.args.text.now c.loop-shift.shift c.utf8.text shift)

pub returns-clause-border : goal.returns-clause-border
returns-clause-border c =
    let text = c.args.text.now in
    let same = c.as_bytes-bytes.ensures.value in
    let none : drop (length text) text ≡ [] = drop_all (length text) text (omega arith) in
    let shift : IsShift text (length text) = record {
      some = c.requires;
      within = omega arith;
      front = ap (starts_with nat_eq text) none;
      first =
          λ s some less.
          first_of text c.as_bytes-bytes.result.now c.loop-shift.shift same
          c.loop-shift.invariant s some
          (omega (arith, ap length same));
    } in
    let zero : length text - length text ≡ 0 = omega arith in
    subst (Border text) zero (border_of text (length text) c.utf8.text shift)
