-- The length of a text with replacements lies in its hint.
use Rattle.std.specs.Prelude.{nat_le, option_and_then, IfSome}
use Rattle.std.proofs.Common.{◌≡◌, ℕ, ◌+◌, ◌≤◌, zero, suc, true, false, List, ◌++◌, length, take}
use Rattle.std.proofs.Common.{drop, Option, Some, None, if◌then◌else◌, refl, ap, ◌∙◌, arith, ◌⊎◌}
use Rattle.std.proofs.Common.{inl, inr, ◌<◌}
use Rattle.std.proofs.lemmas.Bool.Decides.{leb_tells}
use Rattle.writeable_core.specs.Hint.{byte_length, Hinted}
use Rattle.writeable_core.specs.HintLaws.{byte_length-append}
use Rattle.writeable_core.specs.declared.length_hint.LengthHint.{LengthHint}
use Rattle.writeable_replace.specs.ReplacedHint.{hint_rule}
use Rattle.writeable_replace.specs.Replaced.{first_at, replaced_times, replaced}
use Rattle.writeable_replace.specs.ReplacedLaws.{first_parts, replaced_none, replaced_at}

-- the lengths of the parts of a text around an occurrence
around : (x y z : List ℕ)
    → byte_length (x ++ (y ++ z)) ≡ byte_length x + (byte_length y + byte_length z)
around x y z = byte_length-append x (y ++ z) ∙ ap (λ n. byte_length x + n) (byte_length-append y z)

-- a replacement no shorter than what it replaces makes no text shorter
pub grows : (p r : List ℕ) (n : ℕ) (s : List ℕ) → byte_length p ≤ byte_length r
    → byte_length s ≤ byte_length (replaced_times p r n s)
grows p r zero s le = omega arith
grows p r (suc n) s le = cases (first_at p s) refl (λ t. grows p r n t le) where
  cases : (o : Option ℕ) → first_at p s ≡ o
      → ((t : List ℕ) → byte_length t ≤ byte_length (replaced_times p r n t))
      → byte_length s ≤ byte_length (replaced_times p r (suc n) s)
  cases None is later = omega (arith, ap byte_length (replaced_none p r s (suc n) is))
  cases (Some i) is later =
      let rest = drop (i + length p) s in
      omega (
        arith,
        later rest,
        ap byte_length (first_parts p s i is),
        around (take i s) p rest,
        ap byte_length (replaced_at p r s n i is),
        around (take i s) r (replaced_times p r n rest),
      )

-- one no longer makes none longer
pub shrinks : (p r : List ℕ) (n : ℕ) (s : List ℕ) → byte_length r ≤ byte_length p
    → byte_length (replaced_times p r n s) ≤ byte_length s
shrinks p r zero s le = omega arith
shrinks p r (suc n) s le = cases (first_at p s) refl (λ t. shrinks p r n t le) where
  cases : (o : Option ℕ) → first_at p s ≡ o
      → ((t : List ℕ) → byte_length (replaced_times p r n t) ≤ byte_length t)
      → byte_length (replaced_times p r (suc n) s) ≤ byte_length s
  cases None is later = omega (arith, ap byte_length (replaced_none p r s (suc n) is))
  cases (Some i) is later =
      let rest = drop (i + length p) s in
      omega (
        arith,
        later rest,
        ap byte_length (first_parts p s i is),
        around (take i s) p rest,
        ap byte_length (replaced_at p r s n i is),
        around (take i s) r (replaced_times p r n rest),
      )

lower : (n least source x y z : ℕ) → source ≤ x → least ≤ y → (n ≤ y → x ≤ z)
    → (if nat_le n least then source else 0) ≤ z
lower n least source x y z below within longer = cases (leb_tells n least) where
  cases : ((nat_le n least ≡ true) × (n ≤ least)) ⊎ ((nat_le n least ≡ false) × (least < n))
      → (if nat_le n least then source else 0) ≤ z
  cases (inl fits) = let le = longer (omega (arith, fits.1)) in rw fits.0 (omega arith)
  cases (inr larger) = rw larger.0 (omega arith)

upper : (n x y z : ℕ) (most source : Option ℕ) → IfSome source (λ m. x ≤ m)
    → IfSome most (λ m. y ≤ m) → (y ≤ n → z ≤ x)
    → IfSome (option_and_then (λ m. if nat_le m n then source else None) most) (λ m. z ≤ m)
upper n x y z None source above within shorter = tt
upper n x y z (Some m) source above within shorter = cases (leb_tells m n) source above where
  cases : ((nat_le m n ≡ true) × (m ≤ n)) ⊎ ((nat_le m n ≡ false) × (n < m)) → (source : Option ℕ)
      → IfSome source (λ m. x ≤ m)
      → IfSome (if nat_le m n then source else None) (λ m. z ≤ m)
  cases (inl fits) None above = rw fits.0 tt
  cases (inl fits) (Some k) above = let le = shorter (omega (arith, within, fits.1)) in
      rw fits.0 (omega (arith, above))
  cases (inr larger) source above = rw larger.0 tt

-- the length of a text with replacements lies in the hint of the rule
pub Hinted-replaced : (source replacement : LengthHint) (s p r : List ℕ)
    → Hinted source (byte_length s) → Hinted replacement (byte_length r)
    → Hinted (hint_rule source (byte_length p) replacement) (byte_length (replaced s p r))
Hinted-replaced source replacement s p r a b = record {
  lower = lower (byte_length p) replacement.0 source.0 (byte_length s) (byte_length r)
      (byte_length (replaced s p r)) a.lower b.lower (grows p r (length s) s);
  upper = upper (byte_length p) (byte_length s) (byte_length r)
      (byte_length (replaced s p r)) replacement.1 source.1 a.upper b.upper
      (shrinks p r (length s) s);
}
