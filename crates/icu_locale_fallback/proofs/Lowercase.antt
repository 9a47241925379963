-- A text that begins with a front in lower case, by its places.
use Rattle.std.proofs.Common.{◌≡◌, ◌≢◌, ℕ, zero, suc, ◌<◌, ◌≤◌, Bool, true, false, ◌&&◌, List, []}
use Rattle.std.proofs.Common.{◌∷◌, length, map, get_or, nat_eq, refl, ap, ◌∙◌, arith}
use Rattle.std.specs.Char.{to_ascii_lowercase}
use Rattle.std.specs.List.{starts_with}
use Rattle.std.proofs.Common.{eq-eqb}
use Rattle.std.proofs.lemmas.Bool.Decides.{nat_tests}

-- the text begins with the front in lower case
abbrev begins : List ℕ → List ℕ → Bool
begins text front = starts_with nat_eq text (map to_ascii_lowercase front)

-- where each place agrees
pub begins-all : (front text : List ℕ) → length front ≤ length text
    → ((k : ℕ) → k < length front → to_ascii_lowercase (get_or front k 0) ≡ get_or text k 0)
    → begins text front ≡ true
begins-all [] text long same = refl
begins-all (x ∷ xs) [] long same = absurd (omega arith)
begins-all (x ∷ xs) (y ∷ ys) long same =
    let first : to_ascii_lowercase x ≡ y = same zero (omega arith) in
    let rest = begins-all xs ys (omega arith) (λ k h. same (suc k) (omega arith)) in
    ap (λ b. b && begins ys xs) (eq-eqb (to_ascii_lowercase x) y first) ∙ rest

-- not where some place differs
pub begins-other : (front text : List ℕ) (k : ℕ) → k < length front → length front ≤ length text
    → to_ascii_lowercase (get_or front k 0) ≢ get_or text k 0 → begins text front ≡ false
begins-other [] text k h long other = absurd (omega arith)
begins-other (x ∷ xs) [] k h long other = absurd (omega arith)
begins-other (x ∷ xs) (y ∷ ys) zero h long other = grind (arith, nat_tests)
begins-other (x ∷ xs) (y ∷ ys) (suc k) h long other =
    let rest = begins-other xs ys k (omega arith) (omega arith) other in
    grind arith

-- nor where the text is shorter
pub begins-short : (front text : List ℕ) → length text < length front → begins text front ≡ false
begins-short [] text h = absurd (omega arith)
begins-short (x ∷ xs) [] h = refl
begins-short (x ∷ xs) (y ∷ ys) h =
    let rest = begins-short xs ys (omega arith) in
    grind arith
