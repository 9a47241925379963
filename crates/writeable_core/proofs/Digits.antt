-- How many digits a number has.
use Rattle.std.specs.Fmt.{decimal, signed_decimal}
use Rattle.std.proofs.Common.{◌≡◌, ℕ, zero, suc, ◌+◌, ◌*◌, ◌/◌, ◌%◌, ◌^◌, ◌<◌, ◌≤◌, List, [], ◌∷◌}
use Rattle.std.proofs.Common.{◌++◌, length, length-append, arith, refl, ap, subst, lit<}
use Rattle.std.proofs.Math.Nat.{pow-suc, one-le-pow, le-div_iff_mul-le}
use Rattle.std.proofs.lemmas.Fmt.{decimal_by_steps_wide, length-decimal-le_wide}
use Rattle.std.proofs.lemmas.Fmt.{IsAscii-decimal_wide}
use Rattle.std.proofs.lemmas.Int.{ints}
use Rattle.std.proofs.lemmas.Str.{encodes-IsAscii}
use Rattle.std.specs.Prelude.{ℤ, pos, negsuc, ◌<ℤ◌, ◌≤ℤ◌, unsigned_abs}
use lib.Utf8.{encode}
use Rattle.writeable_core.specs.Hint.{byte_length}
use Rattle.writeable_core.specs.HintLaws.{byte_length-append}

-- a list that is longer than the powers of ten up to n
Covers : ℕ → List ℕ → Type 0
Covers n ds = (k : ℕ) → 10 ^ k ≤ n → k + 1 ≤ length ds

covers_digit : (n : ℕ) → n < 10 → Covers n ((48 + n) ∷ [])
unfolding Covers
covers_digit n small zero le = omega arith
covers_digit n small (suc k) le =
    let ten = pow-suc 10 k in
    let one = one-le-pow k 10 (lit< tt) in
    absurd (omega arith)

covers_more : (n : ℕ) (ds : List ℕ) → 10 ≤ n → Covers (n / 10) ds
    → Covers n (ds ++ ((48 + n % 10) ∷ []))
unfolding Covers
covers_more n ds large front zero le = let len =
    length-append ds ((48 + n % 10) ∷ []) in omega arith
covers_more n ds large front (suc k) le =
    let len = length-append ds ((48 + n % 10) ∷ []) in
    let ten = pow-suc 10 k in
    let rest : k + 1 ≤ length ds =
    front k ((le-div_iff_mul-le (lit< tt)).1 (subst (λ p. p ≤ n) ten le)) in
    omega arith

-- a number from one power of ten on and below the next has one digit more than the power
pub length-decimal : (n k : ℕ) → n < 10 ^ 64 → 10 ^ k ≤ n → n < 10 * 10 ^ k
    → length (decimal n) ≡ k + 1
unfolding Covers
length-decimal n k small low high =
    let least : k + 1 ≤ length (decimal n) =
    decimal_by_steps_wide Covers covers_digit covers_more n small k low in
    let ten = pow-suc 10 k in
    let most = length-decimal-le_wide (suc k) n (omega arith) (omega arith) small in
    omega arith

-- a decimal text has as many bytes in UTF-8 as digits
pub byte_length-decimal : (n : ℕ) → n < 10 ^ 64 → byte_length (decimal n) ≡ length (decimal n)
byte_length-decimal n small = ap length (encodes-IsAscii (decimal n) (IsAscii-decimal_wide n small))

-- a minus sign stands before a negative number
pub byte_length-negative : (z : ℤ) → unsigned_abs z < 10 ^ 64 → z <ℤ pos 0
    → byte_length (signed_decimal z) ≡ length (decimal (unsigned_abs z)) + 1
unfolding encode
byte_length-negative (pos n) small negative = absurd (omega (arith, ints, negative))
byte_length-negative (negsuc n) small negative =
    let sign : byte_length (45 ∷ []) ≡ 1 = refl in
    let both = byte_length-append (45 ∷ []) (decimal (suc n)) in
    let number = byte_length-decimal (suc n) small in
    omega arith

pub byte_length-positive : (z : ℤ) → unsigned_abs z < 10 ^ 64 → pos 0 ≤ℤ z
    → byte_length (signed_decimal z) ≡ length (decimal (unsigned_abs z))
byte_length-positive (pos n) small positive = byte_length-decimal n small
byte_length-positive (negsuc n) small positive = absurd (omega (arith, ints, positive))
