-- The number that `parse` reads.
use Rattle.std.proofs.Common.{◌≡◌, ℕ, ◌<◌, ◌^◌, Bool, true, false, not, ◌&&◌, List, length, refl}
use Rattle.std.proofs.Common.{arith, rules}
use Rattle.std.specs.Prelude.{Result, Ok, Err, nat_lt, ◌==◌}
use Rattle.std.specs.List.{list_all}
use Rattle.std.specs.Result.{result_ok}
use Rattle.std.specs.Bool.{Decides}
use Rattle.std.proofs.lemmas.Bool.{false_from_ne_true}
use Rattle.std.specs.Char.{is_ascii_digit}
use Rattle.std.specs.Str.Parse.{digits_value, without_leading_plus, ParsesUnsigned, IsNumeral}
use Rattle.std.specs.Str.Parse.{AllDigits}
use Rattle.std.proofs.lemmas.Bool.Decides.{Decides-eqb, nat_tests, Decides-not, Decides-and}
use Rattle.std.proofs.lemmas.Bool.Decides.{Decides-like}
use Rattle.std.proofs.lemmas.Str.Parse.{IsNumeralModel, numerals_by_value}
use Rattle.gettext.specs.Metadata.{number_in}

-- digits and their number, as `parse` reads them
own : IsNumeralModel (λ ds. list_all is_ascii_digit ds ≡ true) (digits_value 10)
own = numerals_by_value _ (search rules)

-- whether these digits are a number of 64 bits
abbrev tested : List ℕ → Bool
tested digits = not (length digits == 0) && list_all is_ascii_digit digits && nat_lt
    (digits_value 10 digits) (2 ^ 64)

-- the test tells
fits-tested : (digits : List ℕ)
    → Decides (tested digits) (IsNumeral 10 digits × (digits_value 10 digits < 2 ^ 64))
fits-tested digits =
    let some : Decides (not (length digits == 0)) (0 < length digits) = Decides-like
    _ (λ h. omega arith) (λ h. omega arith) (Decides-not _ (Decides-eqb (length digits) 0)) in
    let all : Decides (list_all is_ascii_digit digits) (AllDigits 10 digits) =
    (own.to digits, own.from digits) in
    Decides-and _ _ (Decides-and _ _ some all) (grind (arith, nat_tests))

-- what `parse` reads is the number
pub number_parsed : {E : Type 0} (text : List ℕ) (r : Result ℕ E) → ParsesUnsigned 64 10 text r
    → result_ok r ≡ number_in text
unfolding number_in
number_parsed text (Ok x) h = let t : tested (without_leading_plus text) ≡ true =
    (fits-tested (without_leading_plus text)).1 h.0 in rw (t, h.1) refl
number_parsed text (Err e) h = let t : tested (without_leading_plus text) ≡ false =
    false_from_ne_true (tested (without_leading_plus text))
    (λ t. h ((fits-tested (without_leading_plus text)).0 t)) in rw t refl
