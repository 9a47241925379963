-- A text's letters and digits, and those of its lower case.
use Rattle.std.proofs.Common.{◌≡◌, ℕ, Bool, List, [], ◌∷◌, refl, arith}
use Rattle.std.specs.Prelude.{◌&&◌, map}
use Rattle.std.specs.Char.{is_ascii_alphabetic, is_ascii_alphanumeric, is_ascii_digit}
use Rattle.std.specs.Char.{is_ascii_lowercase, to_ascii_lowercase}
use Rattle.std.specs.List.{list_all}
use Rattle.std.proofs.lemmas.Bool.Decides.{nat_tests}
use Rattle.language_tags_grammar.specs.Pieces.{lowercase}
use Rattle.language_tags_grammar.specs.Shapes.{is_small}

letter_lowercase : (c : ℕ) → is_ascii_lowercase (to_ascii_lowercase c) ≡ is_ascii_alphabetic c
letter_lowercase c = grind (arith, nat_tests)

digit_lowercase : (c : ℕ) → is_ascii_digit (to_ascii_lowercase c) ≡ is_ascii_digit c
digit_lowercase c = grind (arith, nat_tests)

small_lowercase_one : (c : ℕ) → is_small (to_ascii_lowercase c) ≡ is_ascii_alphanumeric c
small_lowercase_one c = grind (arith, nat_tests)

module _ (f : ℕ → ℕ) (p q : ℕ → Bool) (same : (c : ℕ) → p (f c) ≡ q c) where
  all_of : (text : List ℕ) → list_all p (map f text) ≡ list_all q text
  all_of [] = refl
  all_of (c ∷ text) = λ i. same c i && all_of text i

pub letters_lowercase : (text : List ℕ)
    → list_all is_ascii_lowercase (lowercase text) ≡ list_all is_ascii_alphabetic text
letters_lowercase =
    all_of to_ascii_lowercase is_ascii_lowercase is_ascii_alphabetic letter_lowercase

pub digits_lowercase : (text : List ℕ)
    → list_all is_ascii_digit (lowercase text) ≡ list_all is_ascii_digit text
digits_lowercase = all_of to_ascii_lowercase is_ascii_digit is_ascii_digit digit_lowercase

pub small_lowercase : (text : List ℕ)
    → list_all is_small (lowercase text) ≡ list_all is_ascii_alphanumeric text
small_lowercase = all_of to_ascii_lowercase is_small is_ascii_alphanumeric small_lowercase_one
