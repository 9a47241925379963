-- What a test of a slice's bytes says of the text.
use Rattle.std.specs.Prelude.{nat_eq}
use Rattle.std.specs.List.{starts_with}
use Rattle.std.proofs.Common.{◌≡◌, ℕ, ◌-◌, Bool, List, length, take, drop, sym, ap, ◌∙◌}
use Rattle.std.proofs.lemmas.List.{take_rest}

-- whether the bytes from n on begin with some
pub tested : {text bytes needle part : List ℕ} (n : ℕ) {r v : Bool} → bytes ≡ text → needle ≡ part
    → r ≡ starts_with nat_eq (take (length bytes - n) (drop n bytes)) needle → r ≡ v
    → starts_with nat_eq (drop n text) part ≡ v
tested {text} {bytes} {needle} {part} n same other test is =
    ap (λ s. starts_with nat_eq (drop n s) part) (sym same)
    ∙ ap (λ s. starts_with nat_eq s part) (sym (take_rest bytes n))
    ∙ ap (starts_with nat_eq (take (length bytes - n) (drop n bytes))) (sym other)
    ∙ sym test ∙ is

-- whether the bytes begin with those from n on
pub tested_shift : {text bytes : List ℕ} (n : ℕ) {r v : Bool} → bytes ≡ text
    → r ≡ starts_with nat_eq bytes (take (length bytes - n) (drop n bytes)) → r ≡ v
    → starts_with nat_eq text (drop n text) ≡ v
tested_shift {text} {bytes} n same test is =
    ap (λ s. starts_with nat_eq s (drop n s)) (sym same)
    ∙ ap (starts_with nat_eq bytes) (sym (take_rest bytes n))
    ∙ sym test ∙ is
