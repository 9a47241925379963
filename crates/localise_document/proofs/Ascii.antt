-- Texts in ASCII.
use Rattle.std.proofs.Common.{◌≡◌, ℕ, zero, suc, ◌&&◌, List, [], ◌∷◌, Bool, true, false, true≢false}
use Rattle.std.proofs.Common.{nat_lt, sym, refl, arith}
use Rattle.std.proofs.lemmas.Bool.{ltb-true}
use Rattle.std.specs.List.{list_all}
use Rattle.std.specs.Str.{IsAscii}

-- two tests that both hold
both : (a b : Bool) → (a && b) ≡ true → (a ≡ true) × (b ≡ true)
both true b h = (refl, h)
both false b h = absurd (true≢false (sym h))

-- a text is in ASCII where each of its bytes is
pub is_ascii_text : (text : List ℕ) → list_all (λ c. nat_lt c 128) text ≡ true → IsAscii text
is_ascii_text [] all i = omega arith
is_ascii_text (c ∷ text) all zero = ltb-true c 128 (both _ _ all).0
is_ascii_text (c ∷ text) all (suc i) = is_ascii_text text (both _ _ all).1 i
