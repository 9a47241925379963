-- The characters of a text in ASCII are its bytes.
use Rattle.std.proofs.Common.{◌≡◌, ℕ, zero, suc, ◌&&◌, List, [], ◌∷◌, Bool, true, false, true≢false}
use Rattle.std.proofs.Common.{sym, refl, arith}
use Rattle.std.proofs.lemmas.Bool.{ltb-true}
use Rattle.std.proofs.lemmas.Str.{chars-IsAscii}
use Rattle.std.specs.Str.{IsAscii, chars}
use Rattle.localise_status.specs.Ascii.{in_ascii}

both : (a b : Bool) → (a && b) ≡ true → (a ≡ true) × (b ≡ true)
both true b h = (refl, h)
both false b h = absurd (true≢false (sym h))

ascii_at : (text : List ℕ) → in_ascii text ≡ true → IsAscii text
ascii_at [] all i = omega arith
ascii_at (c ∷ text) all zero = ltb-true c 128 (both _ _ all).0
ascii_at (c ∷ text) all (suc i) = ascii_at text (both _ _ all).1 i

pub plain : (text : List ℕ) → in_ascii text ≡ true → chars text ≡ text
plain text all = chars-IsAscii text (ascii_at text all)
