-- Lengths that lie in hints.
use Rattle.std.specs.Prelude.{◌≡◌, ℕ, ◌+◌, ◌≤◌, List, [], ◌∷◌, ◌++◌, length, Some, IfSome}
use Rattle.std.specs.Prelude.{encode_utf8_all}
use Rattle.std.proofs.Common.{arith, refl, subst, sym, ap, ◌∙◌, length-append}
use Rattle.std.proofs.lemmas.Grind.{common_steps}
use Rattle.std.proofs.lemmas.Str.{encodes-append, length-le-encodes}
use Rattle.writeable_core.specs.Hint.{byte_length, Hinted, undefined, exact, hint_sum}
use Rattle.writeable_core.specs.declared.length_hint.LengthHint.{LengthHint}

-- a length lies in its own exact hint
pub Hinted-exact : (n : ℕ) → Hinted (exact n) n
Hinted-exact n = record { lower = omega arith; upper = omega arith }

-- every length lies in the undefined hint
pub Hinted-undefined : (n : ℕ) → Hinted undefined n
Hinted-undefined n = record { lower = omega arith; upper = tt }

-- the lengths of two texts, one after another
pub Hinted-sum : (a b : LengthHint) (x y : ℕ) → Hinted a x → Hinted b y
    → Hinted (hint_sum a b) (x + y)
Hinted-sum a b x y p q = grind (arith, common_steps)

pub byte_length-append : (s t : List ℕ) → byte_length (s ++ t) ≡ byte_length s + byte_length t
byte_length-append s t =
    ap length (encodes-append s t) ∙ length-append (encode_utf8_all s) (encode_utf8_all t)

pub Hinted-append : (a b : LengthHint) (s t : List ℕ) → Hinted a (byte_length s)
    → Hinted b (byte_length t) → Hinted (hint_sum a b) (byte_length (s ++ t))
Hinted-append a b s t p q =
    subst (Hinted (hint_sum a b)) (sym (byte_length-append s t))
    (Hinted-sum a b (byte_length s) (byte_length t) p q)

-- a text of no byte has no character
pub no_characters : (text : List ℕ) → byte_length text ≤ 0 → text ≡ []
no_characters [] _ = refl
no_characters (c ∷ text) e = absurd (omega (arith, length-le-encodes (c ∷ text)))

-- a text whose length is at most 0 has no character
pub no_characters_by_hint : (hint : LengthHint) (text : List ℕ) → hint.1 ≡ Some 0
    → Hinted hint (byte_length text) → text ≡ []
no_characters_by_hint hint text zero hinted =
    no_characters text
    (subst (λ upper. IfSome upper (λ most. byte_length text ≤ most)) zero hinted.upper)
