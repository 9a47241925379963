-- Marks and lengths of two texts, the second of which may be left out.
use Rattle.std.specs.Prelude.{◌≡◌, ℕ, ◌≤◌, List, ◌++◌, Option, Some, None}
use Rattle.std.proofs.Common.{arith}
use Rattle.std.proofs.lemmas.Grind.{common_steps}
use Rattle.writeable_core.specs.Hint.{Hinted, byte_length, hint_sum}
use Rattle.writeable_core.specs.HintLaws.{byte_length-append, Hinted-append}
use Rattle.writeable_core.specs.Marks.{Mark, Nests, characters}
use Rattle.writeable_core.specs.MarksLaws.{characters-both, Nests-append}
use Rattle.writeable_core.specs.declared.length_hint.LengthHint.{LengthHint}
use Rattle.writeable_adapters.specs.TryConcat.{followed, try_sum}

pub followed-characters : {E : Type 0} {s t : List ℕ} (e : Option E) (a b : List Mark)
    → characters a ≡ s → characters b ≡ t
    → characters (followed e a b) ≡ followed e s t
followed-characters (Some _) a b p q = p
followed-characters None a b p q = characters-both a b p q

pub followed-Nests : {E : Type 0} (e : Option E) (a b : List Mark) → Nests a → Nests b
    → Nests (followed e a b)
followed-Nests (Some _) a b p q = p
followed-Nests None a b p q = Nests-append a b p q

-- a length that lies in the first hint, or in the sum, lies in the hint of a text that may be left
-- alone
pub Hinted-first : (a b : LengthHint) (x y : ℕ) → Hinted a x → Hinted b y → Hinted (try_sum a b) x
Hinted-first a b x y p q = grind (arith, common_steps)

pub Hinted-both : (a b : LengthHint) (x y : ℕ) → Hinted a x → Hinted (hint_sum a b) y → x ≤ y
    → Hinted (try_sum a b) y
Hinted-both a b x y p q le = record { lower = omega (arith, p.lower); upper = q.upper }

pub byte_length-le : (s t : List ℕ) → byte_length s ≤ byte_length (s ++ t)
byte_length-le s t = let both = byte_length-append s t in omega arith

pub followed-Hinted : {E : Type 0} (e : Option E) (a b : LengthHint) (s t : List ℕ)
    → Hinted a (byte_length s) → Hinted b (byte_length t)
    → Hinted (try_sum a b) (byte_length (followed e s t))
followed-Hinted (Some _) a b s t p q = Hinted-first a b (byte_length s) (byte_length t) p q
followed-Hinted None a b s t p q =
    Hinted-both a b (byte_length s) (byte_length (s ++ t)) p (Hinted-append a b s t p q)
    (byte_length-le s t)
