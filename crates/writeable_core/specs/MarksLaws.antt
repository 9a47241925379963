-- Marked texts one after another, and inside one part.
use Rattle.std.specs.Prelude.{◌≡◌, ℕ, ◌+◌, List, [], ◌∷◌, ◌++◌, Option, Some, None}
use Rattle.std.proofs.Common.{refl, sym, ap, ◌∙◌, append_assoc, append-nil, subst, arith}
use Rattle.writeable_core.specs.Marks.{Mark, Character, Open, Close, PartName, plain, characters}
use Rattle.writeable_core.specs.Marks.{inside, Nests, nothing, character, part, openings, closings}
use Rattle.writeable_core.specs.Marks.{Opens}
use Rattle.writeable_core.specs.Sink.{TookPrefix}
use Rattle.writeable_core.specs.SinkLaws.{front_of_longer, front_after}

pub characters-plain : (text : List ℕ) → characters (plain text) ≡ text
characters-plain [] = refl
characters-plain (c ∷ text) = ap (λ cs. c ∷ cs) (characters-plain text)

pub characters-append : (a b : List Mark) → characters (a ++ b) ≡ characters a ++ characters b
characters-append [] b = refl
characters-append (Character c ∷ a) b = ap (λ cs. c ∷ cs) (characters-append a b)
characters-append (Open _ ∷ a) b = characters-append a b
characters-append (Close ∷ a) b = characters-append a b

-- two marked texts, and the texts that they are of
pub characters-both : {s t : List ℕ} (a b : List Mark) → characters a ≡ s → characters b ≡ t
    → characters (a ++ b) ≡ s ++ t
characters-both a b p q = let both = characters-append a b in cc

pub plain-append : (s t : List ℕ) → plain (s ++ t) ≡ plain s ++ plain t
plain-append [] t = refl
plain-append (c ∷ s) t = ap (λ ms. Character c ∷ ms) (plain-append s t)

pub openings-append : (a b : List Mark) → openings (a ++ b) ≡ openings a + openings b
openings-append [] b = omega arith
openings-append (Character _ ∷ a) b = openings-append a b
openings-append (Open _ ∷ a) b = let rest = openings-append a b in omega arith
openings-append (Close ∷ a) b = openings-append a b

pub closings-append : (a b : List Mark) → closings (a ++ b) ≡ closings a + closings b
closings-append [] b = omega arith
closings-append (Character _ ∷ a) b = closings-append a b
closings-append (Open _ ∷ a) b = closings-append a b
closings-append (Close ∷ a) b = let rest = closings-append a b in omega arith

pub openings-plain : (text : List ℕ) → openings (plain text) ≡ 0
openings-plain [] = refl
openings-plain (c ∷ text) = openings-plain text

pub closings-plain : (text : List ℕ) → closings (plain text) ≡ 0
closings-plain [] = refl
closings-plain (c ∷ text) = closings-plain text

pub Nests-plain : (text : List ℕ) → Nests (plain text)
Nests-plain [] = nothing
Nests-plain (c ∷ text) = character c (plain text) (Nests-plain text)

pub Nests-append : (a b : List Mark) → Nests a → Nests b → Nests (a ++ b)
Nests-append [] b nothing nb = nb
Nests-append (Character c ∷ _) b (character _ marks na) nb =
    character c (marks ++ b) (Nests-append marks b na nb)
Nests-append (Open name ∷ _) b (part _ inner marks ni nm) nb =
    subst (λ ms. Nests (Open name ∷ ms)) (sym (append_assoc inner (Close ∷ marks) b))
    (part name inner (marks ++ b) ni (Nests-append marks b nm nb))
Nests-append (Close ∷ _) b n nb = elim n [ ]

-- a marked text inside one part nests
pub Nests-inside : (name : PartName) (marks : List Mark) → Nests marks → Nests (inside name marks)
Nests-inside name marks nests = part name marks [] nests nothing

pub characters-inside : (name : PartName) (marks : List Mark)
    → characters (inside name marks) ≡ characters marks
characters-inside name marks = characters-append marks (Close ∷ []) ∙ append-nil (characters marks)

-- where marks nest, as many close as open
pub Nests-balanced : (marks : List Mark) → Nests marks → openings marks ≡ closings marks
Nests-balanced [] nothing = refl
Nests-balanced (Character c ∷ _) (character _ marks n) = Nests-balanced marks n
Nests-balanced (Open name ∷ _) (part _ inner marks ni nm) =
    let inside : openings inner ≡ closings inner = Nests-balanced inner ni in
    let behind : openings marks ≡ closings marks = Nests-balanced marks nm in
    let opened = openings-append inner (Close ∷ marks) in
    let closed = closings-append inner (Close ∷ marks) in
    omega arith
Nests-balanced (Close ∷ _) n = elim n [ ]

-- a front of a text is a front of the marked text of its characters
pub front_of_marks :
    {S : Type 0} (took : S → List ℕ → S → Type 0) (took_marks : S → List Mark → S → Type 0)
    (a b : S) (text : List ℕ)
    → ((a b : S) (t : List ℕ) → took a t b → took_marks a (plain t) b)
    → TookPrefix took a text b → TookPrefix took_marks a (plain text) b
front_of_marks took took_marks a b text both p = record {
  front = plain p.front;
  rest = plain p.rest;
  parts = sym (plain-append p.front p.rest) ∙ ap plain p.parts;
  taken = both a b p.front p.taken;
}

-- ---- a marked text that is written inside one part: its opening mark, the text, its closing mark

module _ {S : Type 0} (took : S → List Mark → S → Type 0)
    (both : (a b c : S) (s t : List Mark) → took a s b → took b t c → took a (s ++ t) c) where
  pub taken_inside : (a b c d : S) (name : PartName) (marks : List Mark)
      → took a (Open name ∷ []) b → took b marks c → took c (Close ∷ []) d
      → took a (inside name marks) d
  taken_inside a b c d name marks p q r =
      both a b d (Open name ∷ []) (marks ++ Close ∷ []) p (both b c d marks (Close ∷ []) q r)

  -- a front of what stands inside
  pub front_inside : (a b c : S) (name : PartName) (marks : List Mark)
      → took a (Open name ∷ []) b → TookPrefix took b marks c
      → TookPrefix took a (inside name marks) c
  front_inside a b c name marks p q =
      front_after (Open name ∷ []) (marks ++ Close ∷ []) both p
      (front_of_longer marks (Close ∷ []) q)

  -- all but the closing mark
  pub front_unclosed : (a b c d : S) (name : PartName) (marks : List Mark)
      → took a (Open name ∷ []) b → took b marks c → took c [] d
      → TookPrefix took a (inside name marks) d
  front_unclosed a b c d name marks p q r =
      front_after (Open name ∷ []) (marks ++ Close ∷ []) both p
      (front_after marks (Close ∷ []) both q
      record { front = []; rest = Close ∷ []; parts = refl; taken = r })

still_open-none : (now : Option ℕ) (marks : List Mark) → Opens None marks now → now ≡ Some 0 → ⊥
still_open-none None marks p e = cc
still_open-none (Some _) marks p e = p

still_open-some : (n m : ℕ) (now : Option ℕ) (marks : List Mark) → n + 1 ≡ m + 0
    → openings marks ≡ closings marks → Opens (Some m) marks now → now ≡ Some 0 → ⊥
still_open-some n m None marks o balanced p e = p
still_open-some n m (Some k) marks o balanced p e = let none : k ≡ 0 = cc in omega arith

-- behind an opening mark and marks that nest a part is open
pub still_open : (before one now : Option ℕ) (name : PartName) (marks : List Mark)
    → Opens before (Open name ∷ []) one → Nests marks → Opens one marks now → now ≡ Some 0 → ⊥
still_open None None now name marks o nests p e = still_open-none now marks p e
still_open (Some n) (Some m) now name marks o nests p e =
    still_open-some n m now marks o (Nests-balanced marks nests) p e
still_open None (Some _) now name marks o nests p e = o
still_open (Some _) None now name marks o nests p e = o
