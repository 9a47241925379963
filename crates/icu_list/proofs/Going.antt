-- A text that is written piece by piece: what was taken so far, and what is left.
use Rattle.std.proofs.Common.{◌≡◌, List, ◌++◌, refl, subst, ◌∙◌, append_assoc}
use Rattle.writeable_core.specs.Sink.{TookPrefix}
use Rattle.writeable_core.specs.SinkLaws.{front_of_longer, front_after}

pub record Going {S A : Type 0} (took : S → List A → S → Type 0) (old now : S)
    (whole left : List A) : Type 0 where
  pub front : List A
  pub taken : took old front now
  pub parts : front ++ left ≡ whole

module _ {S A : Type 0} (took : S → List A → S → Type 0)
    (both : (a b c : S) (s t : List A) → took a s b → took b t c → took a (s ++ t) c) where
  -- one piece was taken, and the rest is left
  pub going_first : (a b : S) (piece left : List A) → took a piece b
      → Going took a b (piece ++ left) left
  going_first a b piece left h = record { front = piece; taken = h; parts = refl }

  -- one piece more was taken
  pub going_on : (a b c : S) (whole piece left : List A) → Going took a b whole (piece ++ left)
      → took b piece c → Going took a c whole left
  going_on a b c whole piece left g h = record {
    front = g.front ++ piece;
    taken = both a b c g.front piece g.taken h;
    parts = append_assoc g.front piece left ∙ g.parts;
  }

  -- a piece was taken in part
  pub stopped : (a b c : S) (whole piece left : List A) → Going took a b whole (piece ++ left)
      → TookPrefix took b piece c → TookPrefix took a whole c
  stopped a b c whole piece left g h =
      subst (λ (t : List A). TookPrefix took a t c) (append_assoc g.front piece left ∙ g.parts)
      (front_of_longer (g.front ++ piece) left (front_after g.front piece both g.taken h))

  -- the last piece was taken
  pub ended : (a b c : S) (whole piece : List A) → Going took a b whole piece → took b piece c
      → took a whole c
  ended a b c whole piece g h =
      subst (λ (t : List A). took a t c) g.parts (both a b c g.front piece g.taken h)

  -- the last piece was taken in part
  pub ended_front : (a b c : S) (whole piece : List A) → Going took a b whole piece
      → TookPrefix took b piece c → TookPrefix took a whole c
  ended_front a b c whole piece g h =
      subst (λ (t : List A). TookPrefix took a t c) g.parts
      (front_after g.front piece both g.taken h)
