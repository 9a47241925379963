-- The nested substitution, from left to right.
use Rattle.std.specs.Prelude.{◌==◌}
use Rattle.std.proofs.Common.{◌≡◌, ℕ, Bool, true, false, List, [], ◌∷◌, ◌++◌, length, map, refl}
use Rattle.std.proofs.Common.{sym, ap, ◌∙◌, arith, append_assoc}
use Rattle.std.proofs.lemmas.Bool.{eqb-true}
use Rattle.icu_list.specs.Pattern.{Pattern}
use Rattle.icu_list.specs.Patterns.{Closing, Patterns, end_for, two_for}
use Rattle.icu_list.specs.Joined.{two, start, middle, rest, nested, last_of}
use Rattle.icu_list.specs.Frames.{frame_two, frame_more, frame_for, left, whole}

module _ {A : Type 0} (literal : List ℕ → List A) (p : Patterns) (closing : Closing)
    (z : List A) where
  -- items with a text before each
  abbrev behind_all : List (List A) → List A
  behind_all xs = left literal (frame_more p closing) z p.middle xs

  -- a step of the middle pattern
  on : (m x : List A) (xs items : List (List A))
      → rest literal p.middle closing x items ≡ x ++ behind_all xs
      → middle literal p.middle m (rest literal p.middle closing x items) ≡ m ++ behind_all (x ∷ xs)
  on m x xs items e =
      ap (λ y. m ++ (literal p.middle ++ y)) e
      ∙ ap (λ y. m ++ y) (sym (append_assoc (literal p.middle) x (behind_all xs)))

  -- the items behind the first, from left to right
  rest_left : (m : List A) (xs : List (List A))
      → rest literal p.middle closing m (xs ++ z ∷ []) ≡ m ++ behind_all xs
  rest_left m [] =
      ap (λ y. m ++ y) (sym (append_assoc (literal closing.between) z (literal closing.suffix)))
  rest_left m (x ∷ []) = on m x [] (z ∷ []) (rest_left x [])
  rest_left m (x ∷ y ∷ xs) = on m x (y ∷ xs) (y ∷ (xs ++ z ∷ [])) (rest_left x (y ∷ xs))

  -- the start pattern round all that follows
  started : (a x : List A) (xs items : List (List A))
      → rest literal p.middle closing x items ≡ x ++ behind_all xs
      → start literal p.start a (rest literal p.middle closing x items)
      ≡ whole literal (frame_more p closing) a (x ∷ xs) z
  started a x xs items e =
      ap (λ y. literal p.start.prefix ++ (a ++ (literal p.start.between ++ y))) e
      ∙ ap (λ y. literal p.start.prefix ++ (a ++ y))
      (sym (append_assoc (literal p.start.between) x (behind_all xs)))
      ∙ sym
      (append_assoc (literal p.start.prefix) a
      ((literal p.start.between ++ x) ++ behind_all xs))

module _ {A : Type 0} (literal : List ℕ → List A) (p : Patterns) (last : List ℕ)
    (a z : List A) where
  -- a list of two, from left to right
  two_whole : (q : Pattern) → two literal q a z ≡ whole literal (frame_two q) a [] z
  two_whole q =
      ap (λ y. literal q.prefix ++ (a ++ y))
      (sym (append_assoc (literal q.between) z (literal q.suffix)))
      ∙ sym (append_assoc (literal q.prefix) a ((literal q.between ++ z) ++ literal q.suffix))

  -- the nested substitution is the frame's text
  pub nested_whole : (xs : List (List A)) (b : Bool) → b ≡ (length xs == 0)
      → nested literal p last (a ∷ (xs ++ z ∷ [])) ≡ whole literal (frame_for p b last) a xs z
  nested_whole [] true e = two_whole (two_for p last)
  nested_whole [] false e = absurd cc
  nested_whole (x ∷ xs) true e = let none = eqb-true (length (x ∷ xs)) 0 (sym e) in
      absurd (omega (arith, none))
  nested_whole (x ∷ []) false e =
      started literal p (end_for p last) z a x [] (z ∷ [])
      (rest_left literal p (end_for p last) z x [])
  nested_whole (x ∷ y ∷ xs) false e =
      started literal p (end_for p last) z a x (y ∷ xs) (y ∷ (xs ++ z ∷ []))
      (rest_left literal p (end_for p last) z x (y ∷ xs))

-- the last of some items
pub last_of-last : (xs : List (List ℕ)) (a z : List ℕ) → last_of (a ∷ (xs ++ z ∷ [])) ≡ z
last_of-last [] a z = refl
last_of-last (x ∷ xs) a z = last_of-last xs x z

-- what is made of the last item stands last
pub map-last : {X Y : Type 0} (f : X → Y) (xs : List X) (z : X)
    → map f (xs ++ z ∷ []) ≡ map f xs ++ f z ∷ []
map-last f [] z = refl
map-last f (x ∷ xs) z = ap (λ ys. f x ∷ ys) (map-last f xs z)
