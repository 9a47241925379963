-- The turns of a loop over the items between the first and the last.
use Rattle.std.proofs.Common.{◌≡◌, ℕ, suc, ◌+◌, ◌<◌, ◌≤◌, Bool, List, [], ◌∷◌, ◌++◌, length, drop}
use Rattle.std.proofs.Common.{get_or, map, ◌-◌, refl, sym, ap, ◌∙◌, arith, add-one, drop-cons}
use Rattle.std.specs.Prelude.{◌==◌, Result, Ok, Err, OnOk, OnErr}
use Rattle.std.proofs.lemmas.List.{length-drop, length-map}
use Rattle.writeable_core.specs.Marks.{Mark}
use Rattle.icu_list.specs.Patterns.{Patterns}
use Rattle.icu_list.specs.Joined.{nested, as_it_is, joined, element, literal, marked_joined}
use Rattle.icu_list.specs.Joined.{last_of}
use Rattle.icu_list.specs.Frames.{Frame, frame_for, left, whole}
use Rattle.icu_list.proofs.Framing.{nested_whole, last_of-last, map-last}

-- the items from the one of this turn on
at_turn : {W : Type 0} (xs : List W) (i : ℕ) (x : W) → i < length xs → x ≡ get_or xs i x
    → drop i xs ≡ x ∷ drop (i + 1) xs
at_turn xs i x lt is = rw add-one (drop-cons xs i x lt ∙ ap (λ y. y ∷ drop (suc i) xs) (sym is))

-- no item is left
no_more : {W : Type 0} (xs : List W) (i : ℕ) → length xs ≤ i → drop i xs ≡ []
no_more {W} xs i le = by (drop i xs) (length-drop i xs) where
  by : (ys : List W) → length ys ≡ length xs - i → ys ≡ []
  by [] e = refl
  by (y ∷ ys) e = absurd (omega arith)

module _ {A W : Type 0} (literal : List ℕ → List A) (f : Frame) (z : List A) (between : List ℕ)
    (items : List W → List (List A)) where
  -- one item less is left
  pub step_left : (text : W → List A) → ((x : W) (ys : List W) → items (x ∷ ys) ≡ text x ∷ items ys)
      → (xs : List W) (i : ℕ) (x : W) → i < length xs → x ≡ get_or xs i x
      → left literal f z between (items (drop i xs)) ≡ (literal between ++ text x)
      ++ left literal f z f.between (items (drop (i + 1) xs))
  step_left text cons xs i x lt is =
      ap (λ ys. left literal f z between (items ys)) (at_turn xs i x lt is)
      ∙ ap (left literal f z between) (cons x (drop (i + 1) xs))

  -- nothing is left behind the last item
  pub end_left : items [] ≡ [] → (xs : List W) (i : ℕ) → length xs ≤ i
      → left literal f z between (items (drop i xs)) ≡ (literal f.last ++ z) ++ literal f.behind
  end_left none xs i le =
      ap (λ ys. left literal f z between (items ys)) (no_more xs i le)
      ∙ ap (left literal f z between) none

-- what follows of a success
pub ok_map : {T E P Q : Type 0} (r : Result T E) → (P → Q) → OnOk r P → OnOk r Q
ok_map (Ok x) f p = f p
ok_map (Err e) f p = tt

-- what follows of a refusal
pub err_map : {T E P Q : Type 0} (r : Result T E) → (P → Q) → OnErr r P → OnErr r Q
err_map (Ok x) f p = tt
err_map (Err e) f p = f p

-- ---- all items

module _ {W : Type 0} (p : Patterns) (text : W → List ℕ) where
  -- the text of no item
  pub none_joined : (values : List W) → length values ≡ 0 → [] ≡ joined p (map text values)
  none_joined [] e = refl
  none_joined (x ∷ xs) e = absurd (omega arith)

  -- the text of one item
  pub one_joined : (values others : List W) (first : W) → values ≡ first ∷ others
      → length others ≡ 0 → text first ≡ joined p (map text values)
  one_joined values [] first e f = ap (λ ys. joined p (map text ys)) (sym e)
  one_joined values (x ∷ xs) first e f = absurd (omega arith)

  -- the text of more items
  pub all_joined : (values others inner : List W) (first last : W) (b : Bool) (f : Frame)
      → values ≡ first ∷ others → others ≡ inner ++ last ∷ [] → b ≡ (length inner == 0)
      → f ≡ frame_for p b (text last)
      → whole as_it_is f (text first) (map text inner) (text last) ≡ joined p (map text values)
  all_joined values others inner first last b f e o empty frame =
      let items : map text values ≡ text first ∷ (map text inner ++ text last ∷ []) =
      ap (map text) e ∙ ap (λ ys. text first ∷ map text ys) o
      ∙ ap (λ ys. text first ∷ ys) (map-last text inner last) in
      let size : b ≡ (length (map text inner) == 0) =
      empty ∙ ap (λ n. n == 0) (sym (length-map inner text)) in
      ap (λ (g : Frame). whole as_it_is g (text first) (map text inner) (text last)) frame
      ∙ sym (nested_whole as_it_is p (text last) (text first) (text last) (map text inner) b size)
      ∙ ap (λ (l : List ℕ). nested as_it_is p l (text first ∷ (map text inner ++ text last ∷ [])))
      (sym (last_of-last (map text inner) (text first) (text last)))
      ∙ ap (joined p) (sym items)

module _ {W : Type 0} (p : Patterns) (text : W → List ℕ) (marked : W → List Mark) where
  -- the marked text of no item
  pub none_marked : (values : List W) → length values ≡ 0
      → [] ≡ marked_joined p (map text values) (map marked values)
  none_marked [] e = refl
  none_marked (x ∷ xs) e = absurd (omega arith)

  -- the marked text of one item
  pub one_marked : (values others : List W) (first : W) → values ≡ first ∷ others
      → length others ≡ 0
      → element (marked first) ≡ marked_joined p (map text values) (map marked values)
  one_marked values [] first e f = ap (λ ys. marked_joined p (map text ys) (map marked ys)) (sym e)
  one_marked values (x ∷ xs) first e f = absurd (omega arith)

  -- the marked text of more items
  pub all_marked : (values others inner : List W) (first last : W) (b : Bool) (f : Frame)
      → values ≡ first ∷ others → others ≡ inner ++ last ∷ [] → b ≡ (length inner == 0)
      → f ≡ frame_for p b (text last)
      → whole literal f (element (marked first)) (map element (map marked inner))
      (element (marked last)) ≡ marked_joined p (map text values) (map marked values)
  all_marked values others inner first last b f e o empty frame =
      let texts : map text values ≡ text first ∷ (map text inner ++ text last ∷ []) =
      ap (map text) e ∙ ap (λ ys. text first ∷ map text ys) o
      ∙ ap (λ ys. text first ∷ ys) (map-last text inner last) in
      let marks : map marked values ≡ marked first ∷ (map marked inner ++ marked last ∷ []) =
      ap (map marked) e ∙ ap (λ ys. marked first ∷ map marked ys) o
      ∙ ap (λ ys. marked first ∷ ys) (map-last marked inner last) in
      let elements : map element (map marked values)
      ≡ element (marked first)
      ∷ (map element (map marked inner) ++ element (marked last) ∷ []) =
      ap (map element) marks
      ∙ ap (λ ys. element (marked first) ∷ ys)
      (map-last element (map marked inner) (marked last)) in
      let size : b ≡ (length (map element (map marked inner)) == 0) =
      empty
      ∙ ap (λ n. n == 0)
      (sym (length-map (map marked inner) element ∙ length-map inner marked)) in
      ap
      (λ (g : Frame). whole literal g (element (marked first)) (map element (map marked inner))
      (element (marked last))) frame
      ∙ sym
      (nested_whole literal p (text last) (element (marked first)) (element (marked last))
      (map element (map marked inner)) b size)
      ∙ ap
      (λ (l : List ℕ). nested literal p l
      (element (marked first)
      ∷ (map element (map marked inner) ++ element (marked last) ∷ [])))
      (sym (ap last_of texts ∙ last_of-last (map text inner) (text first) (text last)))
      ∙ ap (nested literal p (last_of (map text values))) (sym elements)
