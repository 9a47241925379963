-- Pieces that are appended to a text.
use Rattle.std.proofs.Common.{◌≡◌, ℕ, ◌<◌, Bool, true, false, ◌⊎◌, inl, inr, List, [], ◌∷◌, ◌++◌}
use Rattle.std.proofs.Common.{length, refl, sym, ap, ◌∙◌, cond, arith, append_assoc, append-nil}
use Rattle.std.proofs.Common.{map}
use Rattle.std.specs.Prelude.{IsTrue, ◌&&◌}
use Rattle.std.specs.List.{list_all, list_any, onto_first}
use Rattle.std.specs.Str.{byte, bytes_eq}
use Rattle.std.proofs.lemmas.Bool.Decides.{nat_tests}
use Rattle.language_tags_grammar.specs.Pieces.{dashed, is_dash, pieces}
use Rattle.language_tags_grammar.specs.Shapes.{is_variant}
use Rattle.language_tags_grammar.specs.Tag.{Tag, Whole, Plain, variants_of}
use Rattle.language_tags_grammar.specs.Lemmas.KeptLaws.{dashed-append, pieces-dashed, smalls-clean}
use Rattle.language_tags_grammar.specs.Lemmas.PartsLaws.{variant-small}
use Rattle.language_tags_grammar.specs.Lemmas.PieceLaws.{some_piece}
use Rattle.language_tags.specs.Canon.{not_written}
use Rattle.language_tags.specs.CanonText.{IsShaped}

-- ---- pieces of two texts with a dash between them

onto-append : (c : ℕ) (xs ys : List (List ℕ)) → 0 < length xs
    → onto_first c (xs ++ ys) ≡ onto_first c xs ++ ys
onto-append c [] ys h = absurd (omega arith)
onto-append c (x ∷ xs) ys h = refl

pub pieces-dash : (t x : List ℕ) → pieces (t ++ (byte "-" ∷ x)) ≡ pieces t ++ pieces x
pieces-dash [] x = refl
pieces-dash (c ∷ t) x = by (is_dash c) (pieces-dash t x)
  where
    by : (b : Bool) → pieces (t ++ (byte "-" ∷ x)) ≡ pieces t ++ pieces x
        → cond b ([] ∷ pieces (t ++ (byte "-" ∷ x))) (onto_first c (pieces (t ++ (byte "-" ∷ x))))
        ≡ cond b ([] ∷ pieces t) (onto_first c (pieces t)) ++ pieces x
    by true e = ap (λ q. [] ∷ q) e
    by false e = ap (onto_first c) e ∙ onto-append c (pieces t) (pieces x) (some_piece t)

pub variant-piece : (x : List ℕ) → is_variant x ≡ true → pieces x ≡ x ∷ []
variant-piece x h =
    ap pieces (sym (append-nil x)) ∙ pieces-dashed x [] (smalls-clean x (variant-small x h)) refl

-- ---- one variant

module _ (old x : List ℕ) where
  abbrev N : List (List ℕ)
  N = not_written (pieces old) (x ∷ [])

  none : list_any (bytes_eq x) (pieces old) ≡ true → N ≡ []
  none e = ap (λ b. cond b [] (x ∷ [])) e

  one : list_any (bytes_eq x) (pieces old) ≡ false → N ≡ x ∷ []
  one e = ap (λ b. cond b [] (x ∷ [])) e

  pub stays-text : list_any (bytes_eq x) (pieces old) ≡ true → old ≡ old ++ dashed N
  stays-text e = sym (ap (λ n. old ++ dashed n) (none e) ∙ append-nil old)

  pub stays-pieces : list_any (bytes_eq x) (pieces old) ≡ true → pieces old ≡ pieces old ++ N
  stays-pieces e = sym (ap (λ n. pieces old ++ n) (none e) ∙ append-nil (pieces old))

  pub grows-text : (new : List ℕ) → list_any (bytes_eq x) (pieces old) ≡ false
      → new ≡ old ++ (byte "-" ∷ x) → new ≡ old ++ dashed N
  grows-text new e h =
      h ∙ ap (λ u. old ++ (byte "-" ∷ u)) (sym (append-nil x))
      ∙ ap (λ n. old ++ dashed n) (sym (one e))

  pub grows-pieces : (new : List ℕ) → is_variant x ≡ true
      → list_any (bytes_eq x) (pieces old) ≡ false
      → new ≡ old ++ (byte "-" ∷ x) → pieces new ≡ pieces old ++ N
  grows-pieces new v e h =
      ap pieces h ∙ pieces-dash old x ∙ ap (λ q. pieces old ++ q) (variant-piece x v)
      ∙ ap (λ n. pieces old ++ n) (sym (one e))

-- ---- all variants

not_written-step : (W : List (List ℕ)) (x : List ℕ) (xs : List (List ℕ))
    → not_written W (x ∷ xs) ≡ not_written W (x ∷ [])
    ++ not_written (W ++ not_written W (x ∷ [])) xs
not_written-step W x xs = by (list_any (bytes_eq x) W)
  where
    by : (b : Bool) → cond b (not_written W xs) (x ∷ not_written (W ++ x ∷ []) xs)
        ≡ cond b [] (x ∷ []) ++ not_written (W ++ cond b [] (x ∷ [])) xs
    by true = ap (λ u. not_written u xs) (sym (append-nil W))
    by false = refl

all-append : (xs ys : List (List ℕ)) → list_all is_variant xs ≡ true → list_all is_variant ys ≡ true
    → list_all is_variant (xs ++ ys) ≡ true
all-append [] ys h k = k
all-append (x ∷ xs) ys h k =
    let head : is_variant x ≡ true = grind (arith, nat_tests) in
    let tail : list_all is_variant xs ≡ true = grind (arith, nat_tests) in
    λ i. head i && all-append xs ys tail k i

-- the step of the loop: the text and the pieces with this variant, and the others
module _ (f : List ℕ → List ℕ) (cur new x v : List ℕ) (it rest : List (List ℕ))
    (step : it ≡ x ∷ rest) (is : v ≡ f x)
    (text : new ≡ cur ++ dashed (not_written (pieces cur) (v ∷ [])))
    (ps : pieces new ≡ pieces cur ++ not_written (pieces cur) (v ∷ [])) where
  same : not_written (pieces cur) (map f it) ≡ not_written (pieces cur) (v ∷ [])
      ++ not_written (pieces new) (map f rest)
  same =
      ap (λ q. not_written (pieces cur) (map f q)) step
      ∙ ap (λ q. not_written (pieces cur) (q ∷ map f rest)) (sym is)
      ∙ not_written-step (pieces cur) v (map f rest)
      ∙ ap (λ q. not_written (pieces cur) (v ∷ []) ++ not_written q (map f rest)) (sym ps)

  pub variant-text : (whole : List ℕ) → cur ++ dashed (not_written (pieces cur) (map f it)) ≡ whole
      → new ++ dashed (not_written (pieces new) (map f rest)) ≡ whole
  variant-text whole h =
      ap (λ t. t ++ dashed (not_written (pieces new) (map f rest))) text
      ∙ append_assoc cur (dashed (not_written (pieces cur) (v ∷ [])))
      (dashed (not_written (pieces new) (map f rest)))
      ∙ ap (λ q. cur ++ q)
      (sym
      (dashed-append (not_written (pieces cur) (v ∷ []))
      (not_written (pieces new) (map f rest))))
      ∙ ap (λ q. cur ++ dashed q) (sym same) ∙ h

  one-shape : (b : Bool) → is_variant v ≡ true → list_all is_variant (cond b [] (v ∷ [])) ≡ true
  one-shape true h = refl
  one-shape false h = λ i. h i && true

  pub variant-shape : is_variant v ≡ true
      → list_all is_variant (not_written (pieces new) (map f rest)) ≡ true
      → list_all is_variant (not_written (pieces cur) (map f it)) ≡ true
  variant-shape h k =
      ap (list_all is_variant) same
      ∙ all-append (not_written (pieces cur) (v ∷ [])) (not_written (pieces new) (map f rest))
      (one-shape (list_any (bytes_eq v) (pieces cur)) h) k

pub shaped-variants : (g : Tag) → IsShaped g → list_all is_variant (variants_of g) ≡ true
shaped-variants (Whole text) h = absurd h
shaped-variants (Plain p) h = h.variants

pub replaced-variant : (v x : List ℕ) → (v ≡ x) ⊎ IsTrue (is_variant v) → is_variant x ≡ true
    → is_variant v ≡ true
replaced-variant v x (inl e) h = ap is_variant e ∙ h
replaced-variant v x (inr k) h = k

pub head-variant : (it rest : List (List ℕ)) (x : List ℕ) → it ≡ x ∷ rest
    → list_all is_variant it ≡ true → is_variant x ≡ true
head-variant it rest x e h =
    let both : is_variant x && list_all is_variant rest ≡ true =
    ap (list_all is_variant) (sym e) ∙ h in grind (arith, nat_tests)

pub tail-variants : (it rest : List (List ℕ)) (x : List ℕ) → it ≡ x ∷ rest
    → list_all is_variant it ≡ true → list_all is_variant rest ≡ true
tail-variants it rest x e h =
    let both : is_variant x && list_all is_variant rest ≡ true =
    ap (list_all is_variant) (sym e) ∙ h in grind (arith, nat_tests)

pub text-done : (f : List ℕ → List ℕ) (cur : List ℕ) (it : List (List ℕ)) (whole : List ℕ) → it ≡ []
    → cur ++ dashed (not_written (pieces cur) (map f it)) ≡ whole → cur ≡ whole
text-done f cur it whole e h =
    sym (append-nil cur) ∙ sym (ap (λ q. cur ++ dashed (not_written (pieces cur) (map f q))) e) ∙ h

pub all-done : (f : List ℕ → List ℕ) (cur : List ℕ) (it : List (List ℕ)) → it ≡ []
    → list_all is_variant (not_written (pieces cur) (map f it)) ≡ true
all-done f cur it e = ap (λ q. list_all is_variant (not_written (pieces cur) (map f q))) e
